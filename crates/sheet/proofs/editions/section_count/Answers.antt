-- `section_count` meets its contract, in the editions without flow rows, with them, and with bands. Assumes nothing.
use mathlib.Core.Path.{sym, ap, ◌∙◌}
use native.Mathlib.Omega.{arith}
use lib.ListN.{length-replicate}
use Rattle.std.specs.Prelude.{Some}
use Rattle.model.specs.Ranges.{band_section}
use Rattle.model.specs.Sheet.{reach_count, sections}
use Rattle.sheet.specs.Editions.{mark_says}
use Rattle.sheet.proofs.editions.section_count.Goals as goal

pub returns-in-Some-Otr2 : goal.returns-in-Some-Otr2
unfolding sections
returns-in-Some-Otr2 c =
    (rw (sym c.edition.ensures ∙ ap mark_says (c.in-Some-Otr2.is ∙ ap Some c.in-Some-Otr2.field-0-is)), omega arith)

pub returns-in-Some-Otr3 : goal.returns-in-Some-Otr3
unfolding sections
returns-in-Some-Otr3 c = (
  rw (sym c.edition.ensures ∙ ap mark_says (c.in-Some-Otr3.is ∙ ap Some c.in-Some-Otr3.field-0-is), c.reach_count.ensures)
      (omega (arith, length-replicate (reach_count c.args.sheet.now) band_section)),
  omega arith,
)

pub returns-in-None : goal.returns-in-None
unfolding sections
returns-in-None c = (rw (sym c.edition.ensures ∙ ap mark_says c.in-None.is), omega arith)

pub returns-in-Some-Otr1 : goal.returns-in-Some-Otr1
unfolding sections
returns-in-Some-Otr1 c =
    (rw (sym c.edition.ensures ∙ ap mark_says (c.in-Some-Otr1.is ∙ ap Some c.in-Some-Otr1.field-0-is)), omega arith)
