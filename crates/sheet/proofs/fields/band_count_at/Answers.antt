-- `band_count_at` meets its contract: the bands stand behind the flow rows. Assumes nothing.
use mathlib.Core.Path.{sym, ap, ◌∙◌}
use native.Mathlib.Omega.{arith}
use Rattle.model.specs.Ranges.{flow_section}
use Rattle.model.specs.Sheet.{section_end}
use Rattle.sheet.proofs.BandSections.{band-first}
use Rattle.sheet.proofs.fields.band_count_at.Goals as goal

pub returns : goal.returns
returns c = (
  λ e. c.section_end.ensures.0 ∙ ap (λ at. section_end c.args.sheet.now at flow_section) c.flow_row_count_at.ensures.0 ∙ sym (band-first _ e),
  omega arith,
)
