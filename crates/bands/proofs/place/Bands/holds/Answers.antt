-- `Bands::holds` meets its contract: the two ends of band j are its first fields. Assumes nothing.
use mathlib.Core.Path.{ap, ◌∙◌}
use mathlib.Core.Bool.{not}
use native.Mathlib.Omega.{arith}
use Rattle.model.specs.Bands.{holds}
use Rattle.bands.proofs.Banded.{band-field}
use Rattle.bands.proofs.place.Bands.holds.Goals as goal

pub returns : goal.returns
unfolding holds
returns c =
    let a = c.args in
    ap not c.outside.ensures
    ∙ rw (
      c.field.ensures ∙ band-field a.sheet.now a.self.at a.j 0 (omega arith),
      c.field-2.ensures ∙ band-field a.sheet.now a.self.at a.j 1 (omega arith),
    )
