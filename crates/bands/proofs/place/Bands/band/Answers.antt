-- `Bands::band` meets its contract: band j begins 4 + 20 j bytes behind its count. Assumes nothing.
use mathlib.Core.Path.{◌∙◌}
use native.Mathlib.Omega.{arith}
use Rattle.bands.proofs.Banded.{band-field}
use Rattle.bands.proofs.place.Bands.band.Goals as goal

pub returns : goal.returns
returns c =
    let a = c.args in
    rw (
      c.field.ensures ∙ band-field a.sheet.now a.self.at a.j 0 (omega arith),
      c.field-2.ensures ∙ band-field a.sheet.now a.self.at a.j 1 (omega arith),
      c.field-3.ensures ∙ band-field a.sheet.now a.self.at a.j 2 (omega arith),
      c.field-4.ensures ∙ band-field a.sheet.now a.self.at a.j 3 (omega arith),
      c.field-5.ensures ∙ band-field a.sheet.now a.self.at a.j 4 (omega arith),
    )
