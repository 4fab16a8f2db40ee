use mathlib.Core.Path.{◌∙◌}
use Prim.Native.Nat.{ℕ}
use Rattle.std.proofs.Common.{rules}
use Rattle.std.proofs.lemmas.Iterator.{YieldsList-from_range}
use Rattle.std.proofs.lemmas.Iterator.Search.{any_from_yields_List}
use Rattle.model.specs.Bands.{overlap}
use Rattle.bands.specs.Bands.{band_says, bands_say}
use Rattle.lists.proofs.AnyBelow.{below-any}
use Rattle.bands.proofs.place.Bands.overlaps.Goals as goal

pub returns : goal.returns
returns c =
    let n = c.args.i in
    let test = λ (j : ℕ). overlap (band_says c.args.band) ((bands_say c.args.sheet.now c.args.self).band j) in
    any_from_yields_List test _ _ _ c.any.ensures.ran (YieldsList-from_range 0 n n (search rules) (search rules)) (λ x b q k. search rules)
    ∙ below-any test n
