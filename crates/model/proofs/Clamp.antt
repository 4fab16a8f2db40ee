-- "when the upward pass is over, anything above 1,000,000,000 becomes that": C' above is worked out from the uncut C' below.
use mathlib.Core.Path.{◌≡◌, refl}
use mathlib.Core.List.{[], ◌∷◌}
use Prim.Native.Nat.{◌^◌}
use Rattle.rounding.specs.Nearest.{nearest}
use Rattle.model.specs.Sweep.{up}

-- half of 1,000,000,002 is carried up, and not half of 1,000,000,000
pub carried-uncut : up (record { p = 2 ^ 29; y = 0 } ∷ record { p = 0; y = 1000000002 } ∷ []) ≡ 500000001 ∷ 1000000002 ∷ []
unfolding nearest
carried-uncut = refl
