-- `floor_div` meets its contract.
use mathlib.Core.Path.{◌≡◌, refl}
use Prim.Native.Nat.{ℕ}
use native.Mathlib.Omega.{arith}
use mir.ValLaws.{to_z-of_z}
use lib.IntN.{ℤ, pos, negsuc}
use Rattle.std.specs.Int.{int_div_euclid}
use Rattle.rounding.specs.Floor.{floor_div}
use Rattle.rounding.proofs.signed.floor_div.Goals as goal

-- by a divisor above 0, the Euclidean division rounds down
rounds_down : (x : ℤ) (d : ℕ) → int_div_euclid x (pos d) ≡ floor_div x d
unfolding floor_div
rounds_down (pos n) d = refl
rounds_down (negsuc n) d = refl

pub returns : goal.returns
returns c = grind (arith, to_z-of_z, rounds_down)
