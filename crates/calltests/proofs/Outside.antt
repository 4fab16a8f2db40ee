-- Laws of single tests.
use mathlib.Core.Path.{◌≡◌}
use Prim.Native.Nat.{ℕ}
use native.Mathlib.Omega.{arith}
use borrow.Author.Tests.{le-ltb}
use lib.Dec.{ltb}
use Rattle.model.specs.Ranges.{◌to◌, outside}

-- nothing is below 0
pub outside-top : (high x : ℕ) → outside (0 to high) x ≡ ltb high x
unfolding outside
outside-top high x = rw (le-ltb x 0 (omega arith))
