-- A number that is not outside its range lies in it, and so does a flow that passes test 10.
use mathlib.Core.Path.{◌≡◌, refl}
use mathlib.Core.Bool.{false, ◌||◌}
use Prim.Native.Nat.{ℕ, ◌≤◌}
use borrow.Author.Tests.{ltb-false}
use Rattle.lists.proofs.Shorter.{neither}
use lib.IntN.{ℤ, pos, negsuc}
use lib.Signed.{lt_z}
use native.Mathlib.Omega.{arith}
use Rattle.model.specs.Ranges.{Range, outside, flows}
use Rattle.model.specs.HalfStep.{natural}

pub inside : (range : Range) (x : ℕ) → outside range x ≡ false → (range.low ≤ x) × (x ≤ range.high)
unfolding outside
inside range x e = let both = neither _ _ e in (ltb-false _ _ both.0, ltb-false _ _ both.1)

-- what test 10 leaves of a flow
pub record FlowRange (flow : ℤ) : Type 0 where
  pub low : lt_z flow (pos 0) ≡ false
  pub is : flow ≡ pos (natural flow)
  pub high : natural flow ≤ flows.high

pub flow-range : (flow : ℤ) → lt_z flow (pos flows.low) || lt_z (pos flows.high) flow ≡ false → FlowRange flow
flow-range (pos n) e = let h = neither _ _ e in record { low = h.0; is = refl; high = ltb-false flows.high n h.1 }
flow-range (negsuc n) e = let z : ◌≡◌ {A = ℕ} 0 1 = cc in absurd (omega arith)
