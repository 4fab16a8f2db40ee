-- Laws of a sheet's flows by their numbers.
use mathlib.Core.Path.{◌≡◌, ap}
use mathlib.Core.List.{List}
use Prim.Native.Nat.{ℕ, zero, suc, ◌-◌, ◌<◌, ◌≤◌}
use native.Mathlib.Omega.{arith}
use borrow.Author.Tests.{le-leb, lt-leb}
use Rattle.model.specs.Sheet.{top_flow, flow_row_top}
use Rattle.model.specs.Flow.{top_of, last_begun}

less_one : (r : ℕ) → suc r - 1 ≡ r
less_one r = omega arith

module _ (sheet : List ℕ) where
  -- flow 0
  pub top-first : (r : ℕ) → r ≡ 0 → top_flow sheet ≡ top_of sheet r
  unfolding top_of
  top-first r e = rw e

  -- a row's
  pub top-row : (r : ℕ) → 0 < r → flow_row_top sheet (r - 1) ≡ top_of sheet r
  unfolding top_of
  top-row zero h = absurd (omega arith)
  top-row (suc r) h = ap (flow_row_top sheet) (less_one r)

module _ (j : ℕ) (start : ℕ → ℕ) where
  -- the last of r rows has begun
  pub begun-last : (r : ℕ) → 0 < r → start (r - 1) ≤ j → last_begun j start r ≡ r
  unfolding last_begun
  begun-last zero h l = absurd (omega arith)
  begun-last (suc r) h l = rw (le-leb _ _ (rw (less_one r) at l))

  -- it has not
  pub begun-before : (r : ℕ) → 0 < r → j < start (r - 1) → last_begun j start r ≡ last_begun j start (r - 1)
  unfolding last_begun
  begun-before zero h l = absurd (omega arith)
  begun-before (suc r) h l = rw (lt-leb _ _ (rw (less_one r) at l), less_one r)
