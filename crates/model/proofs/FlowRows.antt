-- Laws of flow rows: OTR1 is the case of no rows, the flow in force is the last that has begun, and where it does not change in a step, the
-- right sides of the step are document 01's own.
use mathlib.Core.Path.{◌≡◌, refl, sym, ap, ◌∙◌}
use mathlib.Core.Bool.{Bool, true, false, cond}
use mathlib.Core.List.{List}
use mathlib.Core.Logic.{⊎_elim}
use Prim.Native.Nat.{ℕ, zero, suc, ◌+◌, ◌-◌, ◌*◌, ◌<◌, ◌≤◌}
use native.Mathlib.Nat.{eq-or-lt_of_le, lt_of_not-le}
use native.Mathlib.Decide.{dec_le}
use native.Mathlib.Omega.{arith}
use borrow.Author.Tests.{leb-true, leb-false}
use lib.Dec.{leb}
use Rattle.rounding.specs.Nearest.{S}
use Rattle.model.specs.Sheet.{edition, flow_row_count, flow_row_start}
use Rattle.model.specs.Flow.{last_begun, flow_in_force, course_of}
use Rattle.model.specs.HalfStep.{site_at, numbers}
use Rattle.model.specs.Equations.{Figures, Pair, sum_t, sum_v, channel_right, storage_right, sediment_right}
use Rattle.model.specs.Load.{loaded}
use Rattle.model.specs.Runs.{sheet_pair}

-- ---- OTR1

module _ (sheet : List ℕ) (first : edition sheet ≡ 1) where
  -- "(both 0 in OTR1)"
  pub count_none : flow_row_count sheet ≡ 0
  unfolding flow_row_count
  count_none = rw first

  pub begin-none : (loaded sheet).flow_rows_at ≡ 0
  unfolding loaded
  begin-none = rw first

  -- the flow at the top is in force at every step
  pub always-top : (j : ℕ) → flow_in_force sheet j ≡ 0
  unfolding flow_in_force last_begun
  always-top j = rw count_none

  -- so that a step has the same numbers on both sides
  pub same_numbers : (n i : ℕ) → (sheet_pair sheet n i).old ≡ (sheet_pair sheet n i).new
  same_numbers n i = ap (λ r. numbers (site_at (course_of sheet r) i)) (always-top n ∙ sym (always-top (suc n)))

-- ---- the flow in force

-- the row of flow r has begun at step j, which the flow at the top always has
abbrev pub Begun : (j : ℕ) → (start : ℕ → ℕ) → ℕ → Type 0
Begun j start zero = Unit {0}
Begun j start (suc r) = start r ≤ j

-- flow r has, and of n rows none behind it has
pub record InForce (j : ℕ) (start : ℕ → ℕ) (n r : ℕ) : Type 0 where
  pub known : r ≤ n
  pub begun : Begun j start r
  pub later : (i : ℕ) → r ≤ i → i < n → j < start i

module _ (j : ℕ) (start : ℕ → ℕ) where
  pub last-begun : (n : ℕ) → InForce j start n (last_begun j start n)
  unfolding last_begun
  last-begun zero = record { known = omega arith; begun = tt; later = λ i a b. absurd (omega arith) }
  last-begun (suc n) = go (leb (start n) j) refl (last-begun n)
    where
      go : (t : Bool) → leb (start n) j ≡ t → InForce j start n (last_begun j start n) → InForce j start (suc n) (cond t (suc n) (last_begun j start n))
      go true e x = record { known = omega arith; begun = leb-true (start n) j e; later = λ i a b. absurd (omega arith) }
      go false e x = record {
        known = omega (arith, x.known);
        begun = x.begun;
        later = λ i a b. let h : i ≤ n = omega arith in ⊎_elim (λ q. rw q (leb-false (start n) j e)) (x.later i a) (eq-or-lt_of_le h);
      }

  -- no other flow is
  once : (n r t : ℕ) → InForce j start n r → InForce j start n t → t ≤ r
  once n r zero x y = omega arith
  once n r (suc i) x y = go (dec_le (suc i) r)
    where
      go : Dec (suc i ≤ r) → suc i ≤ r
      go (yes h) = h
      go (no h) = absurd (omega (arith, x.later i (omega (arith, lt_of_not-le h)) y.known, y.begun))

  -- of starts that rise strictly the next one alone decides
  next-decides : (n r : ℕ) → ((i : ℕ) → suc i < n → start i < start (suc i)) → (r < n → j < start r) → (i : ℕ) → r ≤ i → i < n → j < start i
  next-decides n r rising next zero a b = let q : r ≡ 0 = omega arith in rw (← q) (next (omega arith))
  next-decides n r rising next (suc i) a b = ⊎_elim (λ q. rw (← q) (next (omega arith)))
      (λ q. let l = next-decides n r rising next i (omega arith) (omega arith) in let m = rising i b in omega arith) (eq-or-lt_of_le a)

  -- so, of strictly rising starts, flow r is in force where its row has begun and the next one, if there is one, has not
  pub in_force : (n r : ℕ) → ((i : ℕ) → suc i < n → start i < start (suc i)) → r ≤ n → Begun j start r → (r < n → j < start r) → last_begun j start n ≡ r
  in_force n r rising known begun next =
      let x = last-begun n in
      let y : InForce j start n r = record { known = known; begun = begun; later = next-decides n r rising next } in
      omega (arith, once n (last_begun j start n) r x y, once n r (last_begun j start n) y x)

-- it is a flow of the sheet
pub in-force-known : (sheet : List ℕ) (j : ℕ) → flow_in_force sheet j ≤ flow_row_count sheet
unfolding flow_in_force
in-force-known sheet j = (last-begun j (flow_row_start sheet) (flow_row_count sheet)).known

-- ---- the right sides

-- where both sides have the same numbers: 2lCL and 2mCB
module _ (x : Pair) (same : x.old ≡ x.new) (f : Figures) where
  pub channel-same : (above below : ℕ) → let n = x.new in
      channel_right x above below f ≡ (S - sum_t n) * f.c + n.e * above + n.g * below + n.a * f.z + n.s * f.w + 2 * n.l * x.cl
  channel-same above below = rw same (omega arith)

  pub storage-same : let n = x.new in storage_right x f ≡ (S - sum_v n) * f.z + n.b * f.c + 2 * n.m * x.cb
  storage-same = rw same (omega arith)

  pub sediment-same : let n = x.new in sediment_right x f ≡ (S - n.h) * f.w + n.h * f.c
  sediment-same = rw same refl
