-- Laws of `total_segments`, for a loop that sums the reaches' segments.
use mathlib.Core.Path.{◌≡◌, refl, ap₂}
use mathlib.Core.List.{List}
use Prim.Native.Nat.{ℕ, zero, suc, ◌+◌, ◌-◌, ◌*◌, ◌<◌, ◌≤◌}
use native.Mathlib.Numerals.{add-one}
use native.Mathlib.Omega.{arith}
use lib.ListN.{length}
use Rattle.lists.specs.Lists.{tab}
use Rattle.model.specs.Sheet.{Reach, record_field, reach_of, reach_on, total_segments}
use Rattle.sheet.proofs.Reading.{field_past}

module _ (f : ℕ → Reach) (n i : ℕ) where
  -- one reach more
  pub segments-on : i < n → total_segments (tab i (n - i) f) ≡ (f i).segments + total_segments (tab (i + 1) (n - (i + 1)) f)
  unfolding total_segments
  segments-on h = let e : n - i ≡ suc (n - (i + 1)) = omega arith in rw (e, add-one)

  -- no reach more
  pub segments-end : n ≤ i → total_segments (tab i (n - i) f) ≡ 0
  unfolding total_segments
  segments-end h = let e : n - i ≡ 0 = omega arith in rw e

-- reaches past the sheet's end have no segments
pub segments-past : (sheet : List ℕ) (n i : ℕ) → length sheet ≤ i → total_segments (tab i n (reach_on sheet)) ≡ 0
unfolding total_segments reach_on reach_of record_field
segments-past sheet zero i h = refl
segments-past sheet (suc n) i h =
    ap₂ ◌+◌ (field_past sheet (24 + 4 + 4 * (16 * i + 0)) (omega arith)) (segments-past sheet n (suc i) (omega arith))

-- the first reach's segments are among all
pub segments-first : (f : ℕ → Reach) (n : ℕ) → 0 < n → (f 0).segments ≤ total_segments (tab 0 n f)
unfolding total_segments
segments-first f zero h = absurd (omega arith)
segments-first f (suc n) h = omega arith
