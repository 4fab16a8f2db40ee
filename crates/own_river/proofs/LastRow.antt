-- The rows' U by the number of the last row begun.
use mathlib.Core.Path.{◌≡◌, refl, ap}
use mathlib.Core.List.{List, ◌∷◌}
use Prim.Native.Nat.{ℕ, zero, suc, ◌-◌, ◌<◌, ◌≤◌}
use native.Mathlib.Omega.{arith}
use lib.ListN.{get_or}
use Rattle.lists.specs.Lists.{tab}
use Rattle.lists.proofs.Tab.{length-tab, get_or-tab}
use Rattle.model.specs.Ranges.{row_section}
use Rattle.model.specs.Sheet.{record_field, row_count_at, row_count, row_starts, row_concentrations}
use Rattle.model.specs.Flow.{last_begun}
use Rattle.model.specs.Upstream.{upstream_at}
use Rattle.model.specs.OwnRiver.{rows_upstream}

-- the start step and the concentration of row i, which counts from 0
abbrev pub start_of : List ℕ → ℕ → ℕ
start_of sheet i = record_field sheet (row_count_at sheet) row_section i 0

abbrev pub concentration_of : List ℕ → ℕ → ℕ
concentration_of sheet i = record_field sheet (row_count_at sheet) row_section i 1

-- rows that start alike
begun-alike : (j : ℕ) (f g : ℕ → ℕ) (n : ℕ) → ((i : ℕ) → i < n → f i ≡ g i) → last_begun j f n ≡ last_begun j g n
unfolding last_begun
begun-alike j f g zero same = refl
begun-alike j f g (suc n) same = rw (same n (omega arith), begun-alike j f g n (λ i h. same i (omega arith)))

module _ (sheet : List ℕ) (j : ℕ) where
  by_number : rows_upstream sheet j ≡ get_or (0 ∷ row_concentrations sheet) (last_begun j (start_of sheet) (row_count sheet)) 0
  unfolding rows_upstream upstream_at row_starts
  by_number =
      rw (length-tab (start_of sheet) 0 (row_count sheet))
      (ap (λ r. get_or (0 ∷ row_concentrations sheet) r 0)
      (begun-alike j (λ i. get_or (tab 0 (row_count sheet) (start_of sheet)) i 0) (start_of sheet) (row_count sheet) (λ i h. get_or-tab (start_of sheet) (row_count sheet) i 0 h)))

  -- the last one begun is row r, from 1
  pub upstream-row : (r : ℕ) → 0 < r → r ≤ row_count sheet → last_begun j (start_of sheet) (row_count sheet) ≡ r → concentration_of sheet (r - 1) ≡ rows_upstream sheet j
  unfolding row_concentrations
  upstream-row zero h l e = absurd (omega arith)
  upstream-row (suc r) h l e =
      let less : suc r - 1 ≡ r = omega arith in
      rw (by_number, e, less, get_or-tab (concentration_of sheet) (row_count sheet) r 0)

  -- none has begun
  pub upstream-none : last_begun j (start_of sheet) (row_count sheet) ≡ 0 → 0 ≡ rows_upstream sheet j
  upstream-none e = rw (by_number, e)
