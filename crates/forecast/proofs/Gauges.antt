-- The sheet's gauges by their numbers.
use mathlib.Core.Path.{◌≡◌, refl, sym, ap, ◌∙◌}
use mathlib.Core.Bool.{Bool, true, false, ◌||◌, or-false}
use mathlib.Core.List.{List}
use Prim.Native.Nat.{ℕ, zero, suc, ◌+◌, ◌<◌}
use native.Mathlib.Nat.{add-zero, zero-add}
use native.Mathlib.Numerals.{add-one}
use native.Mathlib.Omega.{arith}
use lib.Dec.{eqb}
use lib.ListN.{get_or}
use Rattle.std.specs.List.{list_any, range_with_len}
use Rattle.lists.specs.Lists.{any_below}
use Rattle.lists.proofs.Tab.{get_or-tab}
use Rattle.model.specs.Ranges.{gauge_section}
use Rattle.model.specs.Sheet.{record_field, gauge_count_at, gauge_count, gauges}

-- ---- one of 0, .., n − 1, as a chain looks for it

or-or : (a b c : Bool) → (a || b || c) ≡ (a || (b || c))
or-or true b c = refl
or-or false b c = refl

any-from : (f : ℕ → Bool) (a n : ℕ) → (any_below a f || list_any f (range_with_len a n)) ≡ any_below (a + n) f
unfolding any_below
any-from f a zero = or-false (any_below a f) ∙ rw (add-zero a)
any-from f a (suc n) =
    let next : suc a + n ≡ a + suc n = omega arith in
    ap (λ k. any_below a f || (f a || list_any f (range_with_len k n))) (add-one a)
    ∙ sym (or-or (any_below a f) (f a) (list_any f (range_with_len (suc a) n))) ∙ any-from f (suc a) n ∙ ap (λ k. any_below k f) next

any-same : (f g : ℕ → Bool) (n : ℕ) → ((j : ℕ) → j < n → f j ≡ g j) → any_below n f ≡ any_below n g
unfolding any_below
any-same f g zero same = refl
any-same f g (suc n) same = rw (any-same f g n (λ j h. same j (omega arith)), same n (omega arith))

pub any-listed : (f g : ℕ → Bool) (n : ℕ) → ((j : ℕ) → j < n → f j ≡ g j) → list_any f (range_with_len 0 n) ≡ any_below n g
unfolding any_below
any-listed f g n same = any-from f 0 n ∙ rw (zero-add n) (any-same f g n same)

-- ---- gauge j

pub gauge-at : (sheet : List ℕ) (segment j : ℕ) → j < gauge_count sheet →
    eqb (record_field sheet (gauge_count_at sheet) gauge_section j 0) segment ≡ eqb (get_or (gauges sheet) j 0) segment
unfolding gauges
gauge-at sheet segment j h = rw (get_or-tab (λ i. record_field sheet (gauge_count_at sheet) gauge_section i 0) (gauge_count sheet) j 0 h)
