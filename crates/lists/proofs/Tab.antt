-- Laws of `tab`: its length and its entries, a table's end and its tail, and tables of equal entries.
use mathlib.Core.Path.{◌≡◌, refl, sym, ap, ap₂, ◌∙◌}
use mathlib.Core.List.{List, [], ◌∷◌, ◌++◌, map}
use Prim.Native.Nat.{ℕ, zero, suc, ◌+◌, ◌-◌, ◌<◌, ◌≤◌}
use native.Mathlib.Nat.{add-zero, zero-add, sub-zero, zero-sub}
use native.Mathlib.Omega.{arith}
use lib.ListN.{length, get_or, take, drop}
use lib.Seq.{take-suc}
use Rattle.lists.specs.Lists.{tab}

module _ {ℓ} {A : Type ℓ} (f : ℕ → A) where
  pub length-tab : (j n : ℕ) → length (tab j n f) ≡ n
  length-tab j zero = refl
  length-tab j (suc n) = ap suc (length-tab (suc j) n)

  pub get_or-tab-from : (j n i : ℕ) (d : A) → i < n → get_or (tab j n f) i d ≡ f (j + i)
  get_or-tab-from j zero i d h = absurd (omega arith)
  get_or-tab-from j (suc n) zero d h = rw add-zero
  get_or-tab-from j (suc n) (suc i) d h = get_or-tab-from (suc j) n i d (omega arith) ∙ ap f (omega arith)

  -- entry i
  pub get_or-tab : (n i : ℕ) (d : A) → i < n → get_or (tab 0 n f) i d ≡ f i
  get_or-tab n i d h = get_or-tab-from 0 n i d h ∙ ap f (omega arith)

  tab-last-from : (j n : ℕ) → tab j (suc n) f ≡ tab j n f ++ (f (j + n) ∷ [])
  tab-last-from j zero = rw add-zero
  tab-last-from j (suc n) =
      ap {B = List A} (λ l. f j ∷ l) (tab-last-from (suc j) n ∙ ap (λ k. tab (suc j) n f ++ (f k ∷ [])) (omega arith))

  -- the last entry
  pub tab-last : (n : ℕ) → tab 0 (suc n) f ≡ tab 0 n f ++ (f n ∷ [])
  tab-last n = tab-last-from 0 n ∙ rw zero-add

  -- all but the first k entries
  pub drop-tab : (k j n : ℕ) → drop k (tab j n f) ≡ tab (j + k) (n - k) f
  drop-tab zero j n = rw (add-zero, sub-zero)
  drop-tab (suc k) j zero = rw zero-sub
  drop-tab (suc k) j (suc n) = let p : suc j + k ≡ j + suc k = omega arith in let q : n - k ≡ suc n - suc k = omega arith in rw (← p, ← q) (drop-tab k (suc j) n)

-- equal entries make equal tables
pub tab-cong {ℓ} : {A : Type ℓ} (f g : ℕ → A) (j n : ℕ) → ((i : ℕ) → j ≤ i → i < j + n → f i ≡ g i) → tab j n f ≡ tab j n g
tab-cong f g j zero e = refl
tab-cong f g j (suc n) e = ap₂ ◌∷◌ (e j (omega arith) (omega arith)) (tab-cong f g (suc j) n (λ i h l. e i (omega arith) (omega arith)))

pub map-tab {ℓ ℓ'} : {A : Type ℓ} {B : Type ℓ'} (g : A → B) (f : ℕ → A) (j n : ℕ) → map g (tab j n f) ≡ tab j n (λ i. g (f i))
map-tab g f j zero = refl
map-tab g f j (suc n) = ap {B = List _} (λ l. g (f j) ∷ l) (map-tab g f (suc j) n)

-- the first n entries of a list
pub tab_take : (n : ℕ) (xs : List ℕ) → n ≤ length xs → tab 0 n (λ i. get_or xs i 0) ≡ take n xs
tab_take zero xs h = refl
tab_take (suc n) xs h =
    tab-last (λ i. get_or xs i 0) n ∙ ap (λ (front : List ℕ). front ++ (get_or xs n 0 ∷ [])) (tab_take n xs (omega arith)) ∙ sym (take-suc xs n 0 h)
