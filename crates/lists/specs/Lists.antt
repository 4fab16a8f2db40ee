-- Lists of any length and content, as a caller lends them: a table of values, what a call writes, the lowest entry at fault, a stretch.
use Rattle.std.specs.Prelude.{Bool, false, cond, ◌||◌, List, [], ◌∷◌, ◌++◌, ℕ, zero, suc, ◌+◌, max, leb, ltb, length, get_or, take, drop}

-- f at j, j + 1, .., j + n − 1
abbrev pub tab {ℓ} : {A : Type ℓ} → ℕ → ℕ → (ℕ → A) → List A
tab j zero f = []
tab j (suc n) f = f j ∷ tab (suc j) n f

-- "Only an accepted call writes, and only the first entries it needs": the values xs over the first entries of what was there
abbrev pub over {ℓ} : {A : Type ℓ} → List A → List A → List A
over xs before = xs ++ drop (length xs) before

-- the lowest of i, i + 1, .., i + n − 1 that is at fault, or i + n where none is
unfoldable pub lowest_from : ℕ → ℕ → (ℕ → Bool) → ℕ
lowest_from i zero fault = i
lowest_from i (suc n) fault = cond (fault i) i (lowest_from (suc i) n fault)

-- "the lowest at fault" of the first n entries, which count from 0 here; n where none is at fault
unfoldable pub lowest : ℕ → (ℕ → Bool) → ℕ
lowest n fault = lowest_from 0 n fault

-- a list is shorter than n
unfoldable pub any_shorter : ℕ → List (List ℕ) → Bool
any_shorter n [] = false
any_shorter n (list ∷ lists) = ltb (length list) n || any_shorter n lists

-- the same of lengths: one of them is below n
unfoldable pub any_under : ℕ → List ℕ → Bool
any_under n [] = false
any_under n (length ∷ lengths) = ltb length n || any_under n lengths

-- "strictly rising": entry i is not above the entry before it, so that of two out of order the later is at fault
unfoldable pub not_rising : List ℕ → ℕ → Bool
not_rising list zero = false
not_rising list (suc i) = leb (get_or list (suc i) 0) (get_or list i 0)

-- the n entries from `first` on
abbrev pub stretch : (first n : ℕ) → List ℕ → List ℕ
stretch first n list = take n (drop first list)

-- the list with these in the place of its n entries from `first` on
abbrev pub splice : (first n : ℕ) → (entries list : List ℕ) → List ℕ
splice first n entries list = take first list ++ (entries ++ drop (first + n) list)

-- f holds at one of 0, .., n − 1
unfoldable pub any_below : ℕ → (ℕ → Bool) → Bool
any_below zero f = false
any_below (suc n) f = any_below n f || f n

-- f at 0, .., n − 1, added up
unfoldable pub sum_below : ℕ → (ℕ → ℕ) → ℕ
sum_below zero f = 0
sum_below (suc n) f = sum_below n f + f n

-- the highest of f at 0, .., n − 1, or 0 where that is higher
unfoldable pub highest_below : ℕ → (ℕ → ℕ) → ℕ
highest_below zero f = 0
highest_below (suc n) f = max (highest_below n f) (f n)
