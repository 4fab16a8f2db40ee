-- Laws of `any_shorter`, `any_under` and `not_rising`.
use mathlib.Core.Path.{◌≡◌, refl, ap}
use mathlib.Core.Bool.{Bool, true, false, ◌||◌, true≢false}
use mathlib.Core.List.{List, [], ◌∷◌, ◌++◌, map}
use Prim.Native.Nat.{ℕ, zero, suc, ◌-◌, ◌<◌, ◌≤◌}
use native.Mathlib.Omega.{arith}
use borrow.Author.Tests.{ltb-false, le-ltb}
use lib.Dec.{leb, ltb}
use lib.ListN.{length, get_or}
use Rattle.std.specs.List.{list_any}
use Rattle.std.proofs.Common.{nat_lt}
use Rattle.lists.specs.Lists.{any_shorter, any_under, not_rising}

-- a test of two parts that finds nothing: neither part does
pub neither : (a b : Bool) → (a || b) ≡ false → (a ≡ false) × (b ≡ false)
neither true b e = absurd (true≢false e)
neither false b e = (refl, e)

or-or : (a b c : Bool) → (a || (b || c)) ≡ (a || b || c)
or-or true b c = refl
or-or false b c = refl

-- every list has n entries
abbrev pub AllLong : ℕ → List (List ℕ) → Type 0
AllLong n [] = Unit {0}
AllLong n (list ∷ lists) = (n ≤ length list) × AllLong n lists

pub all-long : (n : ℕ) (lists : List (List ℕ)) → any_shorter n lists ≡ false → AllLong n lists
unfolding any_shorter
all-long n [] e = tt
all-long n (list ∷ lists) e = let both = neither _ _ e in (ltb-false _ _ both.0, all-long n lists both.1)

pub none-shorter : (n : ℕ) (lists : List (List ℕ)) → AllLong n lists → any_shorter n lists ≡ false
unfolding any_shorter
none-shorter n [] h = refl
none-shorter n (list ∷ lists) h = rw (le-ltb _ _ h.0) (none-shorter n lists h.1)

-- what is short among some lists or behind them is short among all
pub shorter-both : (n : ℕ) (lists others : List (List ℕ)) → any_shorter n (lists ++ others) ≡ (any_shorter n lists || any_shorter n others)
unfolding any_shorter
shorter-both n [] others = refl
shorter-both n (list ∷ lists) others = rw (shorter-both n lists others) (or-or (ltb (length list) n) (any_shorter n lists) (any_shorter n others))

-- ---- lengths

-- what is short of some lists, by their lengths
pub under-lengths : (n : ℕ) (lists : List (List ℕ)) → any_under n (map length lists) ≡ any_shorter n lists
unfolding any_under any_shorter
under-lengths n [] = refl
under-lengths n (list ∷ lists) = rw (under-lengths n lists)

-- as a test of each length
pub under_list_any : (n : ℕ) (lengths : List ℕ) → list_any (λ length. nat_lt length n) lengths ≡ any_under n lengths
unfolding any_under
under_list_any n [] = refl
under_list_any n (length ∷ lengths) = ap (λ rest. ltb length n || rest) (under_list_any n lengths)

-- ---- entries that rise

-- behind the first entry
pub not-rising : (list : List ℕ) (i : ℕ) → 0 < i → not_rising list i ≡ leb (get_or list i 0) (get_or list (i - 1) 0)
unfolding not_rising
not-rising list zero h = absurd (omega arith)
not-rising list (suc i) h = ap (λ k. leb (get_or list (suc i) 0) (get_or list k 0)) (omega arith)
