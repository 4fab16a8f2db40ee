-- A step has figures for each segment.
use mathlib.Core.Path.{◌≡◌, refl, ap, ◌∙◌}
use mathlib.Core.List.{List, [], ◌∷◌}
use Prim.Native.Nat.{ℕ, suc}
use native.Mathlib.Omega.{arith}
use lib.ListN.{length}
use Rattle.model.specs.Equations.{Figures, Pair}
use Rattle.model.specs.Sweep.{Row, rows, Passed, Above, under, pass, down, up, finish, downward, stepped}

-- a row for each segment
length-rows : (above : ℕ) (xs : List Pair) (fs : List Figures) → length fs ≡ length xs → length (rows above xs fs) ≡ length xs
length-rows above [] fs e = refl
length-rows above (x ∷ xs) [] e = absurd (omega arith)
length-rows above (x ∷ xs) (f ∷ fs) e = ap suc (length-rows f.c xs fs (omega arith))

-- p and y of each row
length-down : (above : Above) (rs : List Row) → length (down above rs) ≡ length rs
length-down above [] = refl
length-down above (r ∷ rs) = ap suc (length-down (under (pass above r)) rs)

-- a channel figure of each
length_up : (ds : List Passed) → length (up ds) ≡ length ds
length_up [] = refl
length_up (d ∷ ds) = ap suc (length_up ds)

-- new figures of each segment
length-finish : (xs : List Pair) (fs : List Figures) (cs : List ℕ) → length fs ≡ length xs → length cs ≡ length xs → length (finish xs fs cs) ≡ length xs
length-finish [] fs cs e q = refl
length-finish (x ∷ xs) [] cs e q = absurd (omega arith)
length-finish (x ∷ xs) (f ∷ fs) [] e q = absurd (omega arith)
length-finish (x ∷ xs) (f ∷ fs) (c ∷ cs) e q = ap suc (length-finish xs fs cs (omega arith) (omega arith))

-- p and y of each segment
pub length-downward : (u u' : ℕ) (xs : List Pair) (fs : List Figures) → length fs ≡ length xs → length (downward u u' xs fs) ≡ length xs
unfolding downward
length-downward u u' xs fs e = length-down (Above.top u') (rows u xs fs) ∙ length-rows u xs fs e

-- the new figures of a step
pub length-stepped : (u u' : ℕ) (xs : List Pair) (fs : List Figures) → length fs ≡ length xs → length (stepped u u' xs fs) ≡ length xs
unfolding stepped
length-stepped u u' xs fs e = length-finish xs fs (up (downward u u' xs fs)) e (length_up (downward u u' xs fs) ∙ length-downward u u' xs fs e)
