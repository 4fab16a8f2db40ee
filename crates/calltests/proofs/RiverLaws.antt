-- Laws of tests 13 and 14 over a river's segments.
use mathlib.Core.Path.{◌≡◌}
use mathlib.Core.Bool.{Bool, true, false}
use mathlib.Core.List.{List, [], ◌∷◌, ◌++◌}
use Prim.Native.Nat.{ℕ, ◌+◌, ◌≤◌, min}
use native.Mathlib.Numerals.{add-one}
use native.Mathlib.Omega.{arith}
use lib.Dec.{eqb}
use Rattle.lists.specs.Lists.{lowest, any_shorter}
use Rattle.lists.proofs.Either.{lowest-either}
use Rattle.lists.proofs.Shorter.{neither, AllLong, all-long, shorter-both}
use Rattle.model.specs.Ranges.{◌to◌, outside, most_segments}
use Rattle.model.specs.State.{NumberSet, set_lists, numbers_at, Columns, column_lists, segment_at, State, figures_at}
use Rattle.model.proofs.Ranges.{inside}
use Rattle.model.specs.Calls.{river_fault, numbers_fault, segment_fault, figure_fault, start_fault, state_fault, old_fault}
use Rattle.terms.specs.Lent.{Long, LongFigures}
use Rattle.terms.proofs.Lengths.{columns-first, figures-behind}

-- segment i of n, which is the last where i + 1 is n
pub start-fault-at : (n : ℕ) (x : Columns) (i : ℕ) (fault : Bool) → segment_fault (eqb (i + 1) n) (segment_at x i) ≡ fault →
    start_fault n x i ≡ fault
unfolding start_fault
start-fault-at n x i fault e = rw (add-one i) at e

-- the same of a set
pub old-fault-at : (n : ℕ) (old : NumberSet) (i : ℕ) (fault : Bool) → numbers_fault (eqb (i + 1) n) (numbers_at old i) ≡ fault → old_fault n old i ≡ fault
unfolding old_fault
old-fault-at n old i fault e = rw (add-one i) at e

-- ---- lengths

-- the count is right: a set in front is short, or what is behind it decides
module _ (n : ℕ) (x : NumberSet) (others : List (List ℕ)) (in_range : outside (1 to most_segments) n ≡ false) where
  pub river-set : any_shorter n (set_lists x) ≡ true → river_fault n (set_lists x ++ others) ≡ true
  unfolding river_fault
  river-set e = rw (in_range, shorter-both n (set_lists x) others, e)

  pub river-others : any_shorter n (set_lists x) ≡ false → river_fault n (set_lists x ++ others) ≡ any_shorter n others
  unfolding river_fault
  river-others e = rw (in_range, shorter-both n (set_lists x) others, e)

-- ---- a river that passes test 13

pub counted : (n : ℕ) (lists : List (List ℕ)) → river_fault n lists ≡ false → (1 ≤ n) × (n ≤ 1024)
unfolding river_fault
counted n lists e = inside (1 to most_segments) n (neither (outside (1 to most_segments) n) (any_shorter n lists) e).0

pub lists-long : (n : ℕ) (lists : List (List ℕ)) → river_fault n lists ≡ false → AllLong n lists
unfolding river_fault
lists-long n lists e = all-long n lists (neither (outside (1 to most_segments) n) (any_shorter n lists) e).1

pub columns-long : (n : ℕ) (x : Columns) (others : List (List ℕ)) → river_fault n (column_lists x ++ others) ≡ false → Long n x
columns-long n x others e = columns-first n x others (lists-long n (column_lists x ++ others) e)

pub figures-long : (n : ℕ) (x : Columns) (channel storage sediment : List ℕ) →
    river_fault n (column_lists x ++ channel ∷ storage ∷ sediment ∷ []) ≡ false → LongFigures n channel storage sediment
figures-long n x channel storage sediment e =
    figures-behind n x channel storage sediment (lists-long n (column_lists x ++ channel ∷ storage ∷ sediment ∷ []) e)

-- ---- test 14

-- the lowest of n segments at fault in its entries or in its figures, or an other: each as a number, n where there is none
pub state-lowest : (n : ℕ) (x : Columns) (state : State) (other i j k l : ℕ) → i ≡ min j l → j ≡ min other k → k ≡ lowest n (start_fault n x) →
    l ≡ lowest n (λ i. figure_fault (figures_at state i)) → i ≡ min other (lowest n (state_fault n x state))
unfolding state_fault
state-lowest n x state other i j k l e f p q =
    let both = lowest-either (start_fault n x) (λ i. figure_fault (figures_at state i)) n in
    rw (← both, ← p, ← q) (omega arith)
