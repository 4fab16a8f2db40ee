-- Laws of the tests of document 01: a loop that looks for the lowest at fault finds what `test_each` does, and what a passed test says.
use mathlib.Core.Path.{◌≡◌, refl, sym, ap, ◌∙◌}
use mathlib.Core.Bool.{Bool, true, false, cond}
use mathlib.Core.List.{List, [], ◌∷◌}
use Prim.Native.Nat.{ℕ, zero, suc, ◌+◌, ◌<◌, ◌≤◌}
use native.Mathlib.Numerals.{add-one}
use borrow.Author.Tests.{lt-ltb, le-ltb}
use lib.ListN.{length, get_or, take}
use lib.Seq.{take_all}
use Rattle.lists.proofs.Lowest.{Searching, searching-hit, searching-end}
use Rattle.model.specs.Refusals.{Place, Finding, nothing, passes, fails, test, test_each, first}
use Rattle.model.proofs.Refusals.{fails-passes}

-- a test whose place is nothing, where it fails
pub failed : {number number' : ℕ} {fault : Bool} {place : Place} → fails number' place ≡ test number fault →
    (fault ≡ true) × (fails number' place ≡ fails number nothing)
failed {fault = true} e = (refl, e)
failed {fault = false} e = fails-passes e

module _ (number : ℕ) (place : ℕ → Place) {fault : ℕ → Bool} {n i : ℕ} (r : Searching fault n i) where
  -- a loop that finds i at fault
  pub each-found : i < n → fault i ≡ true → fails number (place (i + 1)) ≡ test_each number place n fault
  each-found h e = rw (← searching-hit r h e, lt-ltb i n h, add-one)

  -- a loop that is through
  pub each-clear : n ≤ i → passes ≡ test_each number place n fault
  each-clear h = rw (← searching-end r h, le-ltb i n h)

-- one test more that passes, and one that fails
one_more : (tests : List Finding) (k : ℕ) → first (take k tests) ≡ passes → get_or tests k passes ≡ passes → first (take (suc k) tests) ≡ passes
one_more [] k e f = refl
one_more (passes ∷ tests) zero e f = refl
one_more (passes ∷ tests) (suc k) e f = one_more tests k e f
one_more (fails number place ∷ tests) zero e f = fails-passes f
one_more (fails number place ∷ tests) (suc k) e f = fails-passes e

one-fails : (tests : List Finding) (k : ℕ) {number : ℕ} {place : Place} → first (take k tests) ≡ passes →
    get_or tests k passes ≡ fails number place → first tests ≡ fails number place
one-fails [] k e f = fails-passes (sym f)
one-fails (passes ∷ tests) zero e f = fails-passes (sym f)
one-fails (passes ∷ tests) (suc k) e f = one-fails tests k e f
one-fails (fails number place ∷ tests) zero e f = f
one-fails (fails number place ∷ tests) (suc k) e f = fails-passes e

-- the first k tests pass
pub record Judging (tests : List Finding) (k : ℕ) : Type 0 where
  pub front : first (take k tests) ≡ passes

module _ {tests : List Finding} {k : ℕ} (r : Judging tests k) where
  pub judging-end : length tests ≤ k → passes ≡ first tests
  judging-end h = sym r.front ∙ ap first (take_all k tests h)

  pub judging-stop : {number : ℕ} {place : Place} → get_or tests k passes ≡ fails number place → fails number place ≡ first tests
  judging-stop e = sym (one-fails tests k r.front e)

  pub judging-on : get_or tests k passes ≡ passes → Judging tests (k + 1)
  judging-on e = record { front = rw add-one (one_more tests k r.front e) }

-- a test that passes, in front of others
pub cond-pass : (fault : Bool) (number : ℕ) (place : Place) (f : Finding) → cond fault (fails number place) f ≡ passes →
    (fault ≡ false) × (f ≡ passes)
cond-pass true number place f e = fails-passes e
cond-pass false number place f e = (refl, e)
