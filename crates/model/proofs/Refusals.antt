-- Laws of tests in a row: what is known where they pass, and where the first of two rows fails.
use mathlib.Core.Path.{◌≡◌, refl, sym, ap, ◌∙◌}
use mathlib.Core.Bool.{Bool, true, false, cond}
use mathlib.Core.List.{List, [], ◌∷◌, ◌++◌}
use Prim.Native.Nat.{ℕ, zero, suc, ◌<◌, ◌≤◌}
use native.Mathlib.Omega.{arith}
use borrow.Author.Tests.{ltb-false, lt-ltb, le-ltb}
use lib.Dec.{T, ltb}
use lib.ListN.{get_or}
use Rattle.lists.specs.Lists.{tab, lowest}
use Rattle.lists.proofs.Lowest.{none-at-fault}
use Rattle.lists.proofs.Tab.{get_or-tab}
use Rattle.model.specs.Refusals.{Place, Finding, passes, fails, accepted, refused, is_accepted, test, test_each, first, answer, outcome_of}
use Rattle.model.specs.Load.{test_flows}

-- a test that fails does not pass
pub fails-passes : {A : Type 0} {number : ℕ} {place : Place} → fails number place ≡ passes → A
fails-passes {A} {number} {place} e = let z : ◌≡◌ {A = ℕ} 0 1 = cc in absurd (omega arith)

-- every test of a row passes
abbrev pub AllPass : List Finding → Type 0
AllPass [] = Unit {0}
AllPass (t ∷ ts) = (t ≡ passes) × AllPass ts

pub all_pass : (ts : List Finding) → first ts ≡ passes → AllPass ts
all_pass [] e = tt
all_pass (passes ∷ ts) e = (refl, all_pass ts e)
all_pass (fails number place ∷ ts) e = fails-passes e

-- a row of which the front passes, and one of which the front fails
pub first_rest : (ts us : List Finding) → first ts ≡ passes → first (ts ++ us) ≡ first us
first_rest [] us e = refl
first_rest (passes ∷ ts) us e = first_rest ts us e
first_rest (fails number place ∷ ts) us e = fails-passes e

pub first-front : (ts us : List Finding) {number : ℕ} {place : Place} → first ts ≡ fails number place → first (ts ++ us) ≡ fails number place
first-front [] us e = fails-passes (sym e)
first-front (passes ∷ ts) us e = first-front ts us e
first-front (fails number place ∷ ts) us e = e

-- a row in front of another counts by what it finds
pub first_of : (ts us : List Finding) → first (first ts ∷ us) ≡ first (ts ++ us)
first_of [] us = refl
first_of (passes ∷ ts) us = first_of ts us
first_of (fails number place ∷ ts) us = refl

-- where two rows together pass, both do
pub first-both : (ts us : List Finding) → first (ts ++ us) ≡ passes → (first ts ≡ passes) × (first us ≡ passes)
first-both [] us e = (refl, e)
first-both (passes ∷ ts) us e = first-both ts us e
first-both (fails number place ∷ ts) us e = fails-passes e

-- where a row passes, each of its tests does
pub first-at : (ts : List Finding) (i : ℕ) → first ts ≡ passes → get_or ts i passes ≡ passes
first-at [] i e = refl
first-at (passes ∷ ts) zero e = refl
first-at (passes ∷ ts) (suc i) e = first-at ts i e
first-at (fails number place ∷ ts) i e = fails-passes e

-- a test that passes for every flow in turn passes for each
pub flows-clear : (rows : ℕ) (finding : ℕ → Finding) → test_flows rows finding ≡ passes → (r : ℕ) → r ≤ rows → finding r ≡ passes
unfolding test_flows
flows-clear rows finding e r h = sym (get_or-tab finding (suc rows) r passes (omega arith)) ∙ first-at (tab 0 (suc rows) finding) r e

-- a test that passes finds no fault
pub test-clear : (number : ℕ) (fault : Bool) → test number fault ≡ passes → fault ≡ false
test-clear number true e = fails-passes e
test-clear number false e = refl

clear : (number : ℕ) (place : Place) (t : Bool) → cond t (fails number place) passes ≡ passes → t ≡ false
clear number place true e = fails-passes e
clear number place false e = refl

-- a test over n that passes finds no fault at any of them
pub each-clear : (number : ℕ) (place : ℕ → Place) (n : ℕ) (fault : ℕ → Bool) → test_each number place n fault ≡ passes →
    (i : ℕ) → i < n → fault i ≡ false
each-clear number place n fault e = none-at-fault fault n (ltb-false _ _ (clear number _ (ltb (lowest n fault) n) e))

-- the test passes where none is at fault, and fails at the lowest
pub each-passes : (number : ℕ) (place : ℕ → Place) (n : ℕ) (fault : ℕ → Bool) → n ≤ lowest n fault → test_each number place n fault ≡ passes
each-passes number place n fault h = rw (le-ltb _ _ h)

pub each-fails : (number : ℕ) (place : ℕ → Place) (n : ℕ) (fault : ℕ → Bool) → lowest n fault < n →
    test_each number place n fault ≡ fails number (place (suc (lowest n fault)))
each-fails number place n fault h = rw (lt-ltb _ _ h)

-- an accepted call: all its tests pass, and its values are those that it was made with
pub accepted-passes : {A : Type 0} (ts : List Finding) (v : A) → T (is_accepted (outcome_of ts v)) → first ts ≡ passes
accepted-passes ts v h = go (first ts) refl h
  where
    go : (t : Finding) → first ts ≡ t → T (is_accepted (answer t v)) → first ts ≡ passes
    go passes e h = e
    go (fails number place) e h = absurd h

pub outcome-passes : {A : Type 0} (ts : List Finding) (v : A) → first ts ≡ passes → outcome_of ts v ≡ accepted v
outcome-passes ts v e = ap (λ t. answer t v) e

pub outcome-fails : {A : Type 0} (ts : List Finding) (v : A) {number : ℕ} {place : Place} → first ts ≡ fails number place → outcome_of ts v ≡ refused number place
outcome-fails ts v e = ap (λ t. answer t v) e

-- the values of an accepted call are those that it was made with
pub accepted-values : {A : Type 0} (ts : List Finding) (v w : A) → outcome_of ts v ≡ accepted w → v ≡ w
accepted-values ts v w e = go (first ts) e
  where
    go : (t : Finding) → answer t v ≡ accepted w → v ≡ w
    go passes e = cc
    go (fails number place) e = cc
