-- Document 01, "Refusals": numbers, places, and the order of tests.
use Rattle.std.specs.Prelude.{Bool, true, false, cond, List, [], ◌∷◌, ℕ, suc, ltb}
use Rattle.lists.specs.Lists.{lowest}

-- "its place, which is a reach, a segment, a row or nothing"; each counts from 1
pub data Place : Type 0 where
  nothing : Place
  reach : ℕ → Place
  segment : ℕ → Place
  row : ℕ → Place

-- what a call answers: the values that document 01 gives it, or a refusal: "A refusal carries its number and its place"
pub data Outcome (A : Type 0) : Type 0 where
  accepted : A → Outcome A
  refused : ℕ → Place → Outcome A

-- the call was accepted
abbrev pub is_accepted : {A : Type 0} → Outcome A → Bool
is_accepted (accepted v) = true
is_accepted (refused number place) = false

-- what one test finds
pub data Finding : Type 0 where
  passes : Finding
  fails : ℕ → Place → Finding

-- it found no fault
abbrev pub is_passed : Finding → Bool
is_passed passes = true
is_passed (fails number place) = false

-- a test "where the list below names none": its place is nothing
abbrev pub test : ℕ → Bool → Finding
test number fault = cond fault (fails number nothing) passes

-- "the lowest at fault" of n: a test "over the whole river", or over all reaches, rows or gauges
abbrev pub test_each : ℕ → (ℕ → Place) → (n : ℕ) → (ℕ → Bool) → Finding
test_each number place n fault = let i = lowest n fault in cond (ltb i n) (fails number (place (suc i))) passes

-- "Tests run in the order of their numbers, each over the whole river before the next", 16 and 19 after 9: of a list of tests the first that
-- fails decides
abbrev pub first : List Finding → Finding
first [] = passes
first (passes ∷ tests) = first tests
first (fails number place ∷ tests) = fails number place

-- the answer where the tests find this: the values, or the refusal
abbrev pub answer : {A : Type 0} → Finding → A → Outcome A
answer passes v = accepted v
answer (fails number place) v = refused number place

-- the outcome of a call with these tests, which has these values where all of them pass
abbrev pub outcome_of : {A : Type 0} → List Finding → A → Outcome A
outcome_of tests v = answer (first tests) v

-- "Only an accepted call writes, and only the first entries it needs."
abbrev pub left_after : {A B : Type 0} → Outcome A → (lent written : B) → B
left_after (accepted v) lent written = written
left_after (refused number place) lent written = lent
