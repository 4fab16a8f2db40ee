-- Document 02, 5: "Is any of the river above the limit?"
use Rattle.std.specs.Prelude.{◌≡◌, true, ◌||◌, List, [], ◌∷◌, ℕ, suc, ◌≤◌, ◌<◌, get_or}
use Rattle.std.proofs.Math.Option.{Option, none, some}
use Rattle.model.specs.Refusals.{Outcome, accepted, is_accepted, Finding, passes, test, first, outcome_of}
use Rattle.model.specs.Highest.{block_of, blocks_fault}
use Rattle.model.specs.Calls.{river_fault}

-- "the search tests 13 alone": it is lent the segment count, the channel figures and the highest figures
unfoldable pub search_tests : (n : ℕ) → (channel highest : List ℕ) → List Finding
search_tests n channel highest = test 13 (river_fault n (channel ∷ []) || blocks_fault n highest) ∷ []

-- "a segment of the river above the limit, in such a block", which is "a block whose highest figure is above the limit", true or not;
-- segment i counts from 0
pub record Above (n : ℕ) (channel highest : List ℕ) (limit i : ℕ) : Type 0 where
  pub inside : i < n
  pub segment : limit < get_or channel i 0
  pub block : limit < get_or highest (block_of i) 0

-- "no such block has a segment above"
abbrev pub NoneAbove : (n : ℕ) → (channel highest : List ℕ) → (limit : ℕ) → Type 0
NoneAbove n channel highest limit = (i : ℕ) → Above n channel highest limit i → ⊥

-- what a search finds, none or the number of a segment, which counts from 1. "Which segment it names may be left open": any one that this
-- allows.
pub record Finds (n : ℕ) (channel highest : List ℕ) (limit : ℕ) (found : Option ℕ) : Type 0 where
  -- "it says none if, and only if, no such block has a segment above"
  pub none_if : NoneAbove n channel highest limit → found ≡ none
  pub none_only_if : found ≡ none → NoneAbove n channel highest limit
  -- "every choice is a segment of the river above the limit, in such a block"
  pub choice : (number : ℕ) → found ≡ some number → (i : ℕ) × (number ≡ suc i) × Above n channel highest limit i

-- an answer of a search with these tests, of n channel figures: the refusal, or a finding
pub record Searches (tests : List Finding) (n : ℕ) (channel highest : List ℕ) (limit : ℕ) (answer : Outcome (Option ℕ)) : Type 0 where
  pub found : Option ℕ
  pub finds : first tests ≡ passes → Finds n channel highest limit found
  pub is : answer ≡ outcome_of tests found

-- an answer of the search
abbrev pub SearchAnswer : (n : ℕ) → (channel highest : List ℕ) → (limit : ℕ) → Outcome (Option ℕ) → Type 0
SearchAnswer n channel highest limit answer = Searches (search_tests n channel highest) n channel highest limit answer

-- no segment of the river is above the limit
abbrev pub Clear : (n : ℕ) → (channel : List ℕ) → (limit : ℕ) → Type 0
Clear n channel limit = (i : ℕ) → i < n → get_or channel i 0 ≤ limit

-- what is said of every answer where the lists are as a start or step left them
pub record Tells (n : ℕ) (channel : List ℕ) (limit : ℕ) (answer : Outcome (Option ℕ)) : Type 0 where
  pub not_refused : is_accepted answer ≡ true
  pub none_if : Clear n channel limit → answer ≡ accepted none
  pub none_only_if : answer ≡ accepted none → Clear n channel limit
