-- The complete outcome of a call, from its answer and what stands in the lists when it is over.
use Rattle.std.specs.Prelude.{List, ℕ}
use Rattle.model.specs.State.{State}
use Rattle.model.specs.Refusals.{Outcome, accepted, refused}
use Rattle.model.specs.Calls.{River, Working, Result}
use Rattle.terms.specs.Lent.{left}

-- a value of an accepted answer, in the place of what was there; after a refusal what was there
abbrev pub handed : {A B : Type 0} → Outcome A → (A → B) → B → B
handed (accepted v) value before = value v
handed (refused number place) value before = before

-- the state after an answer: its lists as they stand, U and the count of the answer, or those that it had
abbrev pub state_after : (lists : (upstream steps : ℕ) → State) → Outcome River → (upstream steps : ℕ) → State
state_after lists answer upstream steps = lists (handed answer (λ v. v.upstream) upstream) (handed answer (λ v. v.steps) steps)

-- the answer, the state or the pool, the highest figures and the working lists
abbrev pub result_with : {S A : Type 0} → Outcome A → S → (highest : List ℕ) → Working → Result S A
result_with answer state highest working = record { answer = answer; left = left state highest working }
