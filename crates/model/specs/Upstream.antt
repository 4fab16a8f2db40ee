-- "U at a step is found by a call of its own from lent rows and M; the rows are two lists, of start steps and of concentrations."
use Rattle.std.specs.Prelude.{not, ◌||◌, List, [], ◌∷◌, ℕ, eqb, length, get_or}
use Rattle.model.specs.Ranges.{row_section, outside}
use Rattle.model.specs.Flow.{last_begun}
use Rattle.model.specs.Refusals.{row, Outcome, Finding, test, test_each, outcome_of}
use Rattle.model.specs.Load.{row_fault}

-- "U at step j is that of the last row .."; the first row starts at 0, so that there is one, and the 0 in front stands for none
unfoldable pub upstream_at : (j : ℕ) → (starts concentrations : List ℕ) → ℕ
upstream_at j starts concentrations = get_or (0 ∷ concentrations) (last_begun j (λ i. get_or starts i 0) (length starts)) 0

-- "It tests their count (3, also for two lists of different length), then the rows (8)."
unfoldable pub upstream_tests : (M : ℕ) → (starts concentrations : List ℕ) → List Finding
upstream_tests M starts concentrations =
    test 3 (outside row_section.counts (length starts) || not (eqb (length starts) (length concentrations))) ∷
    test_each 8 row (length starts) (row_fault M starts concentrations) ∷
    []

-- the answer; nothing is written
unfoldable pub upstream_answer : (M j : ℕ) → (starts concentrations : List ℕ) → Outcome ℕ
upstream_answer M j starts concentrations = outcome_of (upstream_tests M starts concentrations) (upstream_at j starts concentrations)
