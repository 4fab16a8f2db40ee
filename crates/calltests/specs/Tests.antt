-- Tests 13 and 14 as a step and a report have them in common.
use Rattle.std.specs.Prelude.{Bool, cond, ◌||◌, List, [], ◌∷◌, ◌++◌, ℕ, suc, min, ltb, Option, Some, None}
use Rattle.lists.specs.Lists.{lowest}
use Rattle.model.specs.Ranges.{outside, concentration, most_steps}
use Rattle.model.specs.State.{Columns, column_lists, State, state_lists}
use Rattle.model.specs.Refusals.{segment, Finding, passes, fails, test}
use Rattle.model.specs.Calls.{river_fault, state_fault, held_fault}

-- the lowest of n at fault, where i is it; i is n where none is
abbrev pub below : (n i : ℕ) → Option ℕ
below n i = cond (ltb i n) (Some i) None

-- 14, where i is the lowest of n segments at fault, counting from 0, or n
abbrev pub lowest_fails : (n i : ℕ) → Finding
lowest_fails n i = cond (ltb i n) (fails 14 (segment (suc i))) passes

-- `unfit` is what 13 finds of the others: a step's old set and working lists, a report's segment. `other` is the lowest segment at fault in a
-- step's old set; n serves a report, and 0 for U' and M, of which it is handed none.
unfoldable pub state_tests : (n : ℕ) → Columns → State → (unfit : Bool) → (other u' M : ℕ) → List Finding
state_tests n columns state unfit other u' M =
    test 13 (river_fault n (column_lists columns ++ state_lists state) || unfit) ∷
    lowest_fails n (min other (lowest n (state_fault n columns state))) ∷
    test 14 (held_fault state || outside concentration u' || ltb most_steps M) ∷
    []
