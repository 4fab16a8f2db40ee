-- Start, step and report: their tests 13 to 15, what each answers and leaves where they pass, and then the result of any of the three.
use Rattle.std.specs.Prelude.{Bool, true, false, not, ◌&&◌, ◌||◌, List, [], ◌∷◌, ◌++◌, map, ℕ, suc, ◌-◌, ◌*◌, eqb, ltb, leb}
use Rattle.lists.specs.Lists.{over, any_shorter}
use Rattle.model.specs.Ranges.{◌to◌, outside, concentration, most_kd, most_steps, most_segments}
use Rattle.model.specs.HalfStep.{Numbers, Segment}
use Rattle.model.specs.Equations.{Figures}
use Rattle.model.specs.Sweep.{downward, stepped}
use Rattle.model.specs.State.{NumberSet, set_lists, numbers_at, Columns, column_lists, segment_at, segments_of, pairs_of, State, state_lists, figures_at, figures_of, write_figures}
use Rattle.model.specs.Refusals.{segment, Outcome, Finding, test, test_each, outcome_of, left_after}
use Rattle.model.specs.Load.{sum_fault}
use Rattle.model.specs.Highest.{highest_of, blocks_fault}

-- 13. "A lent list is shorter than the river .., or the river has no segment or over 1,024"
unfoldable pub river_fault : (n : ℕ) → List (List ℕ) → Bool
river_fault n lists = outside (1 to most_segments) n || any_shorter n lists

-- 14. of a segment's numbers in a set: "A half-step sum (T, V or h) exceeds one whole, the last g is not 0"
unfoldable pub numbers_fault : (is_last : Bool) → Numbers → Bool
numbers_fault is_last x = sum_fault x || (is_last && not (eqb x.g 0))

-- 14. of a segment's lists: these, "Kd exceeds 1,000, a concentration exceeds its limit"
unfoldable pub segment_fault : (is_last : Bool) → Segment → Bool
segment_fault is_last x =
    numbers_fault is_last x.numbers || ltb most_kd x.kd
    || outside concentration x.cl || outside concentration x.cb || outside concentration x.start

-- 14. of a segment's state
unfoldable pub figure_fault : Figures → Bool
figure_fault f = outside concentration f.c || outside concentration f.z || outside concentration f.w

-- segment i of n as lent to a start, which looks at no figure that it overwrites
unfoldable pub start_fault : (n : ℕ) → Columns → ℕ → Bool
start_fault n columns i = segment_fault (eqb (suc i) n) (segment_at columns i)

-- segment i of n as lent to a report, and to a step with its new set
unfoldable pub state_fault : (n : ℕ) → Columns → State → ℕ → Bool
state_fault n columns state i = start_fault n columns i || figure_fault (figures_at state i)

-- segment i of n in the old set of a step
unfoldable pub old_fault : (n : ℕ) → NumberSet → ℕ → Bool
old_fault n old i = numbers_fault (eqb (suc i) n) (numbers_at old i)

-- 14. "nothing for U, U', M or the count, which are looked at after all segments": of the state
unfoldable pub held_fault : State → Bool
held_fault state = outside concentration state.upstream || ltb most_steps state.steps

-- the two working lists of a step, p and y
pub record Working : Type 0 where
  pub p : List ℕ
  pub y : List ℕ

-- those of a call that is lent none
abbrev pub no_working : Working
no_working = record { p = []; y = [] }

-- what a call leaves: the state (on a pool, the pool), the highest figures, "true after every start and step", and the working lists; a list that
-- it is not lent is empty here
pub record Left (S : Type 0) : Type 0 where
  pub state : S
  pub highest : List ℕ
  pub working : Working

-- what an accepted start or step hands back: U and the count of steps done
pub record River : Type 0 where
  pub upstream : ℕ
  pub steps : ℕ

-- ---- "A start sets C, Z and W to the start figure, U to that of step 0 and the count to 0."

-- "a start .. 13 then 14"; u is "U at step 0". It is also lent the highest figures, "which 14 skips".
unfoldable pub start_tests : (n : ℕ) → Columns → State → (highest : List ℕ) → (u : ℕ) → List Finding
start_tests n columns state highest u =
    test 13 (river_fault n (column_lists columns ++ state_lists state) || blocks_fault n highest) ∷
    test_each 14 segment n (start_fault n columns) ∷
    test 14 (outside concentration u) ∷
    []

-- "C, Z and W to the start figure"
abbrev pub start_figures : Segment → Figures
start_figures x = record { c = x.start; z = x.start; w = x.start }

-- what it leaves
unfoldable pub start_left : (n : ℕ) → Columns → State → (highest : List ℕ) → (u : ℕ) → Left State
start_left n columns state highest u =
    let begun = write_figures (map start_figures (segments_of n columns)) u 0 state in
    record { state = begun; highest = over (highest_of n begun.channel) highest; working = no_working }

-- ---- a step: "handed .. U' and M"; `old` is the set of its old side, `new` has that of its new side

-- "a step 13 to 15"; "A step is lent both sets, and 14 looks at both"
unfoldable pub step_tests : (n : ℕ) → (old : NumberSet) → (new : Columns) → State → (highest : List ℕ) → Working → (u' M : ℕ) → List Finding
step_tests n old new state highest working u' M =
    test 13 (river_fault n (set_lists old ++ column_lists new ++ state_lists state ++ working.p ∷ working.y ∷ []) || blocks_fault n highest) ∷
    test_each 14 segment n (λ i. old_fault n old i || state_fault n new state i) ∷
    test 14 (held_fault state || outside concentration u' || ltb most_steps M) ∷
    test 15 (leb M state.steps) ∷
    []

-- what it leaves: "After a step the state's U is that step's U'."; the working lists have p and y of the downward pass
unfoldable pub step_left : (n : ℕ) → (old : NumberSet) → (new : Columns) → State → (highest : List ℕ) → Working → (u' : ℕ) → Left State
step_left n old new state highest working u' =
    let after = write_figures (stepped state.upstream u' (pairs_of n old new) (figures_of n state)) u' (suc state.steps) state in
    let passed = downward state.upstream u' (pairs_of n old new) (figures_of n state) in
    record {
      state = after;
      highest = over (highest_of n after.channel) highest;
      working = record { p = over (map (λ x. x.p) passed) working.p; y = over (map (λ x. x.y) passed) working.y };
    }

-- ---- a report: "a segment, for which it gives C, Z and Kd × W"; segments count from 1

-- "C, Z and Kd × W"
pub record Reported : Type 0 where
  pub channel : ℕ
  pub storage : ℕ
  pub sediment : ℕ

-- "a .. report 13 then 14"; 13 also where "a report's segment is not in it"
unfoldable pub report_tests : (n : ℕ) → Columns → State → (number : ℕ) → List Finding
report_tests n columns state number =
    test 13 (river_fault n (column_lists columns ++ state_lists state) || outside (1 to n) number) ∷
    test_each 14 segment n (state_fault n columns state) ∷
    test 14 (held_fault state) ∷
    []

-- those of the segment at i, which counts from 0
unfoldable pub reported : Columns → State → ℕ → Reported
reported columns state i =
    let f = figures_at state i in
    record { channel = f.c; storage = f.z; sediment = (segment_at columns i).kd * f.w }

-- ---- the result of a call

-- a call, by what it is lent beside the state and the segment count, and what it is handed: "A start is also handed U at step 0; a step U' and M; a
-- report a segment"
pub data Call : Type 0 where
  start : Columns → (highest : List ℕ) → (u : ℕ) → Call
  step : (old : NumberSet) → (new : Columns) → (highest : List ℕ) → Working → (u' M : ℕ) → Call
  report : Columns → (number : ℕ) → Call

-- its tests, in their order
abbrev pub call_tests : (n : ℕ) → State → Call → List Finding
call_tests n state (start columns highest u) = start_tests n columns state highest u
call_tests n state (step old new highest working u' M) = step_tests n old new state highest working u' M
call_tests n state (report columns number) = report_tests n columns state number

-- what it hands back where they pass: of a start or a step U and the count, of a report the segment's figures
abbrev pub Values : Call → Type 0
Values (start columns highest u) = River
Values (step old new highest working u' M) = River
Values (report columns number) = Reported

-- and those of this call
abbrev pub call_values : State → (call : Call) → Values call
call_values state (start columns highest u) = record { upstream = u; steps = 0 }
call_values state (step old new highest working u' M) = record { upstream = u'; steps = suc state.steps }
call_values state (report columns number) = reported columns state (number - 1)

-- what it leaves where they pass; a report writes nothing
abbrev pub call_left : (n : ℕ) → State → Call → Left State
call_left n state (start columns highest u) = start_left n columns state highest u
call_left n state (step old new highest working u' M) = step_left n old new state highest working u'
call_left n state (report columns number) = record { state = state; highest = []; working = no_working }

-- and where one does not: what it was lent
abbrev pub call_lent : {S : Type 0} → S → Call → Left S
call_lent state (start columns highest u) = record { state = state; highest = highest; working = no_working }
call_lent state (step old new highest working u' M) = record { state = state; highest = highest; working = working }
call_lent state (report columns number) = record { state = state; highest = []; working = no_working }

-- a call's result: its answer, and what it leaves
pub record Result (S A : Type 0) : Type 0 where
  pub answer : Outcome A
  pub left : Left S

-- that of a call with these tests
abbrev pub result_of : {S A : Type 0} → List Finding → A → (lent written : Left S) → Result S A
result_of tests values lent written =
    record { answer = outcome_of tests values; left = left_after (outcome_of tests values) lent written }

-- that of a call on lists alone, of n segments
unfoldable pub call_result : (n : ℕ) → State → (call : Call) → Result State (Values call)
call_result n state call = result_of (call_tests n state call) (call_values state call) (call_lent state call) (call_left n state call)

-- a start or a step, which leave highest figures; a report leaves none
abbrev pub leaves_highest : Call → Bool
leaves_highest (start columns highest u) = true
leaves_highest (step old new highest working u' M) = true
leaves_highest (report columns number) = false
