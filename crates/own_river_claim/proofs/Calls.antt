-- A start of the sheet's own river leaves a state that it may stand in, and a step from such a state passes 13 to 15 below M.
use mathlib.Core.Path.{◌≡◌, refl, ap, ◌∙◌}
use mathlib.Core.Bool.{Bool, false, ◌||◌}
use mathlib.Core.List.{List, [], ◌∷◌, ◌++◌, map}
use Prim.Native.Nat.{ℕ, suc, ◌<◌, ◌≤◌}
use native.Mathlib.Omega.{arith}
use borrow.Author.Tests.{le-ltb, le-leb, lt-leb}
use lib.Dec.{T, leb}
use Rattle.lists.specs.Lists.{lowest, any_shorter}
use Rattle.lists.proofs.Tab.{map-tab}
use Rattle.lists.proofs.Lowest.{lowest-end}
use Rattle.lists.proofs.Shorter.{neither, shorter-both}
use Rattle.model.specs.Ranges.{◌to◌, outside, concentration, highest, most_steps, most_segments}
use Rattle.model.specs.Sheet.{steps_m, segment_count}
use Rattle.model.specs.Flow.{course_of, flow_in_force}
use Rattle.model.specs.HalfStep.{site_at, numbers, loaded_segment}
use Rattle.model.specs.Sweep.{stepped}
use Rattle.model.specs.State.{NumberSet, set_lists, numbers_at, Columns, column_lists, loaded_segments, State, state_lists, figures_at, figures_of, write_figures}
use Rattle.model.specs.Refusals.{nothing, segment, refused, Finding, passes, fails, test, first}
use Rattle.model.specs.Load.{river_tests}
use Rattle.model.specs.Highest.{blocks_fault}
use Rattle.model.specs.Calls.{Working, river_fault, start_fault, state_fault, old_fault, held_fault, start_figures, start_tests, start_left, step_tests, step_left, start, step, call_result}
use Rattle.model.specs.Runs.{alone, accepts, after, AsLoaded}
use Rattle.model.specs.OwnRiver.{own_step, own_start, Alike}
use Rattle.model.specs.OwnRiverClaim.{StepLent}
use Rattle.model.proofs.FlowRows.{in-force-known}
use Rattle.model.proofs.Refusals.{all_pass, test-clear, each-passes, accepted-passes}
use Rattle.model.proofs.Calls.{result-passes, result-fails}
use Rattle.sweep_laws.specs.Accepted.{AtMost}
use Rattle.sweep_laws.proofs.Accepted.{All, all-tab}
use Rattle.loading_laws.proofs.AsLoaded.{same-entry, segment-as-loaded, pairs-as-loaded, same-start-figures}
use Rattle.own_river_laws.proofs.Ahead.{starts-length, start-alike-lists}
use Rattle.own_river_laws.proofs.Sheets.{most-steps, some-segments, most-segments, start-most, numbers-clear, segment-clear}
use Rattle.own_river_laws.proofs.Standing.{Standing, figure-clear, stands-written, stands_at}

-- a row of one test
first_one : (t : Finding) → first (t ∷ []) ≡ t
first_one passes = refl
first_one (fails number place) = refl

-- two rows of lists that are long enough
both_long : (n : ℕ) (xs ys : List (List ℕ)) → any_shorter n xs ≡ false → any_shorter n ys ≡ false → any_shorter n (xs ++ ys) ≡ false
both_long n xs ys e q = rw (shorter-both n xs ys, e, q)

-- ---- a start

module _ (sheet : List ℕ) (n : ℕ) (lent : Columns) (before : State) (hs : List ℕ) (u : ℕ) (loaded : AsLoaded sheet n lent)
    (taken : T (accepts before (alone n (start lent hs u)))) where
  start-tests : first (start_tests n lent before hs u) ≡ passes
  unfolding accepts call_result
  start-tests = accepted-passes (start_tests n lent before hs u) _ taken

  -- it leaves the sheet's start figures, which are the same for every flow
  pub start-leaves : after before (alone n (start lent hs u)) ≡ write_figures (map start_figures (loaded_segments sheet 0)) u 0 before
  unfolding after start_left
  start-leaves =
      ap (λ x. x.left.state) (result-passes n before (start lent hs u) start-tests)
      ∙ ap (λ fs. write_figures fs u 0 before) (ap (map start_figures) loaded.lists.segments ∙ same-start-figures sheet loaded.flow)

  pub start-counts : (after before (alone n (start lent hs u))).steps ≡ 0
  unfolding write_figures
  start-counts = ap (λ (s : State). s.steps) start-leaves

  -- 13, of the state's lists
  start-long : any_shorter (segment_count sheet) (state_lists before) ≡ false
  unfolding start_tests river_fault
  start-long =
      let t = all_pass (start_tests n lent before hs u) start-tests in
      let both = column_lists lent ++ state_lists before in
      let lists = (neither (outside (1 to most_segments) n) _ (neither (river_fault n both) (blocks_fault n hs) (test-clear 13 _ t.0)).0).1 in
      rw loaded.lists.count at (neither (any_shorter n (column_lists lent)) _ (rw (shorter-both n (column_lists lent) (state_lists before)) at lists)).1

  -- 14, of U
  start-range : outside concentration u ≡ false
  unfolding start_tests
  start-range = test-clear 14 _ (all_pass (start_tests n lent before hs u) start-tests).1.1.0

  pub start-stands : first (river_tests sheet) ≡ passes → Standing sheet (after before (alone n (start lent hs u)))
  start-stands front =
      let f = loaded_segment (course_of sheet 0) in
      let most : All (AtMost highest) (map start_figures (loaded_segments sheet 0)) =
      rw (map-tab start_figures f 0 (segment_count sheet))
      (all-tab 0 (segment_count sheet) (λ i. start_figures (f i)) (λ i a b.
      let h = start-most sheet front 0 i (omega arith) in record { c = h; z = h; w = h })) in
      rw start-leaves (stands-written sheet _ u 0 before (starts-length sheet) most start-range start-long)

-- handed U at step 0, it leaves the state that the own river starts in
pub start-alike : (sheet : List ℕ) (u : ℕ → ℕ) (n : ℕ) (lent : Columns) (before : State) (hs : List ℕ) → AsLoaded sheet n lent →
    T (accepts before (alone n (start lent hs (u 0)))) → Alike (segment_count sheet) (after before (alone n (start lent hs (u 0)))) (own_start u sheet)
start-alike sheet u n lent before hs loaded taken = rw (start-leaves sheet n lent before hs (u 0) loaded taken) (start-alike-lists u sheet before)

-- ---- a step

module _ (sheet : List ℕ) (front : first (river_tests sheet) ≡ passes) (state : State) (stands : Standing sheet state)
    (old : NumberSet) (new : Columns) (hs : List ℕ) (working : Working) (l : StepLent sheet state.steps old new hs working) where
  -- 13
  lists-clear : river_fault (segment_count sheet) (set_lists old ++ column_lists new ++ state_lists state ++ working.p ∷ working.y ∷ []) ≡ false
  unfolding river_fault outside
  lists-clear =
      let n = segment_count sheet in
      rw (le-ltb n 1 (some-segments sheet front), le-ltb most_segments n (most-segments sheet front))
      (both_long n (set_lists old ++ column_lists new ++ state_lists state) (working.p ∷ working.y ∷ [])
      (both_long n (set_lists old ++ column_lists new) (state_lists state) (both_long n (set_lists old) (column_lists new) l.old_long l.new_long) stands.long)
      l.working_long)

  -- 14, of segment i
  pair-clear : (i : ℕ) → i < segment_count sheet → (old_fault (segment_count sheet) old i || state_fault (segment_count sheet) new state i) ≡ false
  unfolding old_fault state_fault start_fault
  pair-clear i h =
      let n = state.steps in
      let before = same-entry (numbers_at old) (λ j. numbers (site_at (course_of sheet (flow_in_force sheet n)) j)) _ _ refl l.pair.before i h in
      rw (
        before,
        numbers-clear sheet front (flow_in_force sheet n) (in-force-known sheet n) i h,
        segment-as-loaded l.pair.after i h,
        segment-clear sheet front (flow_in_force sheet (suc n)) (in-force-known sheet (suc n)) i h,
      )
      (figure-clear (figures_at state i) (stands_at sheet state stands i h))

  -- 13 and 14, with any U' in range, leave the answer to 15
  to-the-last : (u' : ℕ) → outside concentration u' ≡ false → state.steps ≤ steps_m sheet →
      first (step_tests (segment_count sheet) old new state hs working u' (steps_m sheet)) ≡ test 15 (leb (steps_m sheet) state.steps)
  unfolding step_tests held_fault
  to-the-last u' range less =
      let n = segment_count sheet in
      let fault : ℕ → Bool = λ i. old_fault n old i || state_fault n new state i in
      let low : lowest n fault ≡ n = lowest-end fault n pair-clear in
      rw (
        lists-clear,
        l.blocks,
        each-passes 14 segment n fault (omega (arith, low)),
        stands.upstream,
        le-ltb most_steps state.steps (omega (arith, most-steps sheet front)),
        range,
        le-ltb most_steps (steps_m sheet) (most-steps sheet front),
      )
      (first_one (test 15 (leb (steps_m sheet) state.steps)))

  -- at M 15 is found
  pub step-refused : (u' : ℕ) → outside concentration u' ≡ false → state.steps ≡ steps_m sheet →
      (call_result (segment_count sheet) state (step old new hs working u' (steps_m sheet))).answer ≡ refused 15 nothing
  step-refused u' range e =
      ap (λ x. x.answer) (result-fails (segment_count sheet) state (step old new hs working u' (steps_m sheet))
      (to-the-last u' range (omega arith) ∙ rw (le-leb (steps_m sheet) state.steps (omega arith))))

  module _ (u' : ℕ) (range : outside concentration u' ≡ false) (less : state.steps < steps_m sheet) where
    -- below M all tests pass
    step-tests : first (step_tests (segment_count sheet) old new state hs working u' (steps_m sheet)) ≡ passes
    step-tests = to-the-last u' range (omega arith) ∙ rw (lt-leb (steps_m sheet) state.steps less)

    -- the call is accepted
    pub step-taken : T (accepts state (alone (segment_count sheet) (step old new hs working u' (steps_m sheet))))
    unfolding accepts
    step-taken = rw (result-passes (segment_count sheet) state (step old new hs working u' (steps_m sheet)) step-tests) tt

    -- and leaves what the sheet's own step does
    pub step-leaves : after state (alone (segment_count sheet) (step old new hs working u' (steps_m sheet))) ≡ own_step sheet u' state
    unfolding after step_left own_step
    step-leaves =
        ap (λ x. x.left.state) (result-passes (segment_count sheet) state (step old new hs working u' (steps_m sheet)) step-tests)
        ∙ ap (λ pairs. write_figures (stepped state.upstream u' pairs (figures_of (segment_count sheet) state)) u' (suc state.steps) state)
        (pairs-as-loaded old l.pair)
