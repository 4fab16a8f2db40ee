-- A step's outcome, from what its tests find.
use mathlib.Core.Path.{◌≡◌, refl, sym, ◌∙◌}
use mathlib.Core.Bool.{Bool, true, false, cond, ◌||◌, true≢false}
use mathlib.Core.List.{List, [], ◌∷◌, ◌++◌, map}
use Prim.Native.Nat.{ℕ, ◌+◌, ◌<◌, ◌≤◌}
use native.Mathlib.Nat.{le_trans}
use native.Mathlib.Numerals.{add-one}
use native.Mathlib.Omega.{arith}
use borrow.Author.Tests.{ltb-false}
use lib.Dec.{leb, ltb}
use lib.ListN.{length, get_or}
use Rattle.lists.specs.Lists.{over, lowest, any_shorter, any_under}
use Rattle.lists.proofs.Over.{over-long}
use Rattle.lists.proofs.Either.{lowest-either}
use Rattle.std.specs.Prelude.{Option, unwrap_or}
use Rattle.lists.proofs.Lowest.{none-at-fault, lowest-is}
use Rattle.lists.proofs.Shorter.{neither, all-long, shorter-both, under-lengths}
use Rattle.rounding.specs.Nearest.{S}
use Rattle.model.specs.Ranges.{◌to◌, outside, concentration, highest, most_kd, most_steps, most_segments}
use Rattle.model.specs.HalfStep.{Numbers}
use Rattle.model.specs.Equations.{Figures, sum_t, sum_v}
use Rattle.model.specs.Sweep.{stepped}
use Rattle.model.specs.State.{NumberSet, set_lists, numbers_at, Columns, column_lists, segment_at, pair_at, pairs_of, State, state_lists, figures_at, figures_of, write_figures}
use Rattle.model.specs.Refusals.{Place, accepted, refused, Finding, passes, fails, test, first}
use Rattle.model.specs.Load.{sum_fault}
use Rattle.model.specs.Highest.{block_count, highest_of, blocks_fault}
use Rattle.model.specs.Calls.{river_fault, numbers_fault, segment_fault, figure_fault, start_fault, state_fault, old_fault, held_fault, Working, step_tests, step_left, step, call_result}
use Rattle.model.proofs.Ranges.{inside}
use Rattle.model.proofs.Refusals.{first_of}
use Rattle.model.proofs.Calls.{result-passes, result-fails}
use Rattle.sweep_laws.specs.Accepted.{Sums, Accepted, AtMost}
use Rattle.terms.specs.Lent as Lent
use Rattle.sweep.specs.Step as Sweep
use Rattle.blocks.proofs.Fault.{blocks-long}
use Rattle.calltests.specs.Tests.{state_tests}
use Rattle.calltests.specs.Tests.{below}
use Rattle.calltests.proofs.Found.{below-or}
use Rattle.calltests.proofs.RiverLaws.{counted, columns-long, figures-long}
use Rattle.terms.proofs.Lengths.{set_long}
use Rattle.calltests.proofs.StateTests.{Sound, sound}
use Rattle.otis.specs.Outcomes.{result_with}

-- ---- what the tests of a step read beside its state

-- the lowest at fault in the old set, as a number
pub lowest_other : (n : ℕ) (old : NumberSet) {other : Option ℕ} → other ≡ below n (cond (river_fault n (set_lists old)) n (lowest n (old_fault n old))) →
    unwrap_or other n ≡ cond (river_fault n (set_lists old)) n (lowest n (old_fault n old))
lowest_other n old e = rw e (below-or n _ (within (river_fault n (set_lists old)) (lowest-is (old_fault n old) n).within))
  where
    within : (t : Bool) {low : ℕ} → low ≤ 0 + n → cond t n low ≤ n
    within true h = omega arith
    within false h = omega arith

-- the highest figures, the working lists and the old set, by their lengths
pub others-short : (n : ℕ) (blocks p y : List ℕ) (old : NumberSet) (fault : Bool) →
    fault ≡ (ltb (length blocks) (block_count n) || any_under n (length p ∷ length y ∷ []) || any_shorter n (set_lists old)) →
    fault ≡ (blocks_fault n blocks || any_shorter n (p ∷ y ∷ []) || any_shorter n (set_lists old))
unfolding blocks_fault
others-short n blocks p y old fault e = e ∙ rw (under-lengths n (p ∷ y ∷ []))

-- ---- what an accepted step knows of a segment

at_most : (x : ℕ) → outside concentration x ≡ false → x ≤ highest
at_most x e = (inside concentration x e).1

sums : (n : Numbers) → sum_fault n ≡ false → Sums n
unfolding sum_fault
sums n e =
    let both = neither (ltb S (sum_t n) || ltb S (sum_v n)) (ltb S n.h) e in
    let tv = neither (ltb S (sum_t n)) (ltb S (sum_v n)) both.0 in
    record { t = ltb-false _ _ tv.0; v = ltb-false _ _ tv.1; h = ltb-false _ _ both.1 }

pair-accepted : (n : ℕ) (old : NumberSet) (x : Columns) (i : ℕ) → old_fault n old i ≡ false → start_fault n x i ≡ false → Accepted (pair_at old x i)
unfolding old_fault start_fault segment_fault numbers_fault segment_at pair_at
pair-accepted n old x i o e =
    let start = neither _ (outside concentration (get_or x.start i 0)) e in
    let cb = neither _ (outside concentration (get_or x.cb i 0)) start.0 in
    let cl = neither _ (outside concentration (get_or x.cl i 0)) cb.0 in
    let numbers = neither _ (ltb most_kd (get_or x.kd i 0)) cl.0 in
    record {
      old = sums (numbers_at old i) (neither (sum_fault (numbers_at old i)) _ o).0;
      new = sums (numbers_at x.numbers i) (neither (sum_fault (numbers_at x.numbers i)) _ numbers.0).0;
      cl = at_most _ cl.1;
      cb = at_most _ cb.1;
    }

figures-most : (f : Figures) → figure_fault f ≡ false → AtMost highest f
unfolding figure_fault
figures-most f e =
    let w = neither (outside concentration f.c || outside concentration f.z) (outside concentration f.w) e in
    let z = neither (outside concentration f.c) (outside concentration f.z) w.0 in
    record { c = at_most _ z.0; z = at_most _ z.1; w = at_most _ w.1 }

-- ---- a step's outcome: its tests are those of its state, and then 15. `unfit` and `other` are what 13 and 14 find of its other lists.

or-true : (b : Bool) → (b || true) ≡ true
or-true true = refl
or-true false = refl

others-last : (range set river working blocks : Bool) →
    (range || (set || (river || working)) || blocks) ≡ (range || river || (blocks || working || set))
others-last true set river working blocks = refl
others-last false true true working blocks = refl
others-last false true false working true = refl
others-last false true false working false = sym (or-true working)
others-last false false true working blocks = refl
others-last false false false true true = refl
others-last false false false true false = refl
others-last false false false false true = refl
others-last false false false false false = refl

set-decides : (range set river working blocks : Bool) → (range || set) ≡ true → (range || river || (blocks || working || set)) ≡ true
set-decides true set river working blocks e = refl
set-decides false true true working blocks e = refl
set-decides false true false working true e = refl
set-decides false true false working false e = or-true working
set-decides false false river working blocks e = absurd (true≢false (sym e))

-- what the sweep is lent of the state
abbrev still : State → State
still s = Lent.state s.channel s.storage s.sediment s.upstream 0

module _ (n : ℕ) (old : NumberSet) (x : Columns) (state : State) (blocks : List ℕ) (lent : Working) (u' M : ℕ)
    (unfit : Bool) (is : unfit ≡ (blocks_fault n blocks || any_shorter n (lent.p ∷ lent.y ∷ []) || any_shorter n (set_lists old)))
    (other : ℕ) (low : other ≡ cond (river_fault n (set_lists old)) n (lowest n (old_fault n old))) where
  river-all : (river_fault n (set_lists old ++ column_lists x ++ state_lists state ++ lent.p ∷ lent.y ∷ []) || blocks_fault n blocks)
      ≡ (river_fault n (column_lists x ++ state_lists state) || unfit)
  unfolding river_fault
  river-all =
      rw (shorter-both n (set_lists old) (column_lists x ++ state_lists state ++ lent.p ∷ lent.y ∷ []), shorter-both n (column_lists x ++ state_lists state) (lent.p ∷ lent.y ∷ []), is)
      (others-last (outside (1 to most_segments) n) (any_shorter n (set_lists old)) (any_shorter n (column_lists x ++ state_lists state)) (any_shorter n (lent.p ∷ lent.y ∷ [])) (blocks_fault n blocks))

  -- where 13 finds fault with the count or with a list of the old set, it says so, whatever 14 finds
  refused-13 : river_fault n (set_lists old) ≡ true → (river_fault n (column_lists x ++ state_lists state) || unfit) ≡ true
  unfolding river_fault
  refused-13 e =
      rw is
      (set-decides (outside (1 to most_segments) n) (any_shorter n (set_lists old)) (any_shorter n (column_lists x ++ state_lists state)) (any_shorter n (lent.p ∷ lent.y ∷ [])) (blocks_fault n blocks) e)

  same_tests : (fault : Bool) → river_fault n (set_lists old) ≡ fault →
      first (state_tests n x state unfit other u' M ++ (test 15 (leb M state.steps) ∷ [])) ≡ first (step_tests n old x state blocks lent u' M)
  unfolding state_tests step_tests
  same_tests true e = rw (river-all, refused-13 e)
  same_tests false e = rw (river-all, low, e, lowest-either (old_fault n old) (state_fault n x state) n)

  step-tests : {finding : Finding} → finding ≡ first (state_tests n x state unfit other u' M) →
      first (finding ∷ test 15 (leb M state.steps) ∷ []) ≡ first (step_tests n old x state blocks lent u' M)
  step-tests found =
      rw found (first_of (state_tests n x state unfit other u' M) (test 15 (leb M state.steps) ∷ []) ∙ same_tests (river_fault n (set_lists old)) refl)

  module _ (number : ℕ) (place : Place) where
    refused-with : first (step_tests n old x state blocks lent u' M) ≡ fails number place →
        result_with (refused number place) state blocks lent ≡ call_result n state (step old x blocks lent u' M)
    refused-with e = sym (result-fails n state (step old x blocks lent u' M) e)

    -- the tests of its state fail
    pub state-refused : fails number place ≡ first (state_tests n x state unfit other u' M) →
        result_with (refused number place) state blocks lent ≡ call_result n state (step old x blocks lent u' M)
    state-refused found = refused-with (sym (step-tests found))

    -- they pass, and 15 fails
    pub done-refused : passes ≡ first (state_tests n x state unfit other u' M) → fails number place ≡ test 15 (leb M state.steps) →
        result_with (refused number place) state blocks lent ≡ call_result n state (step old x blocks lent u' M)
    done-refused found e = refused-with (sym (step-tests found) ∙ rw (← e))

  module _ (found : passes ≡ first (state_tests n x state unfit other u' M)) (e : passes ≡ test 15 (leb M state.steps)) where
    known : Sound n x state unfit other u' M
    known = sound n x state unfit other u' M (sym found)

    fit : ((blocks_fault n blocks || any_shorter n (lent.p ∷ lent.y ∷ [])) ≡ false) × (any_shorter n (set_lists old) ≡ false)
    fit = neither (blocks_fault n blocks || any_shorter n (lent.p ∷ lent.y ∷ [])) (any_shorter n (set_lists old)) (sym is ∙ known.fit)

    enough : (blocks_fault n blocks ≡ false) × (any_shorter n (lent.p ∷ lent.y ∷ []) ≡ false)
    enough = neither (blocks_fault n blocks) (any_shorter n (lent.p ∷ lent.y ∷ [])) fit.0

    set-clear : river_fault n (set_lists old) ≡ false
    unfolding river_fault
    set-clear = rw ((neither (outside (1 to most_segments) n) (any_shorter n (column_lists x ++ state_lists state)) known.river).0, fit.1)

    old-clear : (i : ℕ) → i < n → old_fault n old i ≡ false
    old-clear = none-at-fault (old_fault n old) n (omega (arith, known.others, rw set-clear at low))

    segments : (i : ℕ) → i < n → (start_fault n x i ≡ false) × (figure_fault (figures_at state i) ≡ false)
    unfolding state_fault
    segments i h = neither (start_fault n x i) (figure_fault (figures_at state i)) (known.segments i h)

    held : (state.upstream ≤ highest) × (u' ≤ highest)
    unfolding held_fault
    held =
        let both = neither (held_fault state || outside concentration u') (ltb most_steps M) known.held in
        let scalars = neither (held_fault state) (outside concentration u') both.0 in
        (at_most _ (neither (outside concentration state.upstream) (ltb most_steps state.steps) scalars.0).0, at_most u' scalars.1)

    -- what the sweep asks; Kd, the start figures and the count take no part in it
    pub step-ready : Sweep.Ready n old x (still state) lent u'
    unfolding figures_at pair_at
    step-ready =
        let columns = columns-long n x (state_lists state) known.river in
        let working = all-long n (lent.p ∷ lent.y ∷ []) enough.1 in
        record {
          pairs = record {
            few = (counted n (column_lists x ++ state_lists state) known.river).1;
            old_set = set_long n old fit.1;
            new_set = columns.numbers;
            cl = columns.cl;
            cb = columns.cb;
          };
          figures = figures-long n x state.channel state.storage state.sediment known.river;
          p_long = working.0;
          y_long = working.1.0;
          accepted = λ i h. pair-accepted n old x i (old-clear i h) (segments i h).0;
          most = λ i h. figures-most (figures_at state i) (segments i h).1;
          most_u = held.0;
          most_u' = held.1;
        }

    -- after the sweep the channel list still has an entry for each segment, and that of the highest figures one for each block
    pub blocks-ready : {after : State} {passed : Working} {channel : List ℕ} → Sweep.Stepped n old x (still state) lent u' after passed →
        channel ≡ after.channel → (n ≤ most_segments) × (n ≤ length channel) × (block_count n ≤ length blocks)
    blocks-ready done e =
        let lists = column_lists x ++ state_lists state in
        let new = map (λ (f : Figures). f.c) (stepped state.upstream u' (pairs_of n old x) (figures_of n (still state))) in
        let long = figures-long n x state.channel state.storage state.sediment known.river in
        ((counted n lists known.river).1, rw (e, done.state_after.of_channel) (le_trans long.channel (over-long new state.channel)), blocks-long n blocks enough.0)

    pub step-accepted : {after : State} {passed : Working} {c z w p y left : List ℕ} → Sweep.Stepped n old x (still state) lent u' after passed →
        c ≡ after.channel → z ≡ after.storage → w ≡ after.sediment → p ≡ passed.p → y ≡ passed.y → left ≡ over (highest_of n c) blocks →
        result_with (accepted (record { upstream = u'; steps = state.steps + 1 }))
        (Lent.state c z w u' (state.steps + 1)) left (Lent.working p y) ≡ call_result n state (step old x blocks lent u' M)
    unfolding step_left write_figures figures_at pair_at
    step-accepted done c z w p y filled = rw (
      result-passes n state (step old x blocks lent u' M) (sym (step-tests found) ∙ rw (← e)),
      add-one state.steps,
      filled,
      c,
      z,
      w,
      p,
      y,
      done.state_after.of_channel,
      done.state_after.of_storage,
      done.state_after.of_sediment,
      done.working_after.of_p,
      done.working_after.of_y,
    )
