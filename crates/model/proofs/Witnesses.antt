-- Each claim can be met, and each can fail.
use mathlib.Core.Path.{◌≡◌, refl, sym, ap, ◌∙◌}
use mathlib.Core.List.{List, [], ◌∷◌, ◌++◌, map}
use mathlib.Core.Logic.{⊎_elim}
use mathlib.Core.Option.{Option, some}
use Prim.Native.Nat.{ℕ, zero, suc, ◌+◌, ◌*◌, ◌<◌}
use native.Mathlib.Omega.{arith}
use lib.Dec.{T, leb, lit<, lit≤}
use lib.IntN.{pos, nat_abs}
use lib.ListN.{get_or-replicate}
use lib.Signed.{le_z_yes}
use Rattle.lists.specs.Lists.{lowest_from, lowest, any_shorter, not_rising, any_below, sum_below, highest_below}
use Rattle.rounding.specs.Nearest.{nearest}
use Rattle.rounding.specs.Floor.{floor_div}
use Rattle.fractions.specs.Fractions.{Same, Within, ◌·◌}
use Rattle.model.specs.Ranges.{outside, any_outside}
use Rattle.model.specs.Sheet.{flow_row_start, flow_row_top, flow_row_starts, flow_row_tops, sections, edition, starts_with, field, header_field, section_end, sections_end, count_at, sheet_end, flow_row_count, record_field, reach_fields, reach_of, reach_on, reaches, row_starts, row_concentrations, gauges, total_segments, segment_count, along_river, banded_reaches, band_count, bands_on}
use Rattle.model.specs.Flow.{last_begun, flow_in_force, top_of, course_of, reach_at, own_gain, gain, flow, bands_at, flow_at}
use Rattle.model.specs.Bands.{hydraulics_at, bands_fault}
use Rattle.model.specs.HalfStep.{Numbers, Segment, site_at, fractions, numbers, loaded_segment, hydraulics_of}
use Rattle.model.specs.Sweep.{P, N, F, R, row_of, new_storage, new_sediment, new_figures, downward, stepped}
use Rattle.model.specs.Equations.{Figures}
use Rattle.model.specs.ExactRiver.{ExactFigures}
use Rattle.model.specs.State.{loaded_segments, figures_of, pair_at, numbers_at, segment_at, write_segments, figures_at, write_figures}
use Rattle.model.specs.Refusals.{nothing, accepted, refused, Finding, passes, first}
use Rattle.model.specs.Load.{flow_row_fault, test_flows, walk, starts_late, row_fault, gauge_fault, flow_fault, face_fault, sum_fault, sheet_tests, course_tests, list_tests, load_tests, loaded, load_answer, load_columns}
use Rattle.model.specs.Highest.{block_highest, blocks_fault}
use Rattle.model.specs.Calls.{old_fault, numbers_fault, river_fault, segment_fault, figure_fault, start_fault, state_fault, held_fault, start_tests, start_left, step_left, call_result, step_tests, report_tests, start, step, report, Reported, reported}
use Rattle.model.specs.Search.{search_tests, Above, Finds, Searches, SearchAnswer, Clear}
use Rattle.model.specs.Runs.{LoneCall, alone, accepts, after, run, AllAccepted, left_since, AsLoaded, PairAsLoaded, Fed, events, Exact, no_river, ExactRun}
use Rattle.model.specs.Claim.{SameFigures, SamePast, Near, Holds, Demand3}
use Rattle.model.specs.Pool.{vacant, Pool, open_segments, room_fault, table_fault, shared_fault, open_tests, open_answer, open_columns}
use Rattle.model.specs.PoolClaim.{NoneOpen, vacated}
use Rattle.model.specs.Bench.{bytes, all_bytes, zeros, no_state, no_work, listed, listed_columns, listed_state}
use Rattle.model.specs.FlowBench.{snow, melting}
use Rattle.model.specs.PoolBench.{open_at, table_of, overlapping, from10, pool_with}
use Rattle.model.specs.Witnesses.{all_closed, melting_for, melting_start, melting_step, melting_steps, melting_calls, refused_calls, AllRefused, Demand3Met, LentBench, LoadedListsMet, LeftBench, FiguresBench, OpenedListsMet, OpensAloneBench, kd2, exactly, NearBench, halves, SamePastBench, PairBench, SearchAnswersBench, TellsBench, SearchMet}
use Rattle.model.proofs.Refusals.{outcome-passes}
use Rattle.model.proofs.Search.{finds-none, finds-some}

-- two answers of different kinds are not the same
differ : ◌≡◌ {A = ℕ} 0 1 → ⊥
differ e = absurd (omega arith)

-- the search that names the first segment, where this is above the limit in a block that is
pub names-first : (tests : List Finding) (n : ℕ) (channel highest : List ℕ) (limit : ℕ) → first tests ≡ passes → Above n channel highest limit 0 →
    Searches tests n channel highest limit (accepted (some 1))
names-first tests n channel highest limit pass above =
    record { found = some 1; finds = λ e. finds-some refl above; is = sym (outcome-passes tests (some 1) pass) }

-- the first segment's e in a set
first-e : List Numbers → ℕ
first-e [] = 0
first-e (x ∷ xs) = x.e

-- a pool whose rivers 1 and 2 overlap
abbrev overlapped : Pool
overlapped = pool_with overlapping 1024

-- all that is worked out from the definitions at the figures of a case, at one place
record WorkedOut : Type 0 where
  -- the calls of demand 3: what they are lent, what they answer, and the refused ones between
  starting : AsLoaded melting 2 (melting_for 0)
  all_accepted : AllAccepted (no_state 2) melting_calls
  all_refused : AllRefused (after (no_state 2) melting_start) refused_calls
  fed : Fed melting (after (no_state 2) melting_start) melting_steps
  fed_refused : Fed melting (after (no_state 2) melting_start) (refused_calls ++ melting_steps)
  -- the state after them, its count, and a report
  state : run (no_state 2) melting_calls ≡ record { channel = 1941 ∷ 976 ∷ []; storage = 0 ∷ 0 ∷ []; sediment = 0 ∷ 0 ∷ []; upstream = 3000; steps = 2 }
  steps : (run (no_state 2) melting_calls).steps ≡ 2
  reporting : AsLoaded melting 2 (melting_for 2)
  given : (v : Reported) × ((call_result 2 (run (no_state 2) melting_calls) (report (melting_for 2) 2)).answer ≡ accepted v)
  -- the sheet's loadings and its opening
  loads0 : load_answer melting 0 1 (zeros 2) ≡ accepted (loaded melting)
  loads1 : load_answer melting 1 1 (zeros 2) ≡ accepted (loaded melting)
  loads2 : load_answer melting 2 1 (zeros 2) ≡ accepted (loaded melting)
  segments : (loaded melting).segments ≡ 2
  in_force0 : flow_in_force melting 0 ≡ 0
  in_force1 : flow_in_force melting 1 ≡ 1
  opens : open_answer melting 0 1 (zeros 2) all_closed 1 (0 ∷ []) 3000 ≡ accepted (loaded melting)
  overlaps : open_answer melting 0 1 (zeros 2) overlapped 3 (0 ∷ []) 3000 ≡ refused 18 nothing
  opens_alone : open_answer melting 0 1 (zeros 2) (vacated overlapped) 3 (0 ∷ []) 3000 ≡ accepted (loaded melting)
  -- what is shut out by its figures
  pairs : PairBench
  left : LeftBench
  figures : FiguresBench
  -- a search after the calls
  search : SearchMet

worked-out : WorkedOut
unfolding from10 refused_calls accepts after run melting_for melting_start overlapping melting_step melting_steps melting_calls no_state lowest_from lowest any_shorter not_rising nearest floor_div outside any_outside starts_with field header_field section_end sections_end count_at sheet_end record_field reach_fields reach_of reach_on reaches row_starts row_concentrations gauges total_segments segment_count along_river banded_reaches band_count bands_on bands_at flow_at hydraulics_of hydraulics_at bands_fault course_of reach_at own_gain gain flow site_at fractions numbers loaded_segment P N F R row_of new_storage new_sediment new_figures downward stepped segment_at write_segments figures_at write_figures walk starts_late row_fault gauge_fault flow_fault face_fault sum_fault sheet_tests course_tests list_tests load_tests loaded load_answer load_columns blocks_fault river_fault segment_fault figure_fault start_fault state_fault held_fault start_tests start_left step_left call_result step_tests report_tests reported bytes all_bytes zeros no_work top_of sections edition flow_row_count test_flows numbers_fault numbers_at old_fault pair_at last_begun flow_in_force flow_row_start flow_row_top flow_row_starts flow_row_tops flow_row_fault snow melting first-e listed listed_columns listed_state any_below sum_below open_segments room_fault table_fault shared_fault open_tests open_answer open_columns all_closed open_at table_of pool_with left_since search_tests highest_below block_highest
worked-out =
    let pair0 : PairAsLoaded melting 0 2 (melting_for 0).numbers (melting_for 1) = record { before = refl; after = record { count = refl; segments = refl } } in
    let pair1 : PairAsLoaded melting 1 2 (melting_for 1).numbers (melting_for 1) = record { before = refl; after = record { count = refl; segments = refl } } in
    let report2 : AsLoaded melting 2 (melting_for 2) = record { flow = 2; known = lit≤ tt; lists = record { count = refl; segments = refl } } in
    let fed : Fed melting (after (no_state 2) melting_start) melting_steps =
    Fed.more {call = alone 2 (melting_step 0 1)} (λ t. pair0) (Fed.more {call = alone 2 (melting_step 1 1)} (λ t. pair1) (Fed.more {call = alone 2 (report (melting_for 2) 2)} (λ t. report2) Fed.none)) in
    record {
      starting = record { flow = 0; known = lit≤ tt; lists = record { count = refl; segments = refl } };
      all_accepted = (tt, (tt, (tt, (tt, tt))));
      all_refused = (λ t. t, (λ t. t, (λ t. t, tt)));
      fed = fed;
      fed_refused =
          Fed.more {call = alone 0 (start (zeros 0) [] 3000)} (λ t. absurd t)
          (Fed.more {call = alone 0 (step (zeros 0).numbers (zeros 0) [] (no_work 0) 3000 4)} (λ t. absurd t)
          (Fed.more {call = alone 0 (report (zeros 0) 1)} (λ t. absurd t) fed));
      state = refl;
      steps = refl;
      reporting = report2;
      given = (_, refl);
      loads0 = refl;
      loads1 = refl;
      loads2 = refl;
      segments = refl;
      in_force0 = refl;
      in_force1 = refl;
      opens = refl;
      overlaps = refl;
      opens_alone = refl;
      pairs = (
        λ p. let e = ap first-e p.before in omega arith,
        λ p. let e = ap (λ (xs : List Segment). first-e (map (λ x. x.numbers) xs)) p.after.segments in omega arith,
      );
      left = (
        λ l. let e = ap first-e l.set in omega arith,
        λ l. let e = ap first-e l.set in omega arith,
        λ l. let e = l.known in omega arith,
      );
      figures = (
        record { first = lit≤ tt; last = lit≤ tt; channel = refl; storage = refl; sediment = refl },
        λ f. let e = f.first in omega arith,
        λ f. let e = f.last in omega arith,
        λ f. let e = f.channel in omega arith,
        λ f. let e = f.storage in omega arith,
        λ f. let e = f.sediment in omega arith,
      );
      search =
          let answers = names-first _ 2 (run (no_state 2) melting_calls).channel _ 100 refl (record { inside = lit< tt; segment = lit< tt; block = lit< tt }) in
          record { left = _; leaves = refl; answers = answers; says = λ claim. claim (no_state 2) melting_calls _ refl 100 _ answers };
    }

pub pair-bench : PairBench
pair-bench = worked-out.pairs

pub left-bench : LeftBench
left-bench = worked-out.left

pub figures-bench : FiguresBench
figures-bench = worked-out.figures

pub search-met : SearchMet
search-met = worked-out.search

-- ---- demand 3: its premises

pub melting-fed : Fed melting (no_state 2) melting_calls
unfolding melting_calls melting_start
melting-fed = Fed.more {call = melting_start} (λ t. worked-out.starting) worked-out.fed

-- where they leave the river, and what is asked of the list they are
pub melting-state : run (no_state 2) melting_calls ≡ record { channel = 1941 ∷ 976 ∷ []; storage = 0 ∷ 0 ∷ []; sediment = 0 ∷ 0 ∷ []; upstream = 3000; steps = 2 }
melting-state = worked-out.state

pub melting-taken : T (accepts (no_state 2) melting_start)
unfolding melting_calls
melting-taken = worked-out.all_accepted.0

pub melting-loads : load_answer melting 0 1 (zeros 2) ≡ accepted (loaded melting)
melting-loads = worked-out.loads0

-- the same with refused calls between, which may be lent anything and leave the state as it was
refused-fed : Fed melting (no_state 2) (melting_start ∷ refused_calls ++ melting_steps)
unfolding melting_start
refused-fed = Fed.more {call = melting_start} (λ t. worked-out.starting) worked-out.fed_refused

-- the start that a list of the claim begins with
demand-3-of : (calls : List LoneCall) → Fed melting (no_state 2) (melting_start ∷ calls) → Demand3 →
    Holds melting (no_state 2) (melting_start ∷ calls)
unfolding melting_calls melting_start
demand-3-of calls fed claim =
    claim melting 0 (reach_of (λ k. 0) ∷ []) (zeros 2) (loaded melting) worked-out.loads0 (no_state 2) 2 (melting_for 0) (0 ∷ []) 3000 calls worked-out.all_accepted.0 fed

-- what it says of the accepted ones
melting-near : Holds melting (no_state 2) melting_calls → (q : Exact) × ExactRun melting no_river (events (no_state 2) melting_calls) q × (q.n ≡ 2)
    × Near (6 * 2) (loaded_segments melting 0) (figures_of (segment_count melting) (run (no_state 2) melting_calls)) q.now
melting-near holds =
    let q = holds.exists.0 in
    let run = holds.exists.1 in
    let n : q.n ≡ 2 = sym (holds.counted q run) ∙ worked-out.steps in
    (q, run, n, rw n at (holds.near q run))

pub demand-3-met : Demand3Met
unfolding melting_calls melting_for
demand-3-met = record {
  all_accepted = worked-out.all_accepted;
  fed = melting-fed;
  all_refused = worked-out.all_refused;
  fed_refused = refused-fed;
  says = λ claim. melting-near (demand-3-of melting_steps melting-fed claim);
  says_report = λ claim.
      let told = worked-out.given in
      (told.0, told.1, (demand-3-of melting_steps melting-fed claim).reports 2 (melting_for 2) 2 told.0 worked-out.reporting told.1);
  says_refused = λ claim. demand-3-of (refused_calls ++ melting_steps) refused-fed claim;
}

pub lent-bench : LentBench
lent-bench sheet state n columns = (λ loaded highest u. loaded, λ loaded number. loaded, λ old pair highest working u' M. pair)

-- ---- demand 3: its conclusion

module _ {k : ℕ} {x : Segment} {f : Figures} {q : ExactFigures} {xs : List Segment} {fs : List Figures} {qs : List ExactFigures} where
  -- the first segment, and the others
  first-near : Near k (x ∷ xs) (f ∷ fs) (q ∷ qs) → (Within k f.c q.c) × (Within k f.z q.z) × (Within (k * x.kd) (x.kd * f.w) (x.kd · q.w))
  first-near (Near.cons c z w more) = (c, z, w)

  others-near : Near k (x ∷ xs) (f ∷ fs) (q ∷ qs) → Near k xs fs qs
  others-near (Near.cons c z w more) = more

-- at literals
by-figures : {k x n d : ℕ} {above : 0 < d} → T (leb (x * d) (n + k * d)) → T (leb n ((x + k) * d)) → Within k x (record { num = pos n; den = d; above = above })
by-figures most least = record { most = le_z_yes most; least = le_z_yes least }

pub near-bench : NearBench
unfolding kd2 exactly segment_at numbers_at
near-bench = (
  Near.cons (by-figures tt tt) (by-figures tt tt) (by-figures tt tt) (Near.cons (by-figures tt tt) (by-figures tt tt) (by-figures tt tt) Near.none),
  λ n. (first-near n).0.most.le,
  λ n. (first-near n).0.least.le,
  λ n. (first-near n).1.most.le,
  λ n. (first-near n).1.least.le,
  λ n. (first-near n).2.most.le,
  λ n. (first-near n).2.least.le,
  λ n. (first-near (others-near n)).0.most.le,
  λ n. (first-near (others-near n)).2.least.le,
)

module _ {fs gs : List ExactFigures} {before before' : List (List ExactFigures)} where
  -- the latest step, and those before
  latest-same : SamePast (fs ∷ before) (gs ∷ before') → SameFigures fs gs
  latest-same (SamePast.cons same more) = same

  before_same : SamePast (fs ∷ before) (gs ∷ before') → SamePast before before'
  before_same (SamePast.cons same more) = more

as_many : {fs : List ExactFigures} {before : List (List ExactFigures)} → SamePast (fs ∷ before) [] → ⊥
as_many = elim [ ]

module _ {f g : ExactFigures} {fs gs : List ExactFigures} where
  -- the first segment, and the others
  first-same : SameFigures (f ∷ fs) (g ∷ gs) → (Same f.c g.c) × (Same f.z g.z) × (Same f.w g.w)
  first-same (SameFigures.cons c z w more) = (c, z, w)

  others_same : SameFigures (f ∷ fs) (g ∷ gs) → SameFigures fs gs
  others_same (SameFigures.cons c z w more) = more

pub same-past-bench : SamePastBench
unfolding exactly halves
same-past-bench =
    let same = SameFigures.cons refl refl refl (SameFigures.cons refl refl refl SameFigures.none) in (
      SamePast.cons same (SamePast.cons same SamePast.none),
      λ s. let e = ap nat_abs (first-same (others_same (latest-same s))).0 in omega arith,
      λ s. let e = ap nat_abs (first-same (others_same (latest-same s))).1 in omega arith,
      λ s. let e = ap nat_abs (first-same (others_same (latest-same s))).2 in omega arith,
      λ s. let e = ap nat_abs (first-same (others_same (latest-same (before_same s)))).1 in omega arith,
      λ s. as_many (before_same s),
    )

-- ---- what a loading leaves

pub loaded-lists-met : LoadedListsMet
unfolding melting_for
loaded-lists-met = record {
  loads = worked-out.loads2;
  left = λ claim. rw worked-out.segments at (claim.left melting 2 (reach_of (λ k. 0) ∷ []) (zeros 2) (loaded melting) worked-out.loads2);
  pairs = λ claim.
      let all = reach_of (λ k. 0) ∷ [] in
      rw (worked-out.in_force0, worked-out.in_force1, worked-out.segments) at
      (claim.pairs melting 0 2 all all (zeros 2) (zeros 2) (loaded melting) (loaded melting) worked-out.loads0 worked-out.loads2 0).2;
}

-- ---- several rivers: a pool with none open

pub all_closed_lem : NoneOpen all_closed
unfolding all_closed
all_closed_lem = record { slots = refl; closed = λ i h. rw (get_or-replicate 8 i vacant vacant h) refl }

pub opened-lists-met : OpenedListsMet
unfolding melting_for
opened-lists-met = record {
  opens = worked-out.opens;
  left = λ claim. rw worked-out.segments at (claim.left melting 0 1 (zeros 2) all_closed 1 (0 ∷ []) 3000 (loaded melting) worked-out.opens);
  pairs = λ claim.
      rw (worked-out.in_force0, worked-out.in_force1, worked-out.segments) at
      (claim.pairs melting 0 1 1 1 (zeros 2) (zeros 2) all_closed 1 (0 ∷ []) 3000 (loaded melting) (loaded melting) worked-out.opens worked-out.loads1 0).2;
}

pub opens-alone-bench : OpensAloneBench
opens-alone-bench opens =
    ⊎_elim
    (λ q. let e : refused 18 nothing ≡ refused 17 nothing = sym worked-out.overlaps ∙ q.0 in let n : ◌≡◌ {A = ℕ} 18 17 = cc in absurd (omega arith))
    (λ q. let e : refused 18 nothing ≡ accepted (loaded melting) = sym worked-out.overlaps ∙ q ∙ worked-out.opens_alone in differ cc)
    (opens melting 0 1 (zeros 2) (0 ∷ []) 3000)

-- ---- the search

-- the figures of the bench
abbrev figures : List ℕ
figures = 5 ∷ 9 ∷ 2 ∷ 8 ∷ []

module _ (highest : ℕ) where
  abbrev tests : List Finding
  tests = search_tests 3 figures (highest ∷ [])

  -- 13 passes
  long-enough : first tests ≡ passes
  unfolding search_tests river_fault any_shorter blocks_fault outside
  long-enough = refl

  -- an answer that is not refused is a finding
  finding : {found : Option ℕ} → SearchAnswer 3 figures (highest ∷ []) 6 (accepted found) → Finds 3 figures (highest ∷ []) 6 found
  finding {found} s =
      let is : accepted found ≡ accepted s.found = s.is ∙ outcome-passes tests s.found long-enough in
      let same : s.found ≡ found = cc in
      rw same at (s.finds long-enough)

  -- and a finding such an answer
  answering : {found : Option ℕ} → Finds 3 figures (highest ∷ []) 6 found → SearchAnswer 3 figures (highest ∷ []) 6 (accepted found)
  answering {found} finds = record { found = found; finds = λ e. finds; is = sym (outcome-passes tests found long-enough) }

  -- the second segment alone is above
  only-second : (i : ℕ) → Above 3 figures (highest ∷ []) 6 i → i ≡ 1
  only-second zero above = absurd (omega (arith, above.segment))
  only-second (suc zero) above = refl
  only-second (suc (suc zero)) above = absurd (omega (arith, above.segment))
  only-second (suc (suc (suc i))) above = absurd (omega (arith, above.inside))

  second : (number : ℕ) → SearchAnswer 3 figures (highest ∷ []) 6 (accepted (some number)) → (number ≡ 2) × (6 < highest)
  second number s =
      let choice = (finding s).choice number refl in
      let is = only-second choice.0 choice.2 in
      (choice.1 ∙ ap suc is, rw is at choice.2.block)

-- where its block is above the limit it is in such a block
second_above : Above 3 figures (9 ∷ []) 6 1
second_above = record { inside = lit< tt; segment = lit< tt; block = lit< tt }

pub search-answers-bench : SearchAnswersBench
search-answers-bench = (
  answering _ (finds-some refl second_above),
  λ s. let q = (second _ 1 s).0 in omega arith,
  λ s. let q = (second _ 3 s).0 in omega arith,
  λ s. let q = (second _ 4 s).0 in omega arith,
  λ s. (finding _ s).none_only_if refl 1 second_above,
  λ s. let is : refused 13 nothing ≡ accepted s.found = s.is ∙ outcome-passes (tests 9) s.found (long-enough 9) in differ cc,
  answering _ (finds-none (λ i above. let q = only-second _ i above in absurd (omega (arith, rw q at above.block)))),
  λ s. let q = (second _ 2 s).1 in omega arith,
)

-- no segment of the river is above 9
clear-9 : Clear 3 figures 9
clear-9 zero h = omega arith
clear-9 (suc zero) h = omega arith
clear-9 (suc (suc zero)) h = omega arith
clear-9 (suc (suc (suc i))) h = absurd (omega arith)

pub tells-bench : TellsBench
tells-bench = (
  record { not_refused = refl; none_if = λ clear. absurd (let q = clear 1 (lit< tt) in omega arith); none_only_if = λ e. absurd (differ cc) },
  λ t. let q = t.none_only_if refl 1 (lit< tt) in omega arith,
  λ t. let q = t.not_refused in differ cc,
  record { not_refused = refl; none_if = λ clear. refl; none_only_if = λ e. clear-9 },
  λ t. let q = t.none_if clear-9 in differ cc,
)
