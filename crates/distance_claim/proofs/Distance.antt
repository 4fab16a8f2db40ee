-- The distance over a list of calls: an accepted start sets it to 0, an accepted step adds at most 6, and nothing else moves either river.
-- With it goes that the exact river exists: each accepted step has a solution.
use mathlib.Core.Path.{◌≡◌, refl, sym, ap, ◌∙◌}
use mathlib.Core.Bool.{Bool, true, false}
use mathlib.Core.List.{List, [], ◌∷◌}
use Prim.Native.Nat.{ℕ, suc, ◌+◌, ◌*◌}
use native.Mathlib.Omega.{arith}
use lib.Dec.{T}
use lib.ListN.{length, length-map}
use Rattle.lists.proofs.Tab.{length-tab}
use Rattle.model.specs.Sheet.{segment_count}
use Rattle.model.specs.Equations.{Figures}
use Rattle.model.specs.ExactRiver.{ExactFigures}
use Rattle.model.specs.State.{NumberSet, Columns, loaded_segments, State, figures_of, write_figures}
use Rattle.model.specs.Refusals.{Finding, passes, fails, is_accepted, first, answer, left_after}
use Rattle.model.specs.Calls.{Working, start_tests, start_left, step_tests, step_left, Call, start, step, report, call_tests, call_values, call_left, call_lent, call_result}
use Rattle.model.specs.Runs.{LoneCall, alone, accepts, after, run, AsLoaded, PairAsLoaded, LentFrom, Fed, started, moved, event, events, Exact, exact_start, sheet_pairs, ExactEvent, ExactRun}
use Rattle.exact_laws.specs.Close.{Close}
use Rattle.exact_laws.proofs.Close.{start-close, close-length}
use Rattle.exact_laws.proofs.Exists.{exists, new-length}
use Rattle.exact_laws.proofs.Step.{step-close}
use Rattle.loading_laws.proofs.AsLoaded.{pairs-as-loaded, same-starts}
use Rattle.model.proofs.Calls.{lent-state}
use Rattle.distance_claim.proofs.Tests as Tests
use Rattle.model.proofs.ReadBack.{read_back}

six-more : (n : ℕ) → 6 * n + 6 ≡ 6 * suc n
six-more n = omega arith

module _ (sheet : List ℕ) where
  -- the state and the exact river after the same calls
  pub record Good (state : State) (q : Exact) : Type 0 where
    pub counted : state.steps ≡ q.n
    pub upstream : state.upstream ≡ q.upstream
    pub size : length q.now ≡ segment_count sheet
    pub close : Close (6 * q.n) (figures_of (segment_count sheet) state) q.now

  -- new figures, written over the state's lists
  written : (fs : List Figures) (u steps n : ℕ) (qs : List ExactFigures) (past : List (List ExactFigures)) (before : State) → steps ≡ n →
      length qs ≡ segment_count sheet → Close (6 * n) fs qs → Good (write_figures fs u steps before) (record { now = qs; past = past; upstream = u; n = n })
  unfolding write_figures
  written fs u steps n qs past before c e close = record {
    counted = c;
    upstream = refl;
    size = e;
    close = rw (read_back (segment_count sheet) fs u steps before (close-length close ∙ e)) close;
  }

  -- an accepted start, from any state and any river
  start-good : (n : ℕ) (columns : Columns) (state : State) (highest : List ℕ) (u : ℕ) (q r : Exact) → first (start_tests n columns state highest u) ≡ passes → AsLoaded sheet n columns →
      ExactEvent sheet (started u) q r → Good (start_left n columns state highest u).state r
  unfolding start_left
  start-good n columns state highest u q r e loaded ExactEvent.starts =
      let lists = loaded.lists in
      let figures = rw lists.segments at (Tests.started n columns state highest u e) in
      let close = rw (same-starts sheet loaded.flow) at (start-close figures) in
      rw lists.segments
      (written _ u 0 0 _ [] state refl (length-map (loaded_segments sheet 0) exact_start ∙ length-tab _ 0 (segment_count sheet)) close)

  -- an accepted step
  step-good : (n : ℕ) (old : NumberSet) (new : Columns) (state : State) (highest : List ℕ) (working : Working) (u' M : ℕ) (q r : Exact) →
      first (step_tests n old new state highest working u' M) ≡ passes → PairAsLoaded sheet state.steps n old new → Good state q →
      ExactEvent sheet (moved u') q r → Good (step_left n old new state highest working u').state r
  unfolding step_left
  step-good n old columns state highest working u' M q r e pair g (ExactEvent.moves {new} solves) =
      let facts = Tests.stepped n columns state old highest working u' M e in
      let pairs = pairs-as-loaded old pair in
      let oks = rw pairs at facts.pairs in
      let close = step-close state.upstream u' facts.before facts.after oks g.close (rw (← g.upstream, ← g.counted) at solves) in
      rw (pairs, pair.after.count)
      (written _ u' _ (suc q.n) new _ state (ap suc g.counted) (new-length solves ∙ length-tab _ 0 (segment_count sheet)) (rw (six-more q.n) at close))

  -- an accepted call
  passed-good : (state : State) (n : ℕ) (call : Call) (q r : Exact) → first (call_tests n state call) ≡ passes → LentFrom sheet state (alone n call) → Good state q →
      ExactEvent sheet (event true (alone n call)) q r → Good (call_left n state call).state r
  passed-good state n (start columns highest u) q r e lists g x = start-good n columns state highest u q r e lists x
  passed-good state n (step old new highest working u' M) q r e lists g x = step-good n old new state highest working u' M q r e lists g x
  passed-good state n (report columns number) q r e lists g ExactEvent.stays = g

  -- any call
  pub call-good : (state : State) (call : LoneCall) (q r : Exact) → (T (accepts state call) → LentFrom sheet state call) → Good state q →
      ExactEvent sheet (event (accepts state call) call) q r → Good (after state call) r
  unfolding accepts after call_result
  call-good state (alone n call) q r lists g x = go (first (call_tests n state call)) r refl lists x
    where
      go : (t : Finding) (r : Exact) → first (call_tests n state call) ≡ t → (T (is_accepted (answer t (call_values state call))) → LentFrom sheet state (alone n call)) →
          ExactEvent sheet (event (is_accepted (answer t (call_values state call))) (alone n call)) q r →
          Good (left_after (answer t (call_values state call)) (call_lent state call) (call_left n state call)).state r
      go passes r e lists x = passed-good state n call q r e (lists tt) g x
      go (fails number place) r e lists ExactEvent.stays = rw (lent-state state call) g

  -- a list of calls
  pub run-good : (state : State) (calls : List LoneCall) (q t : Exact) → Fed sheet state calls → Good state q → ExactRun sheet q (events state calls) t → Good (run state calls) t
  unfolding run events
  run-good state [] q t f g ExactRun.none = g
  run-good state (call ∷ calls) q t (Fed.more lists f) g (ExactRun.more {r} x xs) = run-good (after state call) calls r t f (call-good state call q r lists g x) xs

  -- the first call, an accepted start
  pub begin-good : (state : State) (n : ℕ) (columns : Columns) (highest : List ℕ) (u : ℕ) (q r : Exact) →
      let call = alone n (start columns highest u) in
      T (accepts state call) → AsLoaded sheet n columns → ExactEvent sheet (event (accepts state call) call) q r → Good (after state call) r
  unfolding accepts after call_result
  begin-good state n columns highest u q r a lists x = go (first (start_tests n columns state highest u)) refl a x
    where
      go : (t : Finding) → first (start_tests n columns state highest u) ≡ t → T (is_accepted (answer t (call_values state (start columns highest u)))) →
          ExactEvent sheet (event (is_accepted (answer t (call_values state (start columns highest u)))) (alone n (start columns highest u))) q r →
          Good (left_after (answer t (call_values state (start columns highest u))) (call_lent state (start columns highest u)) (start_left n columns state highest u)).state r
      go passes e a x = start-good n columns state highest u q r e lists x
      go (fails number place) e a x = absurd a

  -- ---- the exact river exists

  pub call-exists : (state : State) (call : LoneCall) (q : Exact) → length q.now ≡ segment_count sheet → (r : Exact) × ExactEvent sheet (event (accepts state call) call) q r
  call-exists state call q size = go (accepts state call) call
    where
      go : (b : Bool) (call : LoneCall) → (r : Exact) × ExactEvent sheet (event b call) q r
      go true (alone n (start columns highest u)) = (_, ExactEvent.starts)
      go true (alone n (step old new highest working u' M)) = (_, ExactEvent.moves (exists _ _ (sheet_pairs sheet q.n) q.now (size ∙ sym (length-tab _ 0 (segment_count sheet)))).1)
      go true (alone n (report columns number)) = (q, ExactEvent.stays)
      go false call = (q, ExactEvent.stays)

  pub run-exists : (state : State) (calls : List LoneCall) (q : Exact) → Fed sheet state calls → Good state q → (t : Exact) × ExactRun sheet q (events state calls) t
  unfolding events
  run-exists state [] q f g = (q, ExactRun.none)
  run-exists state (call ∷ calls) q (Fed.more lists f) g =
      let x = call-exists state call q g.size in
      let xs = run-exists (after state call) calls x.0 f (call-good state call q x.0 lists g x.1) in
      (xs.0, ExactRun.more x.1 xs.1)
