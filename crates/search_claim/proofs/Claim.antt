-- A search of what the latest accepted start or step left, after every list of calls.
use mathlib.Core.Path.{◌≡◌, refl, sym, subst}
use mathlib.Core.Bool.{cond}
use mathlib.Core.List.{List, [], ◌∷◌}
use mathlib.Core.Option.{Option, none, some}
use Prim.Native.Nat.{ℕ}
use Rattle.model.specs.State.{State}
use Rattle.model.specs.Refusals.{is_accepted, Finding, passes, fails, first}
use Rattle.model.specs.Calls.{Call, start, step, report, call_tests, Values, call_left, Result, leaves_highest}
use Rattle.model.specs.Runs.{LoneCall, alone, accepts, after, run, HighestFigures, leaves, left_since}
use Rattle.model.specs.SearchClaim.{SearchTold}
use Rattle.model.proofs.Calls.{result-passes, result-fails, lent-state}
use Rattle.search_claim.proofs.Left.{AsLeft, left-tells, start_left_lem, step_left_lem}

-- the state's channel figures and the highest figures are as the latest accepted start or step left them
abbrev Kept : State → Option HighestFigures → Type 0
Kept state none = Unit {0}
Kept state (some left) = AsLeft left.count state.channel left.highest

-- an accepted start or step leaves its own, a report those from before
passed-kept : (n : ℕ) (state : State) (call : Call) (before : Option HighestFigures) → first (call_tests n state call) ≡ passes → Kept state before →
    let left = call_left n state call in
    Kept left.state (cond (leaves_highest call) (some (record { count = n; highest = left.highest })) before)
passed-kept n state (start columns highest u) before e k = start_left_lem n columns state highest u e
passed-kept n state (step old new highest working u' M) before e k = step_left_lem n new state highest old working u' M e
passed-kept n state (report columns number) before e k = k

-- any call: a refused one leaves all as it was
call_kept : (state : State) (call : LoneCall) (before : Option HighestFigures) → Kept state before →
    Kept (after state call) (cond (accepts state call) (leaves state call before) before)
unfolding accepts after
call_kept state (alone n call) before k = go (first (call_tests n state call)) refl
  where
    -- what is kept after a call with this outcome
    KeptBy : Result State (Values call) → Type 0
    KeptBy x = Kept x.left.state (cond (is_accepted x.answer) (cond (leaves_highest call) (some (record { count = n; highest = x.left.highest })) before) before)

    go : (t : Finding) → first (call_tests n state call) ≡ t → Kept (after state (alone n call)) (cond (accepts state (alone n call)) (leaves state (alone n call) before) before)
    go passes e = subst KeptBy (sym (result-passes n state call e)) (passed-kept n state call before e k)
    go (fails number place) e = subst KeptBy (sym (result-fails n state call e)) (rw (lent-state state call) k)

-- a list of calls
run-kept : (state : State) (calls : List LoneCall) (before : Option HighestFigures) → Kept state before → Kept (run state calls) (left_since state calls before)
unfolding run left_since
run-kept state [] before k = k
run-kept state (call ∷ calls) before k = run-kept (after state call) calls _ (call_kept state call before k)

-- the claim
pub search-told : SearchTold
search-told before calls left e limit answer s = left-tells (rw e at (run-kept before calls none tt)) s
