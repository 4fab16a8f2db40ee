-- Document 02, 5, what is promised of a search after any list of calls: "of lists as a start or step left them, that is when no segment is above."
use Rattle.std.specs.Prelude.{◌≡◌, true, List, [], ℕ, ◌≤◌}
use Rattle.std.proofs.Math.Option.{Option, none, some}
use Rattle.model.specs.Ranges.{most_rivers}
use Rattle.model.specs.Refusals.{Outcome}
use Rattle.model.specs.State.{State}
use Rattle.model.specs.Runs.{LoneCall, run, HighestFigures, left_since}
use Rattle.model.specs.Search.{SearchAnswer, Tells}
use Rattle.model.specs.Pool.{is_open, slot_of, Pool, state_of, PoolSearchAnswer}
use Rattle.model.specs.PoolRuns.{PoolCall, run_pool, highest_since}
use Rattle.model.specs.PoolClaim.{NoneOpen}

-- after every list of starts, steps and reports, refused ones included, that has an accepted start or step: each answer that a search may
-- give, lent the state's channel figures and the highest figures as the latest of those left them
abbrev pub SearchTold : Type 0
SearchTold =
    (before : State) (calls : List LoneCall) (left : HighestFigures) → left_since before calls none ≡ some left →
    (limit : ℕ) (answer : Outcome (Option ℕ)) → SearchAnswer left.count (run before calls).channel left.highest limit answer →
    Tells left.count (run before calls).channel limit answer

-- the same on a pool, of every open river: after every list of calls, of all rivers, begun with none open
abbrev pub PoolSearchTold : Type 0
PoolSearchTold =
    (before : Pool) → NoneOpen before → (calls : List PoolCall) (number : ℕ) → 1 ≤ number → number ≤ most_rivers →
    let pool = run_pool before calls in
    is_open (slot_of pool.table number) ≡ true →
    (limit : ℕ) (answer : Outcome (Option ℕ)) → PoolSearchAnswer pool.table pool.channel number (highest_since number before calls []) limit answer →
    Tells (slot_of pool.table number).segments (state_of pool number).channel limit answer
