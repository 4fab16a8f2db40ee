-- Beside the claims of the sheet's own river: calls that meet their premises, what the claims then say of them, and what their conclusions shut out.
-- proofs/OwnRiverWitnesses shows it of the definitions.
use Rattle.std.specs.Prelude.{◌≡◌, false, List, [], ◌∷◌, ℕ, suc, ◌*◌, ◌<◌, T, length}
use Rattle.lists.specs.Lists.{any_shorter}
use Rattle.model.specs.Sheet.{segment_count}
use Rattle.model.specs.Equations.{Figures}
use Rattle.model.specs.State.{loaded_segments, State, state_lists, figures_at, figures_of}
use Rattle.model.specs.Refusals.{nothing, accepted, refused}
use Rattle.model.specs.Load.{loaded, load_answer}
use Rattle.model.specs.Upstream.{upstream_answer}
use Rattle.model.specs.Calls.{figure_fault, held_fault, Call, start, step, call_result}
use Rattle.model.specs.Runs.{LoneCall, alone, accepts, run, AllAccepted, AsLoaded, Fed, started, moved, Exact, no_river, ExactRun}
use Rattle.model.specs.Claim.{Near, Holds}
use Rattle.model.specs.OwnRiver.{ahead, Alike, own_events}
use Rattle.model.specs.OwnRiverClaim.{UpstreamInRange, OwnCalls, OwnRun, OwnRiverSteps, OwnRiverOnwards, OwnRiverNear, RowsUpstream, OwnCallsExist}
use Rattle.model.specs.Bench.{zeros, no_state, no_work}
use Rattle.model.specs.FlowBench.{melting, some_state}
use Rattle.model.specs.Witnesses.{melting_for, refused_calls}

-- ---- the calls: on the sheet `melting`, whose flow changes at steps 1 and 3, with a U that is another at each step

-- U at step j
unfoldable pub surge : ℕ → ℕ
surge j = 1000 * suc j

-- a start with U at step 0
unfoldable pub surge_start : LoneCall
surge_start = alone 2 (start (melting_for 0) (0 ∷ []) 1000)

-- a step from flow r to flow s
unfoldable pub surge_step : (r s u' : ℕ) → Call
surge_step r s u' = step (melting_for r).numbers (melting_for s) (0 ∷ []) (no_work 2) u' 4

-- the last two of the sheet's four steps, and all four
unfoldable pub late_steps : List LoneCall
late_steps = alone 2 (surge_step 1 2 4000) ∷ alone 2 (surge_step 2 2 5000) ∷ []

unfoldable pub surge_steps : List LoneCall
surge_steps = alone 2 (surge_step 0 1 2000) ∷ alone 2 (surge_step 1 1 3000) ∷ late_steps

-- the start and all four steps
unfoldable pub surge_calls : List LoneCall
surge_calls = surge_start ∷ surge_steps

-- another state, from which the last two go on
unfoldable pub late_state : State
late_state = record {
  channel = some_state.channel;
  storage = some_state.storage;
  sediment = some_state.sediment;
  upstream = some_state.upstream;
  steps = 2;
}

-- figures of two segments with nothing in storage and sediment
abbrev pub channel_alone : (c c' : ℕ) → List Figures
channel_alone c c' = record { c = c; z = 0; w = 0 } ∷ record { c = c'; z = 0; w = 0 } ∷ []

-- ---- the premises are met, and the claims say this

-- premises of each claim, and what it gives of them
pub record OwnRiverMet : Type 0 where
  pub loads : load_answer melting 0 1 (zeros 2) ≡ accepted (loaded melting)
  pub in_range : UpstreamInRange surge 0 (loaded melting).steps
  pub starting : AsLoaded melting 2 (melting_for 0)
  pub taken : T (accepts (no_state 2) surge_start)
  pub own : OwnCalls surge melting 0 surge_steps
  pub all : length surge_steps ≡ (loaded melting).steps
  -- none is refused, they leave figures that were worked out apart, demand 3 holds of them, and a fifth is refused 15
  pub says : OwnRiverSteps →
      AllAccepted (no_state 2) surge_calls
      × (figures_of (segment_count melting) (run (no_state 2) surge_calls) ≡ channel_alone 3861 2640)
      × Holds melting (no_state 2) surge_calls
      × ((call_result 2 (run (no_state 2) surge_calls) (surge_step 2 2 6000)).answer ≡ refused 15 nothing)
  -- from another state at step 2
  pub long : any_shorter (segment_count melting) (state_lists late_state) ≡ false
  pub figures : (i : ℕ) → i < segment_count melting → figure_fault (figures_at late_state i) ≡ false
  pub held : held_fault late_state ≡ false
  pub late : OwnCalls surge melting 2 late_steps
  pub says_onwards : OwnRiverOnwards →
      AllAccepted late_state late_steps
      × (run late_state late_steps
      ≡ record { channel = 375667 ∷ 988778 ∷ []; storage = 3000000 ∷ 500000 ∷ []; sediment = 700000 ∷ 900000 ∷ []; upstream = 5000; steps = 4 })
      × Fed melting late_state late_steps
      × ((call_result 2 (run late_state late_steps) (surge_step 2 2 6000)).answer ≡ refused 15 nothing)
  -- an exact river that is fed a start and two steps is near the figures at step 2
  pub says_near : OwnRiverNear →
      (q : Exact) × ExactRun melting no_river (started 1000 ∷ moved 2000 ∷ moved 3000 ∷ []) q
      × Near (6 * 2) (loaded_segments melting 0) (channel_alone 1463 629) q.now
  -- the call for U on the rows of `thaw`
  pub says_rows : RowsUpstream → upstream_answer 4 2 (0 ∷ 2 ∷ []) (1000 ∷ 5000 ∷ []) ≡ accepted 5000
  -- there are four such steps
  pub says_exist : OwnCallsExist → (calls : List LoneCall) × OwnCalls surge melting 0 calls × (length calls ≡ 4)

-- ---- the conclusions shut this out

-- a refused call; a state left as it was, and the one a step too far
abbrev pub OwnRunBench : Type 0
OwnRunBench =
    (AllAccepted (no_state 2) refused_calls → ⊥)
    × (OwnRun surge melting (no_state 2) refused_calls → ⊥)
    × (ahead surge melting late_state 1 ≡ late_state → ⊥)
    × (ahead surge melting late_state 1 ≡ ahead surge melting late_state 2 → ⊥)

-- entries behind the river may be others; a figure of it, U or the count may not
abbrev pub AlikeBench : Type 0
AlikeBench =
    let by : (c c' : ℕ) → (behind : List ℕ) → (u n : ℕ) → State =
    λ c c' behind u n. record { channel = c ∷ c' ∷ behind; storage = 3 ∷ 4 ∷ behind; sediment = 5 ∷ 6 ∷ behind; upstream = u; steps = n } in
    Alike 2 (by 1 2 [] 7 8) (by 1 2 (9 ∷ []) 7 8)
    × (Alike 2 (by 1 2 [] 7 8) (by 0 2 [] 7 8) → ⊥)
    × (Alike 2 (by 1 2 [] 7 8) (by 1 0 [] 7 8) → ⊥)
    × (Alike 2 (by 1 2 [] 7 8) (by 1 2 [] 0 8) → ⊥)
    × (Alike 2 (by 1 2 [] 7 8) (by 1 2 [] 7 0) → ⊥)

-- the exact river is fed U at each step
abbrev pub OwnEventsBench : Type 0
OwnEventsBench = own_events surge 2 ≡ started 1000 ∷ moved 2000 ∷ moved 3000 ∷ []
