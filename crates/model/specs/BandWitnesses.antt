-- Beside the claims of document 02, 6: a case that meets their premises, and cases that their conclusions shut out; and a river with bands that demand 3
-- speaks of. proofs/BandWitnesses shows them of the definitions.
use Rattle.std.specs.Prelude.{◌≡◌, false, List, [], ◌∷◌, ◌++◌, ℕ, ◌+◌, ◌*◌, get_or}
use Rattle.model.specs.Sheet.{Bands, band_of, bands_on, segment_count}
use Rattle.model.specs.Bands.{bands_fault}
use Rattle.model.specs.State.{Columns, loaded_segments, figures_of}
use Rattle.model.specs.Refusals.{passes, first}
use Rattle.model.specs.Load.{river_tests, load_columns}
use Rattle.model.specs.Calls.{start, step, report}
use Rattle.model.specs.Runs.{LoneCall, alone, run, AllAccepted, Fed, events, Exact, no_river, ExactRun}
use Rattle.model.specs.Claim.{Near, Demand3}
use Rattle.model.specs.BandClaim.{InOne, Covering, BandsCover, SameBands, Reordered, OrderFree}
use Rattle.model.specs.Bench.{zeros, no_state, no_work}
use Rattle.model.specs.BandBench.{low, high, valley, widening}

-- ---- bands

-- bands by their fields, one behind the other
unfoldable pub bands_by : (count : ℕ) → List ℕ → Bands
bands_by count fields = record { count = count; band = λ j. band_of (λ k. get_or fields (5 * j + k) 0) }

-- the river `widening` with its bands in the other order, and with an A of the first one that is another
unfoldable pub turned : List ℕ
turned = valley (2 ∷ high ++ low)

unfoldable pub altered : List ℕ
altered = valley (2 ∷ high ++ 0 ∷ 499 ∷ 101 ∷ 50 ∷ 100 ∷ [])

-- bands that pass 19, and what the claims say of them: flow 500 is in the second alone, and a loading of flow 1 gives the same numbers
pub record BandsMet : Type 0 where
  pub passing : bands_fault (bands_on widening 0) ≡ false
  pub says : BandsCover → (x : InOne (bands_on widening 0) 500) × (x.number ≡ 1)
  pub tests : first (river_tests widening) ≡ passes
  pub reordered : Reordered widening turned
  pub says_order : OrderFree → loaded_segments widening 1 ≡ loaded_segments turned 1

-- bands that leave out flow 499, that both hold 500, that end below 100,000,000, and an A of 0, are no covering; the claim says that they do not pass 19
abbrev pub CoveringBench : Type 0
CoveringBench =
    (Covering (bands_by 2 (0 ∷ 498 ∷ 100 ∷ 50 ∷ 100 ∷ high)) → ⊥)
    × (Covering (bands_by 2 (0 ∷ 500 ∷ 100 ∷ 50 ∷ 100 ∷ high)) → ⊥)
    × (Covering (bands_by 1 (0 ∷ 99999999 ∷ 100 ∷ 50 ∷ 100 ∷ [])) → ⊥)
    × (Covering (bands_by 1 (0 ∷ 100000000 ∷ 0 ∷ 50 ∷ 100 ∷ [])) → ⊥)

-- a band that is another is not the same in another order, and nor is a sheet that has it, whose loading gives another number
abbrev pub ReorderedBench : Type 0
ReorderedBench =
    (SameBands (bands_on widening 0) (bands_on altered 0) → ⊥)
    × (Reordered widening altered → ⊥)
    × (loaded_segments widening 0 ≡ loaded_segments altered 0 → ⊥)

-- ---- demand 3 of a river with bands

unfoldable pub widening_for : (r : ℕ) → Columns
widening_for r = load_columns widening r 1 (zeros 2)

-- a start, a step at which the first segment changes band, and a report
unfoldable pub widening_start : LoneCall
widening_start = alone 2 (start (widening_for 0) (0 ∷ []) 3000)

unfoldable pub widening_steps : List LoneCall
widening_steps =
    alone 2 (step (widening_for 0).numbers (widening_for 1) (0 ∷ []) (no_work 2) 3000 4) ∷
    alone 2 (report (widening_for 1) 2) ∷ []

unfoldable pub widening_calls : List LoneCall
widening_calls = widening_start ∷ widening_steps

-- "A river with bands stays as close to its exact river as one without."
pub record WideningMet : Type 0 where
  pub all_accepted : AllAccepted (no_state 2) widening_calls
  pub fed : Fed widening (no_state 2) widening_calls
  pub says : Demand3 → (q : Exact) × ExactRun widening no_river (events (no_state 2) widening_calls) q × (q.n ≡ 1)
      × Near (6 * 1) (loaded_segments widening 0) (figures_of (segment_count widening) (run (no_state 2) widening_calls)) q.now
