-- Demand 3, proved: one claim about every list of calls.
use mathlib.Core.Path.{sym, ◌∙◌}
use mathlib.Core.Bool.{Bool, true, false}
use mathlib.Core.List.{List, ◌∷◌}
use Prim.Native.Nat.{ℕ}
use lib.Dec.{T}
use Rattle.lists.proofs.Tab.{length-tab}
use Rattle.model.specs.Sheet.{segment_count}
use Rattle.model.specs.State.{Columns, loaded_segments, State}
use Rattle.model.specs.Calls.{start}
use Rattle.model.specs.Runs.{LoneCall, alone, accepts, after, run, Fed, event, events, Exact, no_river, ExactEvent, ExactRun}
use Rattle.model.specs.Claim.{Holds, Demand3}
use Rattle.exact_laws.proofs.Close.{close-near}
use Rattle.distance_claim.proofs.Distance.{Good, begin-good, run-good, run-exists}
use Rattle.distance_claim.proofs.Reports.{report-figures}
use Rattle.distance_claim.proofs.Unique.{none_yet, run-twins}

-- an accepted start can be made of any river
start-exists : (sheet : List ℕ) (b : Bool) (n : ℕ) (columns : Columns) (highest : List ℕ) (u : ℕ) →
    (r : Exact) × ExactEvent sheet (event b (alone n (start columns highest u))) no_river r
start-exists sheet true n columns highest u = (_, ExactEvent.starts)
start-exists sheet false n columns highest u = (no_river, ExactEvent.stays)

holds : (sheet : List ℕ) (before : State) (n : ℕ) (columns : Columns) (highest : List ℕ) (u : ℕ) (calls : List LoneCall) →
    let first = alone n (start columns highest u) in
    T (accepts before first) → Fed sheet before (first ∷ calls) → Holds sheet before (first ∷ calls)
unfolding events run
holds sheet before n columns highest u calls accepted (Fed.more lists fed) = record {
  exists =
      let x = start-exists sheet (accepts before first) n columns highest u in
      let xs = run-exists sheet (after before first) calls x.0 fed (begin-good sheet before n columns highest u no_river x.0 accepted (lists accepted) x.1) in
      (xs.0, ExactRun.more x.1 xs.1);
  unique = λ q r x y. let w = run-twins sheet _ no_river no_river q r none_yet x y in (w.now, w.past);
  counted = λ q x. (ends q x).counted;
  near = λ q x. close-near (loaded_segments sheet 0) ((ends q x).size ∙ sym (length-tab _ 0 (segment_count sheet))) (ends q x).close;
  reports = λ n columns number v lists e. report-figures _ number v lists e;
}
  where
    first : LoneCall
    first = alone n (start columns highest u)

    ends : (q : Exact) → ExactRun sheet no_river (event (accepts before first) first ∷ events (after before first) calls) q →
        Good sheet (run (after before first) calls) q
    ends q (ExactRun.more {r} x xs) = run-good sheet (after before first) calls r q fed (begin-good sheet before n columns highest u no_river r accepted (lists accepted) x) xs

pub demand3 : Demand3
demand3 sheet r records columns v loaded before n lent highest u calls accepted fed = holds sheet before n lent highest u calls accepted fed
