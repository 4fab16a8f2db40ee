-- Any two exact rivers of one list of events hold the same figures, at every step since the latest start.
use mathlib.Core.Path.{◌≡◌, refl, ap}
use mathlib.Core.List.{List, [], ◌∷◌, map}
use Prim.Native.Nat.{ℕ, suc}
use Rattle.model.specs.HalfStep.{Segment}
use Rattle.model.specs.State.{loaded_segments}
use Rattle.model.specs.Runs.{Event, started, moved, still, Exact, no_river, exact_start, ExactEvent, ExactRun}
use Rattle.model.specs.Claim.{SameFigures, SamePast}
use Rattle.exact_laws.proofs.Unique.{unique}

starts-same : (xs : List Segment) → SameFigures (map exact_start xs) (map exact_start xs)
starts-same [] = SameFigures.none
starts-same (x ∷ xs) = SameFigures.cons refl refl refl (starts-same xs)

pub record Twins (q r : Exact) : Type 0 where
  pub upstream : q.upstream ≡ r.upstream
  pub n : q.n ≡ r.n
  pub now : SameFigures q.now r.now
  pub past : SamePast q.past r.past

pub none_yet : Twins no_river no_river
none_yet = record { upstream = refl; n = refl; now = SameFigures.none; past = SamePast.none }

module _ (sheet : List ℕ) where
  event-twins : (e : Event) (q r q' r' : Exact) → Twins q r → ExactEvent sheet e q q' → ExactEvent sheet e r r' → Twins q' r'
  event-twins (started u) q r q' r' w ExactEvent.starts ExactEvent.starts = record { upstream = refl; n = refl; now = starts-same (loaded_segments sheet 0); past = SamePast.none }
  event-twins (moved u') q r q' r' w (ExactEvent.moves x) (ExactEvent.moves y) =
      record {
        upstream = refl;
        n = ap suc w.n;
        now = unique refl refl w.now (rw (w.upstream, w.n) at x) y;
        past = SamePast.cons w.now w.past;
      }
  event-twins still q r q' r' w ExactEvent.stays ExactEvent.stays = w

  pub run-twins : (es : List Event) (q r q' r' : Exact) → Twins q r → ExactRun sheet q es q' → ExactRun sheet r es r' → Twins q' r'
  run-twins [] q r q' r' w ExactRun.none ExactRun.none = w
  run-twins (e ∷ es) q r q' r' w (ExactRun.more {r = a} x xs) (ExactRun.more {r = b} y ys) = run-twins es a b q' r' (event-twins e q r a b w x y) xs ys
