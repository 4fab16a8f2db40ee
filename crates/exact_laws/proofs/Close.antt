-- The two rivers beside each other: after an accepted start, and in the words of the claim.
use mathlib.Core.Path.{◌≡◌, refl, ap}
use mathlib.Core.List.{List, [], ◌∷◌, map}
use Prim.Native.Nat.{ℕ, suc, ◌≤◌}
use native.Mathlib.Omega.{arith}
use lib.ListN.{length}
use Rattle.fractions.proofs.Bounds.{within-whole, within-times}
use Rattle.model.specs.Ranges.{highest}
use Rattle.model.specs.HalfStep.{Segment}
use Rattle.model.specs.Equations.{Figures}
use Rattle.model.specs.ExactRiver.{ExactFigures}
use Rattle.model.specs.Calls.{start_figures}
use Rattle.model.specs.Runs.{exact_start}
use Rattle.model.specs.Claim.{Near}
use Rattle.sweep_laws.proofs.Accepted.{All}
use Rattle.exact_laws.specs.Close.{Close, none, cons}
use Rattle.exact_laws.proofs.Range.{whole_in_range}

-- an accepted start: "C, Z and W of each segment to its start figure", within 0
pub start-close : {xs : List Segment} → All (λ x. x.start ≤ highest) xs → Close 0 (map start_figures xs) (map exact_start xs)
start-close All.none = none
start-close (All.cons {x} h hs) =
    let r = whole_in_range h in
    let w = within-whole x.start in
    cons (record { most = record { c = h; z = h; w = h }; range = record { c = r; z = r; w = r }; c = w; z = w; w = w }) (start-close hs)

-- as many computed figures as exact ones
pub close-length : {E : ℕ} {fs : List Figures} {qs : List ExactFigures} → Close E fs qs → length fs ≡ length qs
close-length none = refl
close-length (cons close closes) = ap suc (close-length closes)

-- as the claim says it, with Kd times the sediment figure
pub close-near : {E : ℕ} (xs : List Segment) {fs : List Figures} {qs : List ExactFigures} → length qs ≡ length xs → Close E fs qs → Near E xs fs qs
close-near [] e none = Near.none
close-near (x ∷ xs) e none = absurd (omega arith)
close-near [] e (cons close closes) = absurd (omega arith)
close-near (x ∷ xs) e (cons close closes) =
    Near.cons close.c close.z (within-times x.kd close.w) (close-near xs (omega arith) closes)
