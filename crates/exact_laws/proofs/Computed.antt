-- The computed river over a common denominator: before anything is cut at the highest concentration it solves the equations up to the
-- defect, in every segment.
use mathlib.Core.Path.{◌≡◌, refl, ap}
use mathlib.Core.List.{List, [], ◌∷◌, map}
use Prim.Native.Nat.{ℕ, ◌*◌}
use native.Mathlib.Omega.{arith}
use Rattle.fractions.proofs.Differences.{natural}
use Rattle.model.specs.Equations.{Figures, Pair}
use Rattle.model.specs.Sweep as Sweep
use Rattle.model.specs.Sweep.{row_of, rows, new_figures}
use Rattle.sweep_laws.specs.Accepted.{Accepted}
use Rattle.sweep_laws.proofs.Accepted.{All}
use Rattle.sweep_laws.proofs.Passes.{first}
use Rattle.sweep_laws.proofs.Solves.{Solves, Near}
use Rattle.exact_laws.proofs.Sides.{each-trans, below}
use Rattle.exact_laws.proofs.Rivers.{last, next, LeftUpTo, RightUpTo, SolvesUpTo}
use Rattle.exact_laws.specs.Close.{defect}
use Rattle.exact_laws.proofs.Defect.{wholes, row-over, rights-over}

-- the new figures that the channel figures cs give, uncut
abbrev pub uncut : List Pair → List Figures → List ℕ → List Figures
uncut [] fs cs = []
uncut (x ∷ xs) [] cs = []
uncut (x ∷ xs) (f ∷ fs) [] = []
uncut (x ∷ xs) (f ∷ fs) (c ∷ cs) = new_figures x f c ∷ uncut xs fs cs

-- one figure for each segment
pub data Each {A : Type 0} {B : Type 0} : List A → List B → Type 0 where
  none : Each [] []
  cons : {x : A} {y : B} {xs : List A} {ys : List B} → Each xs ys → Each (x ∷ xs) (y ∷ ys)

-- ---- one segment

-- the row that a computed figure solves, over D
computed-row : (D : ℕ) (x : Pair) (f : Figures) (above below xa c xb : ℕ) → Accepted x → Solves (row_of x above below f) xa c xb →
    let a' = natural (xa * D) in
    let b' = natural (xb * D) in
    let a = natural (above * D) in
    let b = natural (below * D) in
    (LeftUpTo D (defect * D) x a' b' a b (wholes D f) (wholes D (new_figures x f c)))
    × (RightUpTo D (defect * D) x a' b' a b (wholes D f) (wholes D (new_figures x f c)))
computed-row D x f above below xa c xb ok row =
    let d = row-over D x f ok.new above below xa c xb row in
    let r = rights-over D x above below f in
    (record { each = each-trans _ d.0 r.0 (omega arith) }, record { each = each-trans _ r.1 d.1 (omega arith) })

-- ---- all segments

-- the figure below a segment, old and new
below-wholes : (D : ℕ) (fs : List Figures) → below (map (wholes D) fs) ≡ natural (Sweep.below fs * D)
below-wholes D [] = ap natural (omega arith)
below-wholes D (f ∷ fs) = refl

first-wholes : (D above : ℕ) {xa : ℕ} {xs : List Pair} {fs : List Figures} {cs : List ℕ} → Each xs fs →
    Near xa (rows above xs fs) cs → below (map (wholes D) (uncut xs fs cs)) ≡ natural (first cs * D)
unfolding new_figures
first-wholes D above none Near.none = ap natural (omega arith)
first-wholes D above (cons e) (Near.row row near) = refl

-- what the passes leave solves the equations up to the defect
pub computed-rows : (D above : ℕ) {xa : ℕ} {xs : List Pair} {fs : List Figures} {cs : List ℕ} → All Accepted xs → Each xs fs →
    Near xa (rows above xs fs) cs →
    SolvesUpTo D (defect * D) (natural (xa * D)) (natural (above * D)) xs (map (wholes D) fs) (map (wholes D) (uncut xs fs cs))
unfolding new_figures
computed-rows D above All.none none Near.none = (last, last)
computed-rows D above (All.cons {x} ok oks) (cons {y = f} {ys = fs} e) (Near.row {xa} {x = c} {xs = cs} row near) =
    let r = computed-row D x f above (Sweep.below fs) xa c (first cs) ok row in
    let r' = rw (← (first-wholes D f.c e near), ← (below-wholes D fs)) at r in
    let rs = computed-rows D f.c oks e near in
    (next r'.0 rs.0, next r'.1 rs.1)
