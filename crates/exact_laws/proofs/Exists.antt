-- "Such fractions always exist": one step, from any figures. The equations are solved for the positive and for the negative part of the
-- right sides, and the solution is the difference.
use mathlib.Core.Path.{◌≡◌, refl, ap}
use mathlib.Core.List.{List, [], ◌∷◌}
use Prim.Native.Nat.{ℕ, suc, ◌+◌, ◌*◌, ◌<◌}
use native.Mathlib.Nat.{mul-pos}
use native.Mathlib.Omega.{arith}
use lib.ListN.{length}
use Rattle.fractions.specs.Fractions.{Fraction}
use Rattle.fractions.proofs.Differences.{Difference, ◌⊟◌, ◌⊡◌, UpTo}
use Rattle.fractions.proofs.Over.{Over, times, quotient, over_quotient}
use Rattle.rounding.specs.Nearest.{S}
use Rattle.model.specs.Equations.{Figures, Pair, sum_t, sum_v}
use Rattle.model.specs.Sweep.{below}
use Rattle.model.specs.ExactRiver.{ExactFigures, Along, last, next, exact_below}
use Rattle.exact_laws.proofs.Sides as Sides
use Rattle.exact_laws.proofs.Sides.{Differences, EachUpTo, left, right}
use Rattle.exact_laws.proofs.CommonDenominator.{FiguresOver, AllOver, below-over, same-of-each, left_over, right-over, scaled, figures-scaled, common, ends}
use Rattle.exact_laws.proofs.Elimination.{Given, Solved, AllSolved, rest}

-- what is given of a river with the old figures os, over D
abbrev givens : (D : ℕ) → (above : Difference) → List Pair → List Differences → List Given
givens D above [] os = []
givens D above (x ∷ xs) [] = []
givens D above (x ∷ xs) (o ∷ os) = record { numbers = x.new; right = right D x above (Sides.below os) o } ∷ givens D o.c xs os

-- the two parts, and the difference of two solutions
abbrev plus : Difference → ℕ
plus d = d.plus

abbrev minus : Difference → ℕ
minus d = d.minus

abbrev less : ℕ → ℕ → Difference
less p m = record { plus = p; minus = m }

abbrev less_each : Figures → Figures → Differences
less_each f g = record { c = less f.c g.c; z = less f.z g.z; w = less f.w g.w }

-- ---- one segment: where a solution for the one part is taken from one for the other, the sides are the same

channel-solved : (t e g a s q A A* B B* C C* Z Z* W W* : ℕ) (r : Difference) → t * C ≡ e * A + g * B + a * Z + s * W + q * r.plus →
    t * C* ≡ e * A* + g * B* + a * Z* + s * W* + q * r.minus →
    let l = t ⊡ less C C* ⊟ e ⊡ less A A* ⊟ g ⊡ less B B* ⊟ a ⊡ less Z Z* ⊟ s ⊡ less W W* in (UpTo 0 l (q ⊡ r)) × (UpTo 0 (q ⊡ r) l)
channel-solved t e g a s q A A* B B* C C* Z Z* W W* r h k = (omega arith, omega arith)

store-solved : (t b q C C* Z Z* : ℕ) (r : Difference) → t * Z ≡ b * C + q * r.plus → t * Z* ≡ b * C* + q * r.minus →
    let l = t ⊡ less Z Z* ⊟ b ⊡ less C C* in (UpTo 0 l (q ⊡ r)) × (UpTo 0 (q ⊡ r) l)
store-solved t b q C C* Z Z* r h k = (omega arith, omega arith)

each-solved : {q A A* B B* : ℕ} {x : Given} {f g : Figures} → Solved plus q x A B f → Solved minus q x A* B* g →
    let l = left x.numbers (less A A*) (less B B*) (less_each f g) in
    let r = scaled q x.right in
    (EachUpTo 0 l r) × (EachUpTo 0 r l)
each-solved {q} {A} {A*} {B} {B*} {x} {f} {g} y y* =
    let n = x.numbers in
    let c = channel-solved (S + sum_t n) n.e n.g n.a n.s q A A* B B* _ _ f.z g.z f.w g.w x.right.c
    y.channel y*.channel in
    let z = store-solved (S + sum_v n) n.b q f.c g.c f.z g.z x.right.z y.storage y*.storage in
    let w = store-solved (S + n.h) n.h q f.c g.c f.w g.w x.right.w y.sediment y*.sediment in
    (record { c = c.0; z = z.0; w = w.0 }, record { c = c.1; z = z.1; w = w.1 })

-- ---- all segments

-- the fractions f over D
abbrev quotients : (D : ℕ) → 0 < D → Differences → ExactFigures
quotients D h f = record { c = quotient D h f.c; z = quotient D h f.z; w = quotient D h f.w }

over-quotients : (D : ℕ) (h : 0 < D) (f : Differences) → FiguresOver D (quotients D h f) f
over-quotients D h f = record { c = over_quotient D h f.c; z = over_quotient D h f.z; w = over_quotient D h f.w }

-- new figures that solve the equations, the first channel figure being `first` over E
record Built (E : ℕ) (above' above : Fraction) (xs : List Pair) (old : List ExactFigures) (first : Difference) : Type 0 where
  new : List ExactFigures
  over : Over E (exact_below new) first
  solves : Along above' above xs old new

-- the new figures of all segments, and that they solve the equations
build : {D q p m : ℕ} {a : Difference} {above' above : Fraction} (xs : List Pair) {old : List ExactFigures} {os : List Differences}
    {fs gs : List Figures} → 0 < D * q → AllOver D old os → length old ≡ length xs →
    AllSolved plus q p (givens D a xs os) fs → AllSolved minus q m (givens D a xs os) gs →
    Over (D * q) above' (less p m) → Over D above a → Built (D * q) above' above xs old (less (below fs) (below gs))
build [] h AllOver.none e AllSolved.last AllSolved.last oa' oa = record { new = []; over = record { parts = omega arith }; solves = last }
-- the new figures of all segments, and that they solve the equations
build (x ∷ xs) h AllOver.none e y y* oa' oa = absurd (omega arith)
build [] h (AllOver.cons o os) e y y* oa' oa = absurd (omega arith)
build {D} {q} {p = p} (x ∷ xs) h (AllOver.cons o os) e (AllSolved.next {f} y ys) (AllSolved.next {f = g} y* ys*) oa' oa =
    let f' = quotients (D * q) h (less_each f g) in
    let n = over-quotients (D * q) h (less_each f g) in
    let more = build {p = f.c} xs h os (omega arith) ys ys* n.c o.c in
    let both = each-solved y y* in
    let l = left_over oa' more.over n x.new in
    let r = figures-scaled q (right-over oa (below-over os) o x) in
    let same = same-of-each l r h both.0 both.1 in
    record {
      new = f' ∷ more.new;
      over = n.c;
      solves = next {f' = f'} (record { channel = same.0; storage = same.1; sediment = same.2 }) more.solves;
    }

-- from any figures, one for each segment, and any figures above
pub exists : (above' above : Fraction) (xs : List Pair) (old : List ExactFigures) → length old ≡ length xs →
    (new : List ExactFigures) × Along above' above xs old new
exists above' above xs old e =
    let c = common (ends above' above ∷ old) in
    go c.D c.above c.spread.over
  where
    go : (D : ℕ) → 0 < D → {fs : List Differences} → AllOver D (ends above' above ∷ old) fs →
        (new : List ExactFigures) × Along above' above xs old new
    go D h (AllOver.cons {f = a} {fs = os} o overs) =
        let r = rest (givens D a.z xs os) in
        let p = r.solve plus a.c.plus 1 in
        let m = r.solve minus a.c.minus 1 in
        let top : Over (D * (1 * r.P)) above' (less (a.c.plus * r.P) (a.c.minus * r.P)) =
        record { parts = omega (arith, times r.P o.c.parts) } in
        let b = build xs (mul-pos h (mul-pos (omega arith) r.above)) overs e p.1 m.1 top o.z in
        (b.new, b.solves)

-- there is one new figure for each segment, so that the next step exists too
pub new-length : {above' above : Fraction} {xs : List Pair} {old new : List ExactFigures} → Along above' above xs old new → length new ≡ length xs
new-length last = refl
new-length (next row rows) = ap suc (new-length rows)
