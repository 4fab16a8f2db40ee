-- Figures that are fractions, as differences over a common denominator, and the two sides of a segment's equations over it.
use mathlib.Core.Path.{◌≡◌}
use mathlib.Core.List.{List, [], ◌∷◌, ◌++◌}
use Prim.Native.Nat.{ℕ, ◌+◌, ◌-◌, ◌*◌, ◌<◌}
use native.Mathlib.Nat.{mul-pos}
use native.Mathlib.Omega.{arith}
use Rattle.fractions.specs.Fractions.{Fraction, Same, whole, ◌⊕◌, ◌⊖◌, ◌·◌}
use Rattle.fractions.proofs.Differences.{Difference, ◌⊡◌}
use Rattle.fractions.proofs.Over.{Over, over-sum, over-difference, over-multiple, over-whole, over-own, over-scaled, over-as, same-up-to, up-to-same}
use Rattle.rounding.specs.Nearest.{S}
use Rattle.model.specs.HalfStep.{Numbers}
use Rattle.model.specs.Equations.{Pair, sum_t, sum_v}
use Rattle.model.specs.ExactRiver.{ExactFigures, exact_below}
use Rattle.model.specs.Claim.{SameFigures}
use Rattle.exact_laws.proofs.Sides.{Differences, EachUpTo, AllUpTo, below, left, right}

-- the three figures of a segment over D
pub record FiguresOver (D : ℕ) (q : ExactFigures) (f : Differences) : Type 0 where
  pub c : Over D q.c f.c
  pub z : Over D q.z f.z
  pub w : Over D q.w f.w

-- in every segment
pub data AllOver (D : ℕ) : List ExactFigures → List Differences → Type 0 where
  none : AllOver D [] []
  cons : {q : ExactFigures} {f : Differences} {qs : List ExactFigures} {fs : List Differences} → FiguresOver D q f → AllOver D qs fs →
      AllOver D (q ∷ qs) (f ∷ fs)

-- the figure below a segment, over D
pub below-over : {D : ℕ} {qs : List ExactFigures} {fs : List Differences} → AllOver D qs fs → Over D (exact_below qs) (below fs)
below-over none = record { parts = omega arith }
below-over (cons x xs) = x.c

-- ---- the same figures

module _ {D : ℕ} {q r : ExactFigures} {f g : Differences} (x : FiguresOver D q f) (y : FiguresOver D r g) where
  -- the same figures are at most each other
  pub each-of-same : Same q.c r.c → Same q.z r.z → Same q.w r.w → (EachUpTo 0 f g) × (EachUpTo 0 g f)
  each-of-same c z w =
      let c' = same-up-to x.c y.c c in
      let z' = same-up-to x.z y.z z in
      let w' = same-up-to x.w y.w w in
      (record { c = c'.0; z = z'.0; w = w'.0 }, record { c = c'.1; z = z'.1; w = w'.1 })

  -- and back
  pub same-of-each : 0 < D → EachUpTo 0 f g → EachUpTo 0 g f → (Same q.c r.c) × (Same q.z r.z) × (Same q.w r.w)
  same-of-each h a b =
      (up-to-same h x.c y.c a.c b.c, up-to-same h x.z y.z a.z b.z, up-to-same h x.w y.w a.w b.w)

-- in every segment
pub all-of-same : {D : ℕ} {qs rs : List ExactFigures} {fs gs : List Differences} → AllOver D qs fs → AllOver D rs gs → SameFigures qs rs →
    (AllUpTo 0 fs gs) × (AllUpTo 0 gs fs)
all-of-same none none SameFigures.none = (AllUpTo.none, AllUpTo.none)
all-of-same (cons x xs) (cons y ys) (SameFigures.cons c z w same) =
    let e = each-of-same x y c z w in
    let es = all-of-same xs ys same in
    (AllUpTo.cons e.0 es.0, AllUpTo.cons e.1 es.1)
all-of-same none (cons y ys) same = elim same [ ]
all-of-same (cons x xs) none same = elim same [ ]

-- and back
pub same-of-all : {D : ℕ} {qs rs : List ExactFigures} {fs gs : List Differences} → 0 < D → AllOver D qs fs → AllOver D rs gs →
    AllUpTo 0 fs gs → AllUpTo 0 gs fs → SameFigures qs rs
same-of-all h none none AllUpTo.none AllUpTo.none = SameFigures.none
same-of-all h (cons x xs) (cons y ys) (AllUpTo.cons a more) (AllUpTo.cons b less) =
    let e = same-of-each x y h a b in
    SameFigures.cons e.0 e.1 e.2 (same-of-all h xs ys more less)
same-of-all h none (cons y ys) same less = elim same [ ]
same-of-all h (cons x xs) none same less = elim same [ ]

-- ---- the sides of the three equations

-- as fractions: `Solves` says that the two are the same figures
abbrev pub exact_left : Numbers → (above below : Fraction) → ExactFigures → ExactFigures
exact_left n above below q = record {
  c = (S + sum_t n) · q.c ⊖ n.e · above ⊖ n.g · below ⊖ n.a · q.z ⊖ n.s · q.w;
  z = (S + sum_v n) · q.z ⊖ n.b · q.c;
  w = (S + n.h) · q.w ⊖ n.h · q.c;
}

abbrev pub exact_right : Pair → (above below : Fraction) → ExactFigures → ExactFigures
exact_right x above below q =
    let n = x.old in
    record {
      c = (S - sum_t n) · q.c ⊕ n.e · above ⊕ n.g · below ⊕ n.a · q.z ⊕ n.s · q.w ⊕ whole ((n.l + x.new.l) * x.cl);
      z = (S - sum_v n) · q.z ⊕ n.b · q.c ⊕ whole ((n.m + x.new.m) * x.cb);
      w = (S - n.h) · q.w ⊕ n.h · q.c;
    }

module _ {D : ℕ} {above below : Fraction} {a b : Difference} {q : ExactFigures} {f : Differences} (oa : Over D above a) (ob : Over D below b)
    (o : FiguresOver D q f) where
  -- over D they are the differences `left` and `right`
  pub left_over : (n : Numbers) → FiguresOver D (exact_left n above below q) (left n a b f)
  left_over n = record {
    c = over-difference (over-difference (over-difference (over-difference
        (over-multiple _ o.c) (over-multiple _ oa)) (over-multiple _ ob)) (over-multiple _ o.z)) (over-multiple _ o.w);
    z = over-difference (over-multiple _ o.z) (over-multiple _ o.c);
    w = over-difference (over-multiple _ o.w) (over-multiple _ o.c);
  }

  pub right-over : (x : Pair) → FiguresOver D (exact_right x above below q) (right D x a b f)
  right-over x = record {
    c = over-sum (over-sum (over-sum (over-sum (over-sum
        (over-multiple _ o.c) (over-multiple _ oa)) (over-multiple _ ob)) (over-multiple _ o.z)) (over-multiple _ o.w)) (over-whole D _);
    z = over-sum (over-sum (over-multiple _ o.z) (over-multiple _ o.c)) (over-whole D _);
    w = over-sum (over-multiple _ o.w) (over-multiple _ o.c);
  }

-- ---- a common denominator

-- all figures of a list have differences over D
pub record Spread (D : ℕ) (qs : List ExactFigures) : Type 0 where
  pub fs : List Differences
  pub over : AllOver D qs fs

-- also over a multiple of D
abbrev pub scaled : ℕ → Differences → Differences
scaled k f = record { c = k ⊡ f.c; z = k ⊡ f.z; w = k ⊡ f.w }

pub figures-scaled : {D : ℕ} {q : ExactFigures} {f : Differences} (k : ℕ) → FiguresOver D q f → FiguresOver (D * k) q (scaled k f)
figures-scaled k x = record { c = over-scaled k x.c; z = over-scaled k x.z; w = over-scaled k x.w }

spread-scaled : {D : ℕ} {qs : List ExactFigures} {fs : List Differences} (k : ℕ) → AllOver D qs fs → Spread (D * k) qs
spread-scaled k none = record { fs = []; over = none }
spread-scaled k (cons x xs) =
    let rest = spread-scaled k xs in
    record { fs = _ ∷ rest.fs; over = cons (figures-scaled k x) rest.over }

-- a denominator over which all figures of a list have differences
pub record Common (qs : List ExactFigures) : Type 0 where
  pub D : ℕ
  pub above : 0 < D
  pub spread : Spread D qs

-- the product of all denominators
pub common : (qs : List ExactFigures) → Common qs
common [] = record { D = 1; above = omega arith; spread = record { fs = []; over = none } }
common (q ∷ qs) =
    let rest = common qs in
    let E = rest.D in
    let x = q.c.den in
    let y = q.z.den in
    let z = q.w.den in
    let spread = spread-scaled (x * (y * z)) rest.spread.over in
    record {
      D = E * (x * (y * z));
      above = mul-pos rest.above (mul-pos q.c.above (mul-pos q.z.above q.w.above));
      spread = record {
        fs = _ ∷ spread.fs;
        over = cons
            (record {
              c = over-as (first E x y z) (over-scaled (E * (y * z)) (over-own q.c));
              z = over-as (second E x y z) (over-scaled (E * (x * z)) (over-own q.z));
              w = over-as (third E x y z) (over-scaled (E * (x * y)) (over-own q.w));
            })
            spread.over;
      };
    }
  where
    first : (E x y z : ℕ) → x * (E * (y * z)) ≡ E * (x * (y * z))
    first E x y z = omega arith

    second : (E x y z : ℕ) → y * (E * (x * z)) ≡ E * (x * (y * z))
    second E x y z = omega arith

    third : (E x y z : ℕ) → z * (E * (x * y)) ≡ E * (x * (y * z))
    third E x y z = omega arith

-- two figures that stand above a river, to be put before a list
abbrev pub ends : (above' above : Fraction) → ExactFigures
ends above' above = record { c = above'; z = above; w = above }

-- of two lists in one
pub split : {D : ℕ} (qs : List ExactFigures) {rs : List ExactFigures} {fs : List Differences} → AllOver D (qs ++ rs) fs →
    (Spread D qs) × (Spread D rs)
split [] over = (record { fs = []; over = none }, record { fs = _; over = over })
split (q ∷ qs) (cons x xs) =
    let rest = split qs xs in
    (record { fs = _ ∷ rest.0.fs; over = cons x rest.0.over }, rest.1)
