-- Rivers over a common denominator that solve the equations up to a defect, and how far two of them are apart after a step.
use mathlib.Core.List.{List, [], ◌∷◌}
use Prim.Native.Nat.{ℕ, ◌+◌, ◌*◌, ◌≤◌}
use native.Mathlib.Nat.{le_refl}
use Rattle.fractions.specs.Fractions.{Fraction}
use Rattle.fractions.proofs.Differences.{Difference, UpTo}
use Rattle.fractions.proofs.Over.{Over}
use Rattle.rounding.specs.Nearest.{S}
use Rattle.model.specs.Equations.{Pair}
use Rattle.model.specs.ExactRiver.{ExactFigures, Along}
use Rattle.sweep_laws.proofs.Accepted.{All}
use Rattle.exact_laws.proofs.Sides.{Differences, EachUpTo, each-trans, AllUpTo, below, below-up-to, left, right, Steady, steady-zero, right-up-to}
use Rattle.exact_laws.proofs.Comparison.{Compared, compare}
use Rattle.exact_laws.proofs.CommonDenominator.{AllOver, below-over, each-of-same, left_over, right-over}

-- a relation of old and new figures in every segment, with the new and the old figure that stand above
pub data Rows (Row : Pair → (above' below' above below : Difference) → (old new : Differences) → Type 0)
    : (above' above : Difference) → List Pair → (old new : List Differences) → Type 0 where
  last : {above' above : Difference} → Rows Row above' above [] [] []
  next : {above' above : Difference} {x : Pair} {xs : List Pair} {f f' : Differences} {fs fs' : List Differences} →
      Row x above' (below fs') above (below fs) f f' → Rows Row f'.c f.c xs fs fs' →
      Rows Row above' above (x ∷ xs) (f ∷ fs) (f' ∷ fs')

-- the left sides are at most the right sides, up to k
pub record LeftUpTo (D k : ℕ) (x : Pair) (above' below' above below : Difference) (old new : Differences) : Type 0 where
  pub each : EachUpTo k (left x.new above' below' new) (right D x above below old)

-- the right sides are at most the left sides, up to k
pub record RightUpTo (D k : ℕ) (x : Pair) (above' below' above below : Difference) (old new : Differences) : Type 0 where
  pub each : EachUpTo k (right D x above below old) (left x.new above' below' new)

-- a river solves the equations up to k, either way
abbrev pub SolvesUpTo : (D k : ℕ) → (above' above : Difference) → List Pair → (old new : List Differences) → Type 0
SolvesUpTo D k above' above xs old new =
    (Rows (LeftUpTo D k) above' above xs old new) × (Rows (RightUpTo D k) above' above xs old new)

-- with no gap every set of numbers is steady
pub all-steady : (xs : List Pair) → All (λ x. Steady 0 x.old) xs
all-steady [] = All.none
all-steady (x ∷ xs) = All.cons (steady-zero x.old) (all-steady xs)

-- two rivers, of which one solves the equations from below up to j and the other from above up to k: where its old figures are at most
-- the other's, up to E, its new ones are, up to G
compared : {D j k E G : ℕ} {ua' ua va' va : Difference} {xs : List Pair} {os us ps vs : List Differences} →
    All (λ x. Steady E x.old) xs → Rows (LeftUpTo D j) ua' ua xs os us → Rows (RightUpTo D k) va' va xs ps vs →
    UpTo E ua va → AllUpTo E os ps → j + S * E + k ≤ S * G → Compared G ua' va' xs us vs
compared All.none last last above AllUpTo.none slack = Compared.last
compared {D} {G} (All.cons {x} steady steadies) (next u us) (next v vs) above (AllUpTo.cons f fs) slack =
    Compared.next
    (each-trans (S * G) (each-trans _ u.each (right-up-to D x steady above (below-up-to fs) f) (le_refl _)) v.each slack)
    (compared steadies us vs f.c fs slack)

-- so that the comparison principle holds of them
pub apart : {D j k E : ℕ} (G : ℕ) {ua' ua va' va : Difference} {xs : List Pair} {os us ps vs : List Differences} →
    All (λ x. Steady E x.old) xs → Rows (LeftUpTo D j) ua' ua xs os us → Rows (RightUpTo D k) va' va xs ps vs →
    UpTo G ua' va' → UpTo E ua va → AllUpTo E os ps → j + S * E + k ≤ S * G → AllUpTo G us vs
apart G steadies us vs above' above olds slack = compare above' (compared steadies us vs above olds slack)

-- an exact river solves them with no defect
pub exact-rows : {D : ℕ} {above' above : Fraction} {a' a : Difference} {xs : List Pair} {old new : List ExactFigures}
    {os ns : List Differences} →
    Along above' above xs old new → Over D above' a' → Over D above a → AllOver D old os → AllOver D new ns →
    SolvesUpTo D 0 a' a xs os ns
exact-rows Along.last a' a AllOver.none AllOver.none = (last, last)
exact-rows (Along.next {x} row rows) a' a (AllOver.cons o os) (AllOver.cons n ns) =
    let l = left_over a' (below-over ns) n x.new in
    let r = right-over a (below-over os) o x in
    let e = each-of-same l r row.channel row.storage row.sediment in
    let es = exact-rows rows n.c o.c os ns in
    (next (record { each = e.0 }) es.0, next (record { each = e.1 }) es.1)
