-- "any two lists of them .. hold the same figures": one step. Two solutions from the same figures are compared both ways, with no gap.
use mathlib.Core.List.{List, ◌∷◌, ◌++◌}
use Prim.Native.Nat.{ℕ, ◌<◌}
use native.Mathlib.Omega.{arith}
use Rattle.fractions.specs.Fractions.{Fraction, Same}
use Rattle.fractions.proofs.Over.{same-up-to}
use Rattle.model.specs.Equations.{Pair}
use Rattle.model.specs.ExactRiver.{ExactFigures, Along}
use Rattle.model.specs.Claim.{SameFigures}
use Rattle.exact_laws.proofs.Sides.{Differences}
use Rattle.exact_laws.proofs.CommonDenominator.{AllOver, all-of-same, same-of-all, common, ends, split}
use Rattle.exact_laws.proofs.Rivers.{all-steady, apart, exact-rows}

-- from the same figures, and under the same figures
pub unique : {above' above above'* above* : Fraction} {xs : List Pair} {old new old* new* : List ExactFigures} →
    Same above' above'* → Same above above* → SameFigures old old* →
    Along above' above xs old new → Along above'* above* xs old* new* → SameFigures new new*
unique {above'} {above} {above'*} {above*} {xs} {old} {new} {old*} {new*} same' same olds solves solves* =
    let c = common (ends above' above ∷ ends above'* above* ∷ (old ++ new) ++ (old* ++ new*)) in
    go c.D c.above c.spread.over
  where
    go : (D : ℕ) → 0 < D → {fs : List Differences} → AllOver D (ends above' above ∷ ends above'* above* ∷ (old ++ new) ++ (old* ++ new*)) fs →
        SameFigures new new*
    go D h (AllOver.cons a (AllOver.cons a* rest)) =
        let parts = split (old ++ new) rest in
        let first = split old parts.0.over in
        let second = split old* parts.1.over in
        let rows = exact-rows solves a.c a.z first.0.over first.1.over in
        let rows* = exact-rows solves* a*.c a*.z second.0.over second.1.over in
        let os = all-of-same first.0.over second.0.over olds in
        let u' = same-up-to a.c a*.c same' in
        let u = same-up-to a.z a*.z same in
        same-of-all h first.1.over second.1.over
        (apart 0 (all-steady xs) rows.0 rows*.1 u'.0 u.0 os.0 (omega arith))
        (apart 0 (all-steady xs) rows*.0 rows.1 u'.1 u.1 os.1 (omega arith))
