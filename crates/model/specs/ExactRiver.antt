-- Document 01, "The equations" and "The run and its exact river", with the two sets of document 02, 1: the three equations in fractions,
-- as a relation.
use Rattle.std.specs.Prelude.{List, [], ◌∷◌, ℕ, ◌+◌, ◌-◌, ◌*◌}
use Rattle.fractions.specs.Fractions.{Fraction, Same, whole, ◌⊕◌, ◌⊖◌, ◌·◌}
use Rattle.rounding.specs.Nearest.{S}
use Rattle.model.specs.Equations.{Pair, sum_t, sum_v}

-- C, Z and W of a segment, as fractions
pub record ExactFigures : Type 0 where
  pub c : Fraction
  pub z : Fraction
  pub w : Fraction

-- The three equations of one segment, from old figures to new ones, the left sides with the new numbers, the right sides with the old.
-- An accepted sheet has T, V and h at most one whole, so S−T, S−V and S−h are whole numbers.
pub record Solves (x : Pair) (above' below' above below : Fraction) (old new : ExactFigures) : Type 0 where
  -- "(S+T)C' − eC'above − gC'below − aZ' − sW' = (S−T)C + eCabove + gCbelow + aZ + sW + 2lCL", with 2l and 2m as in `Equations`
  pub channel : let n = x.old in
      let n' = x.new in
      Same ((S + sum_t n') · new.c ⊖ n'.e · above' ⊖ n'.g · below' ⊖ n'.a · new.z ⊖ n'.s · new.w)
      ((S - sum_t n) · old.c ⊕ n.e · above ⊕ n.g · below ⊕ n.a · old.z ⊕ n.s · old.w ⊕ whole ((n.l + n'.l) * x.cl))
  -- "(S+V)Z' − bC' = (S−V)Z + bC + 2mCB"
  pub storage : let n = x.old in
      let n' = x.new in
      Same ((S + sum_v n') · new.z ⊖ n'.b · new.c) ((S - sum_v n) · old.z ⊕ n.b · old.c ⊕ whole ((n.m + n'.m) * x.cb))
  -- "(S+h)W' − hC' = (S−h)W + hC"
  pub sediment : let n = x.old in
      let n' = x.new in
      Same ((S + n'.h) · new.w ⊖ n'.h · new.c) ((S - n.h) · old.w ⊕ n.h · old.c)

-- the figure below a segment: any will do below the last, as in `Sweep.below`
abbrev pub exact_below : List ExactFigures → Fraction
exact_below [] = whole 0
exact_below (f ∷ fs) = f.c

-- "fractions that solve the three equations of all segments together": from a segment down, with the new and the old figure that
-- stand above it
pub data Along : (above' above : Fraction) → List Pair → (old new : List ExactFigures) → Type 0 where
  last : {above' above : Fraction} → Along above' above [] [] []
  next : {above' above : Fraction} {x : Pair} {xs : List Pair} {f f' : ExactFigures} {fs fs' : List ExactFigures} →
      Solves x above' (exact_below fs') above (exact_below fs) f f' → Along f'.c f.c xs fs fs' →
      Along above' above (x ∷ xs) (f ∷ fs) (f' ∷ fs')

-- One step of the exact river: "Above segment 1 stands U, on the new side U'".
abbrev pub ExactStep : (u u' : ℕ) → List Pair → (old new : List ExactFigures) → Type 0
ExactStep u u' xs old new = Along (whole u') (whole u) xs old new
