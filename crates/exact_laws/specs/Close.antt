-- The computed river beside the exact one: what holds after an accepted start, and after each accepted step with 6 more for E.
use Rattle.std.specs.Prelude.{List, [], ◌∷◌, ℕ, ◌*◌, pos, ◌≤ℤ◌}
use Rattle.fractions.specs.Fractions.{Fraction, Within}
use Rattle.rounding.specs.Nearest.{S}
use Rattle.model.specs.Ranges.{highest}
use Rattle.model.specs.Equations.{Figures}
use Rattle.model.specs.ExactRiver.{ExactFigures}
use Rattle.sweep_laws.specs.Accepted.{AtMost}

-- "6 × n": how much further from the exact river the roundings of one step take a figure, at most
abbrev pub per_step : ℕ
per_step = 6

-- the same in a segment's equation, where a figure stands times S: by how much the computed figures miss it, at most
abbrev pub defect : ℕ
defect = per_step * S

-- a fraction is in the range of concentrations, 0 to 1,000,000,000
pub record InRange (f : Fraction) : Type 0 where
  pub least : pos 0 ≤ℤ f.num
  pub most : f.num ≤ℤ pos (highest * f.den)

-- the three exact figures of a segment are
pub record FiguresInRange (q : ExactFigures) : Type 0 where
  pub c : InRange q.c
  pub z : InRange q.z
  pub w : InRange q.w

-- one segment: its figures and the exact ones are in range, and differ either way by at most E
pub record FiguresClose (E : ℕ) (f : Figures) (q : ExactFigures) : Type 0 where
  pub most : AtMost highest f
  pub range : FiguresInRange q
  pub c : Within E f.c q.c
  pub z : Within E f.z q.z
  pub w : Within E f.w q.w

-- every segment
pub data Close (E : ℕ) : List Figures → List ExactFigures → Type 0 where
  none : Close E [] []
  cons : {f : Figures} {q : ExactFigures} {fs : List Figures} {qs : List ExactFigures} → FiguresClose E f q → Close E fs qs →
      Close E (f ∷ fs) (q ∷ qs)
