-- Document 01, "The sweep", with the two sets of document 02, 1. "Every division is to the nearest, half up."
use Rattle.std.specs.Prelude.{List, [], ◌∷◌, ℕ, ◌+◌, ◌-◌, ◌*◌, min}
use Rattle.rounding.specs.Nearest.{S, nearest}
use Rattle.model.specs.Ranges.{highest}
use Rattle.model.specs.HalfStep.{Numbers}
use Rattle.model.specs.Equations.{Figures, Pair, sum_v, channel_right, storage_right, sediment_right}

-- "P = ((S−V)Z + bC + 2mCB)/(S+V)"; "P and N divide the old numerator by the new S+V and S+h"
unfoldable pub P : Pair → Figures → ℕ
P x f = nearest (storage_right x f) (S + sum_v x.new)

-- "N = ((S−h)W + hC)/(S+h)"
unfoldable pub N : Pair → Figures → ℕ
N x f = nearest (sediment_right x f) (S + x.new.h)

-- what storage adds to F, "a(S+ks+m)/(S+V)"
abbrev pub storage_quotient : Numbers → ℕ
storage_quotient n = nearest (n.a * (S + n.ks + n.m)) (S + sum_v n)

-- what sediment adds, "sS/(S+h)"
abbrev pub sediment_quotient : Numbers → ℕ
sediment_quotient n = nearest (n.s * S) (S + n.h)

-- "F = S+e+g+l+k + a(S+ks+m)/(S+V) + sS/(S+h), its two quotients divided singly", of the new numbers
unfoldable pub F : Numbers → ℕ
F n = S + n.e + n.g + n.l + n.k + storage_quotient n + sediment_quotient n

-- "R is the channel's right side plus aP + sN"; "In R, aP, sN and eU' take the new numbers", where "plus eU' in segment 1" is `y_numerator`'s
unfoldable pub R : Pair → (above below : ℕ) → Figures → ℕ
R x above below f = channel_right x above below f + x.new.a * P x f + x.new.s * N x f

-- what the two passes need of a segment: F, e and g of the new numbers, and R
pub record Row : Type 0 where
  pub F : ℕ
  pub e : ℕ
  pub g : ℕ
  pub R : ℕ

-- the channel figure of the segment below; "below the last segment g is 0 and its terms fall away"
abbrev pub below : List Figures → ℕ
below [] = 0
below (f ∷ fs) = f.c

-- the row of a segment
unfoldable pub row_of : Pair → (above below : ℕ) → Figures → Row
row_of x above below f = record { F = F x.new; e = x.new.e; g = x.new.g; R = R x above below f }

-- a row for each segment from one down, `above` being the channel figure that stands above that one, which is U above segment 1
abbrev pub rows : (above : ℕ) → List Pair → List Figures → List Row
rows above [] fs = []
rows above (x ∷ xs) [] = []
rows above (x ∷ xs) (f ∷ fs) = row_of x above (below fs) f ∷ rows f.c xs fs

-- what the downward pass leaves of a segment
pub record Passed : Type 0 where
  pub p : ℕ
  pub y : ℕ

-- what stands above a segment on the way down: U' above segment 1, else p and y of the segment above
pub data Above : Type 0 where
  top : (u' : ℕ) → Above
  under : Passed → Above

-- "H = F in segment 1, else F − (e × p above)/S"
abbrev pub H : Above → Row → ℕ
H (top u') r = r.F
H (under d) r = r.F - nearest (r.e * d.p) S

-- "R .. plus eU' in segment 1", elsewhere "R + e × y above"
abbrev pub y_numerator : Above → Row → ℕ
y_numerator (top u') r = r.R + r.e * u'
y_numerator (under d) r = r.R + r.e * d.y

-- "p = gS/H; y = (R + e × y above)/H, without y above in segment 1"
abbrev pub pass : Above → Row → Passed
pass above r = record { p = nearest (r.g * S) (H above r); y = nearest (y_numerator above r) (H above r) }

-- "Downward"
abbrev pub down : Above → List Row → List Passed
down above [] = []
down above (r ∷ rs) = pass above r ∷ down (under (pass above r)) rs

-- "Upward: C' = y in the last, else y + (p × C' below)/S"; the list is of the C' below
abbrev pub on_top : Passed → List ℕ → ℕ
on_top d [] = d.y
on_top d (x ∷ xs) = d.y + nearest (d.p * x) S

-- the C' of all segments, before any is cut
abbrev pub up : List Passed → List ℕ
up [] = []
up (d ∷ ds) = on_top d (up ds) ∷ up ds

-- "when the upward pass is over, anything above 1,000,000,000 becomes that"
abbrev pub clamp : ℕ → ℕ
clamp x = min x highest

-- "Then Z' and W' from their equations", with the new C' and one division each; its left side has the new numbers
unfoldable pub new_storage : Pair → Figures → (c' : ℕ) → ℕ
new_storage x f c' = nearest (storage_right x f + x.new.b * c') (S + sum_v x.new)

-- W'
unfoldable pub new_sediment : Pair → Figures → (c' : ℕ) → ℕ
new_sediment x f c' = nearest (sediment_right x f + x.new.h * c') (S + x.new.h)

-- the new figures of a segment, from its old ones and its new channel figure
unfoldable pub new_figures : Pair → Figures → (c' : ℕ) → Figures
new_figures x f c' = record { c = c'; z = new_storage x f c'; w = new_sediment x f c' }

-- the new figures of all segments, from what the upward pass left
abbrev pub finish : List Pair → List Figures → List ℕ → List Figures
finish [] fs cs = []
finish (x ∷ xs) [] cs = []
finish (x ∷ xs) (f ∷ fs) [] = []
finish (x ∷ xs) (f ∷ fs) (c ∷ cs) = new_figures x f (clamp c) ∷ finish xs fs cs

-- the downward pass of a step from the figures fs, with U and U'
unfoldable pub downward : (u u' : ℕ) → List Pair → List Figures → List Passed
downward u u' xs fs = down (top u') (rows u xs fs)

-- one step: the new figures of all segments
unfoldable pub stepped : (u u' : ℕ) → List Pair → List Figures → List Figures
stepped u u' xs fs = finish xs fs (up (downward u u' xs fs))
