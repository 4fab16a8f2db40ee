-- What tests 6, 19 and 11 leave of a segment.
use mathlib.Core.Bool.{false}
use mathlib.Core.Path.{◌≡◌}
use Prim.Native.Nat.{◌+◌, ◌*◌, ◌≤◌, ◌^◌}
use native.Mathlib.Nat.{mul-le-mul}
use borrow.Author.Tests.{ltb-false}
use Rattle.model.specs.Sheet.{Hydraulics}
use Rattle.model.specs.HalfStep.{Site, ad, discharge}
use Rattle.model.specs.Load.{face_fault}
use Rattle.halfstep.specs.Ranges.{Fit}

-- an AD is at most 10^12
pub ad_le : {x : Hydraulics} → Fit x → ad x ≤ 10 ^ 12
ad_le fit = mul-le-mul fit.area fit.dispersion

-- what test 11 leaves
pub face-range : (site : Site) → face_fault site ≡ false → discharge site * site.dx ≤ ad site.hydraulics + site.below
unfolding face_fault
face-range site e = ltb-false _ _ e
