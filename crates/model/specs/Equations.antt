-- Document 01, "The equations", with the two sets of document 02, 1: the sums T and V, the state of a segment, and the three right sides.
use Rattle.std.specs.Prelude.{ℕ, ◌+◌, ◌-◌, ◌*◌}
use Rattle.rounding.specs.Nearest.{S}
use Rattle.model.specs.HalfStep.{Numbers}

-- "channel C, storage Z, sediment W"
pub record Figures : Type 0 where
  pub c : ℕ
  pub z : ℕ
  pub w : ℕ

-- "T = e+g+l+a+k+s"
abbrev pub sum_t : Numbers → ℕ
sum_t n = n.e + n.g + n.l + n.a + n.k + n.s

-- "V = b+ks+m"
abbrev pub sum_v : Numbers → ℕ
sum_v n = n.b + n.ks + n.m

-- A segment in a step: "that step's old side keeps the half-step numbers of the flow before, its new side takes those after". Where no
-- flow row begins to hold, both are the same, and 2l and 2m below are document 01's.
pub record Pair : Type 0 where
  pub old : Numbers
  pub new : Numbers
  pub cl : ℕ
  pub cb : ℕ

-- "(S−T)C + eCabove + gCbelow + aZ + sW + 2lCL", the old side; "2l and 2m become the old number plus the new"
abbrev pub channel_right : Pair → (above below : ℕ) → Figures → ℕ
channel_right x above below f =
    (S - sum_t x.old) * f.c + x.old.e * above + x.old.g * below + x.old.a * f.z + x.old.s * f.w + (x.old.l + x.new.l) * x.cl

-- "(S−V)Z + bC + 2mCB"
abbrev pub storage_right : Pair → Figures → ℕ
storage_right x f = (S - sum_v x.old) * f.z + x.old.b * f.c + (x.old.m + x.new.m) * x.cb

-- "(S−h)W + hC"
abbrev pub sediment_right : Pair → Figures → ℕ
sediment_right x f = (S - x.old.h) * f.w + x.old.h * f.c
