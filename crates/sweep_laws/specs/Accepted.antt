-- What an accepted step knows of a segment and of its figures (refusals 12 and 14).
use Rattle.std.specs.Prelude.{ℕ, ◌≤◌}
use Rattle.rounding.specs.Nearest.{S}
use Rattle.model.specs.Ranges.{highest}
use Rattle.model.specs.HalfStep.{Numbers}
use Rattle.model.specs.Equations.{Figures, Pair, sum_t, sum_v}

-- T, V and h do not exceed one whole
pub record Sums (n : Numbers) : Type 0 where
  pub t : sum_t n ≤ S
  pub v : sum_v n ≤ S
  pub h : n.h ≤ S

-- a segment, with its old numbers and its new ones
pub record Accepted (x : Pair) : Type 0 where
  pub old : Sums x.old
  pub new : Sums x.new
  pub cl : x.cl ≤ highest
  pub cb : x.cb ≤ highest

-- the three figures of a segment are at most B
pub record AtMost (B : ℕ) (f : Figures) : Type 0 where
  pub c : f.c ≤ B
  pub z : f.z ≤ B
  pub w : f.w ≤ B
