-- A segment as the code has it, and what its half-step numbers want of it.
use Rattle.std.specs.Prelude.{false, ◌≡◌, ℕ, ◌+◌, ◌^◌, ◌≤◌, min}
use Rattle.rounding.specs.Nearest.{S}
use Rattle.model.specs.HalfStep.{Site, Numbers}
use Rattle.model.specs.Load.{flow_fault, face_fault, sum_fault}
use Rattle.terms.specs.Says.{reach_says, hydraulics_say}
use Rattle.halfstep.specs.Ranges.{Fit, InRange, Steps}
use Rattle.halfstep.specs.declared.Site as Code

-- the site of the definitions
abbrev pub site_says : Code.Site → Site
site_says site = record {
  own = reach_says site.own;
  hydraulics = hydraulics_say site.hydraulics;
  above = site.above;
  below = site.below;
  flow = site.flow;
  last = site.last;
  dt = site.dt;
  dx = site.dx;
}

-- a number as the code gives it: one part above one whole stands for all that is more
abbrev pub cut : ℕ → ℕ
cut x = min x (S + 1)

-- the segment's fields are in their ranges
pub record Fields (site : Site) : Type 0 where
  pub ranges : InRange site.own
  pub fit : Fit site.hydraulics
  pub steps : Steps site.dt site.dx
  pub above : site.above ≤ 10 ^ 12
  pub below : site.below ≤ 10 ^ 12

-- tests 10 and 11 pass
pub record Passes (site : Site) : Type 0 where
  pub fields : Fields site
  pub flow : flow_fault site ≡ false
  pub face : face_fault site ≡ false

-- numbers that stand for the exact ones, which may be wider than 32 bits: the same wherever test 12 passes those, and refused
-- wherever it refuses them
pub record StandFor (given exact : Numbers) : Type 0 where
  pub fault : sum_fault given ≡ sum_fault exact
  pub same : sum_fault exact ≡ false → given ≡ exact
