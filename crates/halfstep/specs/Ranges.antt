-- What tests 5, 6 and 19 leave of a sheet, as far as the half-step numbers need it.
use Rattle.std.specs.Prelude.{ℕ, ◌*◌, ◌^◌, ◌≤◌}
use Rattle.model.specs.Ranges.{areas, dispersions, flows, rates, most_kd}
use Rattle.model.specs.Sheet.{Reach, Hydraulics}

-- A, D and AS in their ranges
pub record Fit (x : Hydraulics) : Type 0 where
  pub dispersion : x.dispersion ≤ dispersions.high
  pub area_low : areas.low ≤ x.area
  pub area : x.area ≤ areas.high
  pub area2_low : areas.low ≤ x.area2
  pub area2 : x.area2 ≤ areas.high

-- the other fields of a reach in their ranges, as far as they are asked for
pub record InRange (r : Reach) : Type 0 where
  pub segments : 1 ≤ r.segments
  pub alpha : r.alpha ≤ rates.high
  pub qin : r.qin ≤ flows.high
  pub qout : r.qout ≤ flows.high
  pub rho : r.rho ≤ 1000000
  pub kd : r.kd ≤ most_kd

-- dt and dx in their ranges
pub record Steps (dt dx : ℕ) : Type 0 where
  pub time : dt ≤ 3600
  pub length_low : 10 ≤ dx
  pub length : dx ≤ 10000

-- what a segment's own gain is worked out from
pub record Lateral (r : Reach) (dx : ℕ) : Type 0 where
  pub inflow : r.qin ≤ flows.high
  pub outflow : r.qout ≤ flows.high
  pub length : dx ≤ 10000

-- the largest net gain, either way, that a descent may carry: that of 65,536 segments
abbrev pub most_gain : ℕ
most_gain = 65536 * 10 ^ 12
