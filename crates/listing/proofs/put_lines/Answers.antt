-- `put_lines` meets its contract: an accepted sheet's interval is no 0.
use native.Mathlib.Omega.{arith}
use Rattle.own_river_laws.proofs.Sheets.{interval-some}
use Rattle.listing.proofs.Gauges.{due, none-due}
use Rattle.listing.proofs.put_lines.Goals as goal

pub nonzero_rem-river : goal.nonzero_rem-river
nonzero_rem-river c = omega (arith, c.interval.ensures, interval-some _ c.requires.passed)

pub returns-then-river-interval-eq0 : goal.returns-then-river-interval-eq0
returns-then-river-interval-eq0 c = due _ _ (rw c.interval.ensures at c.if-river-interval-eq0.true) c.put_gauges.ensures

pub returns-else-river-interval-eq0 : goal.returns-else-river-interval-eq0
returns-else-river-interval-eq0 c = none-due _ _ (rw c.interval.ensures at c.if-river-interval-eq0.false)
