use mathlib.Core.Path.{◌≡◌}
use Prim.Native.Nat.{◌<◌}
use native.Mathlib.Numerals.{add-one}
use native.Mathlib.Omega.{arith}
use Rattle.model.specs.Sheet.{gauge_count}
use Rattle.output.proofs.Lines.{lines_none, lines_then}
use Rattle.listing.proofs.Gauges.{lines_start, lines_more, lines-all, gauge-within, line-is}
use Rattle.listing.proofs.put_gauges.Goals as goal

pub loop-j-init : goal.loop-j-init
loop-j-init c = rw lines_start lines_none

pub put_gauge-requires : goal.put_gauge-requires
put_gauge-requires c =
    let h : c.loop-j.j < gauge_count c.args.sheet.now = omega (arith, c.loop-j-test.true, c.gauge_count-j-end.ensures) in
    rw c.gauge.ensures (gauge-within _ _ _ c.requires c.loop-j.j h)

pub loop-j-preserved : goal.loop-j-preserved
loop-j-preserved c =
    let h : c.loop-j.j < gauge_count c.args.sheet.now = omega (arith, c.loop-j-test.true, c.gauge_count-j-end.ensures) in
    let line = rw (c.gauge.ensures, line-is _ _ _ c.requires c.loop-j.j h) at c.put_gauge.ensures in
    rw (add-one, lines_more) (lines_then c.loop-j.invariant line)

pub returns : goal.returns
returns c =
    let all : c.loop-j.j ≡ gauge_count c.args.sheet.now = omega (arith, c.gauge_count-j-end.ensures) in
    rw (all, lines-all) at c.loop-j.invariant
