-- `Row::pass` meets its contract: the row is fit, so that H is at least one whole, and at most two.
use native.Mathlib.Omega.{arith}
use Rattle.sweep_laws.proofs.Passes.{row_fits}
use Rattle.segment.proofs.Row.pass.Goals as goal

pub overflow_sub-h : goal.overflow_sub-h
overflow_sub-h c = rw (c.nearest.ensures, c.from-e.ensures) (omega (arith, row_fits _ _ c.requires.fit c.requires.stable))

pub nearest_tried-requires : goal.nearest_tried-requires
nearest_tried-requires c =
    let pre = c.requires in
    let fits = row_fits _ _ pre.fit pre.stable in
    rw (c.nearest.ensures, c.from-e.ensures) (omega (arith, fits), omega (arith, pre.fit.most), omega (arith, pre.fit.small))

pub nearest-requires-2 : goal.nearest-requires-2
nearest-requires-2 c = rw (c.nearest.ensures, c.from-e.ensures) (omega (arith, row_fits _ _ c.requires.fit c.requires.stable))
