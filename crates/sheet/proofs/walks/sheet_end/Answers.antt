use mathlib.Core.Path.{◌∙◌}
use Prim.Native.Nat.{◌<◌}
use native.Mathlib.Omega.{arith}
use lib.ListN.{length}
use Rattle.model.specs.Ranges.{band_section}
use Rattle.model.specs.Sheet.{sections, sheet_end}
use Rattle.model.proofs.Refusals.{fails-passes}
use Rattle.limits.specs.Says.{section_says}
use Rattle.sheet.proofs.Walking.{ending-on, ending-end, walking-short, walking-pass}
use Rattle.sheet.proofs.walks.sheet_end.Goals as goal

pub returns-then-sheet-at : goal.returns-then-sheet-at
returns-then-sheet-at c =
    λ walked. fails-passes (walking-short (c.loop-k.invariant.1 walked) band_section (omega (arith, c.section_count-k-end.ensures.0)) c.if-sheet-at.true ∙ walked)

pub loop-k-preserved : goal.loop-k-preserved
loop-k-preserved c =
    let i = c.loop-k.invariant in
    let h : c.loop-k.k < length (sections c.args.sheet.now) = omega (arith, c.section_count-k-end.ensures.0) in
    let e = c.section_of.ensures.0 c.args.sheet.now h in (
      rw c.section_end-at.ensures.0 (ending-on i.0 band_section h (section_says c.section_of.result) e),
      λ walked. rw c.section_end-at.ensures.0 (walking-pass (i.1 walked) band_section h (section_says c.section_of.result) e walked).1,
      omega (arith, c.section_end-at.ensures.1, c.if-sheet-at.false),
    )

pub returns : goal.returns
unfolding sheet_end
returns c = λ walked. ending-end c.loop-k.invariant.0 (omega (arith, c.section_count-k-end.ensures.0))
