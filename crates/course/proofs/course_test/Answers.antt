use mathlib.Core.Path.{sym, ◌∙◌}
use Prim.Native.Nat.{◌≤◌}
use native.Mathlib.Omega.{arith}
use Rattle.lists.proofs.Lowest.{searching-start, searching-miss}
use Rattle.model.specs.Refusals.{segment}
use Rattle.sheet.proofs.Tests.{each-found, each-clear}
use Rattle.course.specs.Tests.{test_number}
use Rattle.course.specs.declared.SegmentTest.{SegmentTest}
use Rattle.course.proofs.Descending.{few}
use Rattle.course.proofs.River.{clear-site, site-fault}
use Rattle.course.proofs.Walking.{goes-down, site-of}
use Rattle.course.proofs.course_test.Goals as goal

ten : (test : SegmentTest) → 10 ≤ test_number test
ten SegmentTest.Flow = omega arith
ten SegmentTest.Face = omega arith
ten SegmentTest.HalfStepSum = omega arith

pub loop-i-init : goal.loop-i-init
loop-i-init c = record { stands = c.first-descent.ensures; clear = searching-start }

pub finds-requires : goal.finds-requires
finds-requires c =
    clear-site (site-of _ c.loop-i.invariant.stands c.next_site-site.ensures.segment) (ten _) c.requires.1 c.loop-i-test.true

pub overflow_cast-i : goal.overflow_cast-i
overflow_cast-i c = omega (arith, few c.requires.0, c.loop-i-test.true)

pub overflow_add-i : goal.overflow_add-i
overflow_add-i c = omega (arith, few c.requires.0, c.loop-i-test.true)

pub returns-then-finds : goal.returns-then-finds
returns-then-finds c =
    let found = sym (site-fault (site-of _ c.loop-i.invariant.stands c.next_site-site.ensures.segment) _) ∙ sym c.finds.ensures ∙ c.if-finds.true in
    rw (c.at.ensures, c.fault.ensures) (each-found _ segment c.loop-i.invariant.clear c.loop-i-test.true found)

pub loop-i-preserved : goal.loop-i-preserved
loop-i-preserved c = record {
  stands = goes-down c.loop-i.invariant.stands c.next_site-site.ensures.below;
  clear = searching-miss c.loop-i.invariant.clear c.loop-i-test.true
      (sym (site-fault (site-of _ c.loop-i.invariant.stands c.next_site-site.ensures.segment) _) ∙ sym c.finds.ensures ∙ c.if-finds.false);
}

pub returns : goal.returns
returns c = each-clear _ segment c.loop-i.invariant.clear c.loop-i-test.false
