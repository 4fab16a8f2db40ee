-- `course_test` meets its contract: the descent stands at segment i, and no segment above is at fault. Assumes nothing.
use Rattle.lists.proofs.Lowest.{Searching}
use Rattle.model.specs.Flow.{course_of, top_of}
use Rattle.model.specs.HalfStep.{site_at}
use Rattle.course.specs.Segments.{site_fault}
use Rattle.course.specs.Tests.{test_number}
use Rattle.course.specs.Walk.{StandsAt}
use Rattle.course.proofs.course_test.Given as goal

abbrev pub invariant-loop-i : goal.invariant-loop-i
invariant-loop-i l = record {
  stands : StandsAt l.sheet (top_of l.sheet l.row) l.n l.i l.descent;
  clear : Searching (λ k. site_fault (test_number l.test) (site_at (course_of l.sheet l.row) k)) l.n l.i;
}
