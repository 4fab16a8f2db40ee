-- `flows_test` meets its contract: the test passes for every flow before this one. Assumes nothing.
use Rattle.model.specs.Flow.{course_of}
use Rattle.model.specs.HalfStep.{site_at}
use Rattle.model.specs.Sheet.{flow_row_count}
use Rattle.model.specs.Refusals.{segment, test_each}
use Rattle.course.specs.Segments.{site_fault}
use Rattle.course.specs.Tests.{test_number}
use Rattle.course.proofs.Flows.{InTurn}
use Rattle.course.proofs.flows_test.Given as goal

abbrev pub invariant-loop-row : goal.invariant-loop-row
invariant-loop-row l = InTurn (flow_row_count l.sheet) (λ r. test_each (test_number l.test) segment l.n (λ i. site_fault (test_number l.test) (site_at (course_of l.sheet r) i))) l.row
