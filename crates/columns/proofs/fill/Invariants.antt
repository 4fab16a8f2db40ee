-- `fill` meets its contract: the descent stands at segment i, and the segments above are written. Assumes nothing.
use Rattle.model.specs.Flow.{course_of, top_of}
use Rattle.terms.specs.Lent.{columns_lent, SameColumns}
use Rattle.course.specs.Walk.{StandsAt}
use Rattle.columns.proofs.Writing.{Writing}
use Rattle.columns.proofs.fill.Given as goal

abbrev pub invariant-loop-i : goal.invariant-loop-i
invariant-loop-i l = record {
  stands : StandsAt l.sheet (top_of l.sheet l.row) l.n l.i l.descent;
  same : SameColumns l.initial.columns l.columns;
  written : Writing (course_of l.sheet l.row) (columns_lent l.initial.columns) l.i (columns_lent l.columns);
}
