-- What the tests leave for the lists to be written.
use Rattle.std.specs.Prelude.{List, ℕ}
use Rattle.model.specs.Sheet.{segment_count}
use Rattle.model.specs.Flow.{course_of}
use Rattle.model.specs.State.{Columns}
use Rattle.terms.specs.Lent.{Long}
use Rattle.course.specs.Segments.{Clear, Read}

-- tests 1 to 9, 16 and 19 pass, 10 to 12 find no segment at fault with the row's flow, and each list has an entry for each segment
pub record Fit (sheet : List ℕ) (row : ℕ) (x : Columns) : Type 0 where
  pub read : Read sheet (segment_count sheet)
  pub clear : Clear 13 (segment_count sheet) (course_of sheet row)
  pub long : Long (segment_count sheet) x
