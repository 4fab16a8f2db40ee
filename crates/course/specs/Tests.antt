-- The documents' numbers of the tests that look at each segment.
use Rattle.std.specs.Prelude.{ℕ}
use Rattle.course.specs.declared.SegmentTest.{SegmentTest}

abbrev pub test_number : SegmentTest → ℕ
test_number SegmentTest.Flow = 10
test_number SegmentTest.Face = 11
test_number SegmentTest.HalfStepSum = 12
