-- A descent as the code holds it: where it stands, and what it has there.
use Rattle.std.specs.Prelude.{List, ◌≡◌, ℕ, ◌<◌}
use Rattle.model.specs.Sheet as Sheet
use Rattle.course.specs.Segments.{Read}
use Rattle.course.specs.Descent.{Stands}
use Rattle.course.specs.declared.descent.Descent as Code

-- of a sheet of n segments that its own tests pass; where segments are left, it stands at the next of them
pub record Descends (x : Code.Descent) : Type 0 where
  pub read : Read x.course.sheet.now x.n
  pub time : x.course.dt ≡ Sheet.dt x.course.sheet.now
  pub length : x.course.dx ≡ Sheet.dx x.course.sheet.now
  pub stands : x.i < x.n → Stands x.course.sheet.now x.course.top x.i x.own x.bands x.here x.above

-- it is this sheet's, with this flow at the top and n segments, and has come to segment i
pub record StandsAt (sheet : List ℕ) (top n i : ℕ) (x : Code.Descent) : Type 0 where
  pub descends : Descends x
  pub sheet_is : x.course.sheet.now ≡ sheet
  pub top_is : x.course.top ≡ top
  pub count_is : x.n ≡ n
  pub place_is : x.i ≡ i
