-- Tests 10 to 12 of a segment by their numbers, and what the tests before leave for them.
use Rattle.std.specs.Prelude.{Bool, false, cond, List, ◌≡◌, ℕ, ◌<◌, ◌≤◌, eqb}
use Rattle.model.specs.Sheet.{segment_count, flow_row_count}
use Rattle.model.specs.Flow.{Course, course_of}
use Rattle.model.specs.HalfStep.{Site, site_at, numbers}
use Rattle.model.specs.Load.{flow_fault, face_fault, sum_fault, sheet_tests}
use Rattle.model.specs.Refusals.{passes, first}
use Rattle.halfstep.specs.Site.{site_says, Fields}
use Rattle.halfstep.specs.declared.Site as Code

-- test 10, 11 or 12 finds this segment at fault
unfoldable pub site_fault : (number : ℕ) → Site → Bool
site_fault number site =
    cond (eqb number 10) (flow_fault site)
    (cond (eqb number 11) (face_fault site)
    (sum_fault (numbers site)))

-- tests 10 to the one before `number` do not, and its fields are in their ranges
pub record ClearSite (number : ℕ) (site : Site) : Type 0 where
  pub low : 10 ≤ number
  pub fields : Fields site
  pub each : (k : ℕ) → 10 ≤ k → k < number → site_fault k site ≡ false

-- they find none of n segments at fault
pub record Clear (number n : ℕ) (course : Course) : Type 0 where
  pub each : (k : ℕ) → 10 ≤ k → k < number → (i : ℕ) → i < n → site_fault k (site_at course i) ≡ false

-- and that with the top flow and with the flow of every row
pub record ClearFlows (number n : ℕ) (sheet : List ℕ) : Type 0 where
  pub each : (row : ℕ) → row ≤ flow_row_count sheet → Clear number n (course_of sheet row)

-- the sheet's own tests pass, and the river has n segments
pub record Read (sheet : List ℕ) (n : ℕ) : Type 0 where
  pub passed : first (sheet_tests sheet) ≡ passes
  pub count : n ≡ segment_count sheet

-- the site is segment i of the river, and its fields are in their ranges
pub record IsSegment (course : Course) (i : ℕ) (site : Code.Site) : Type 0 where
  pub same : site_says site ≡ site_at course i
  pub fields : Fields (site_says site)
