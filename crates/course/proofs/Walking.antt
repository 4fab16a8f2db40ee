-- A descent that a loop goes on with: at turn i it stands at segment i of the river with a row's flow.
use mathlib.Core.Path.{ap, subst, ◌∙◌}
use mathlib.Core.List.{List}
use Prim.Native.Nat.{ℕ, ◌+◌}
use Rattle.model.specs.Flow.{course_of, top_of}
use Rattle.halfstep.specs.declared.Site.{Site}
use Rattle.course.specs.Segments.{IsSegment}
use Rattle.course.specs.Descent.{course_from}
use Rattle.course.specs.Walk.{StandsAt}
use Rattle.course.specs.declared.descent.Descent.{Descent}
use Rattle.course.proofs.Descending.{on-course}

module _ {sheet : List ℕ} {top n i : ℕ} {x : Descent} (s : StandsAt sheet top n i x) where
  -- it has gone on to the next
  pub goes-down : {below : Descent} → StandsAt x.course.sheet.now x.course.top x.n (x.i + 1) below → StandsAt sheet top n (i + 1) below
  goes-down b = record {
    descends = b.descends;
    sheet_is = b.sheet_is ∙ s.sheet_is;
    top_is = b.top_is ∙ s.top_is;
    count_is = b.count_is ∙ s.count_is;
    place_is = b.place_is ∙ ap (λ j. j + 1) s.place_is;
  }

-- the site that it has given
pub site-of : {sheet : List ℕ} (row : ℕ) {n i : ℕ} {x : Descent} {site : Site} → StandsAt sheet (top_of sheet row) n i x →
    IsSegment (course_from x.course.sheet.now x.course.top) x.i site → IsSegment (course_of sheet row) i site
site-of {sheet} row {i = i} {x = x} {site = site} s given =
    on-course sheet row s.top_is (subst (λ j. IsSegment (course_from sheet x.course.top) j site) s.place_is
    (subst (λ l. IsSegment (course_from l x.course.top) x.i site) s.sheet_is given))
