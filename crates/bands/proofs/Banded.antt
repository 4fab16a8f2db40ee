-- Laws of the bands of a reach: where they stand on a sheet that the walk passed, and what test 19 leaves of A, D and AS.
use mathlib.Core.Path.{◌≡◌, refl, sym, ap, ◌∙◌}
use mathlib.Core.Bool.{Bool, true, false, true≢false, cond, ◌||◌}
use mathlib.Core.List.{List}
use Prim.Native.Nat.{ℕ, suc, ◌+◌, ◌*◌, ◌<◌, ◌≤◌}
use native.Mathlib.Omega.{arith}
use borrow.Author.Tests.{lt-ltb, le-ltb, ltb-true}
use lib.Dec.{leb, ltb}
use lib.ListN.{length}
use Rattle.lists.specs.Lists.{lowest_from, lowest}
use Rattle.lists.proofs.Lowest.{Searching, searching-hit, searching-end}
use Rattle.lists.proofs.Shorter.{neither}
use Rattle.model.specs.Ranges.{outside, flows, areas, dispersions, band_section}
use Rattle.model.specs.Sheet.{Reach, Hydraulics, Band, Bands, edition, field, record_field, section_end, reach_count, band_count_at, band_count, bands_from, bands_on}
use Rattle.model.specs.Bands.{holds, hydraulics_at, band_fault, bands_fault, own_hydraulics}
use Rattle.model.proofs.Bands.{unbroken}
use Rattle.sheet.specs.Walks.{Walked}
use Rattle.bands.specs.Bands.{count_on, bands_say, Standing}
use Rattle.bands.specs.declared.place.Bands as Code
use Rattle.sheet.proofs.InRange.{Within, within}
use Rattle.sheet.proofs.BandSections.{band-next, band-complete}

-- ---- what is read as the bands of reach i

-- field k of band j
pub band-field : (sheet : List ℕ) (at j k : ℕ) {place : ℕ} → place ≡ at + 4 + 20 * j + 4 * k → field sheet place ≡ record_field sheet at band_section j k
unfolding record_field
band-field sheet at j k e = let q : at + 4 + 20 * j + 4 * k ≡ at + 4 + 4 * (5 * j + k) = omega arith in ap (field sheet) (e ∙ q)

-- where they end
pub band-end : (sheet : List ℕ) (at : ℕ) {count : ℕ} → count ≡ field sheet at → at + 4 + 20 * count ≡ section_end sheet at band_section
unfolding section_end
band-end sheet at e = rw e (omega arith)

-- the bands of the first reach
pub standing-first : {sheet : List ℕ} {bands : Code.Bands} → (leb 3 (edition sheet) ≡ true → bands.at ≡ band_count_at sheet 0) →
    bands.count ≡ count_on sheet bands.at → Standing sheet 0 bands
unfolding band_count
standing-first {sheet} {bands} place count = record { count = count ∙ go (leb 3 (edition sheet)) refl; at = place }
  where
    go : (t : Bool) → leb 3 (edition sheet) ≡ t → cond t (field sheet bands.at) 0 ≡ cond t (field sheet (band_count_at sheet 0)) 0
    go true e = ap (field sheet) (place e)
    go false e = refl

-- on a sheet without bands those of every reach are none
pub standing-still : {sheet : List ℕ} {i : ℕ} {bands : Code.Bands} → Standing sheet i bands → leb 3 (edition sheet) ≡ false → Standing sheet (suc i) bands
unfolding band_count
standing-still s e = record {
  count = rw e (rw e at s.count);
  at = λ t. absurd (true≢false (sym t ∙ e));
}

-- the bands of the reach below
pub standing-next : {sheet : List ℕ} {i : ℕ} {bands next : Code.Bands} → Standing sheet i bands → leb 3 (edition sheet) ≡ true → i < reach_count sheet →
    next.at ≡ section_end sheet bands.at band_section → next.count ≡ field sheet next.at → Standing sheet (suc i) next
unfolding band_count
standing-next {sheet} {i} s e h place count =
    let here = place ∙ ap (λ k. section_end sheet k band_section) (s.at e) in
    let next = here ∙ sym (band-next sheet e i h) in
    record { count = rw e (count ∙ ap (field sheet) next); at = λ t. next }

-- they stand on the sheet
pub next-near : {sheet : List ℕ} {i : ℕ} {bands : Code.Bands} → Standing sheet i bands → leb 3 (edition sheet) ≡ true → i < reach_count sheet → Walked sheet →
    section_end sheet bands.at band_section ≤ length sheet
next-near {sheet} {i} s e h w = rw (s.at e) (band-complete sheet e i h w).ends

-- a count of 0 is a count of 0, wherever it stands
same-bands : (sheet : List ℕ) (at i : ℕ) (t : Bool) → leb 3 (edition sheet) ≡ t → (leb 3 (edition sheet) ≡ true → at ≡ band_count_at sheet i) →
    {A : Type 0} (f : Bands → A) → ((x y : Bands) → x.count ≡ 0 → y.count ≡ 0 → f x ≡ f y) → f (bands_from sheet (band_count sheet i) at) ≡ f (bands_on sheet i)
unfolding band_count bands_on
same-bands sheet at i true e place f none = ap (λ k. f (bands_from sheet (band_count sheet i) k)) (place e)
same-bands sheet at i false e place f none = none _ _ (rw e) (rw e)

module _ {sheet : List ℕ} {i : ℕ} {bands : Code.Bands} (s : Standing sheet i bands) where
  -- A, D and AS at a flow
  pub standing-hydraulics : (reach : Reach) (Q : ℕ) → hydraulics_at (bands_say sheet bands) reach Q ≡ hydraulics_at (bands_on sheet i) reach Q
  unfolding hydraulics_at lowest lowest_from
  standing-hydraulics reach Q =
      rw s.count
      (same-bands sheet bands.at i _ refl s.at (λ x. hydraulics_at x reach Q) (λ x y a b. rw (a, b)))

  -- 19
  pub standing-fault : bands_fault (bands_say sheet bands) ≡ bands_fault (bands_on sheet i)
  unfolding bands_fault
  standing-fault = rw s.count (same-bands sheet bands.at i _ refl s.at bands_fault (λ x y a b. rw (a, b)))

-- ---- a loop over bands that looks for the one which holds a flow

module _ (bands : Bands) (reach : Reach) (Q j : ℕ) (r : Searching (λ k. holds (bands.band k) Q) bands.count j) where
  pub hydraulics-found : j < bands.count → holds (bands.band j) Q ≡ true → (bands.band j).hydraulics ≡ hydraulics_at bands reach Q
  unfolding hydraulics_at
  hydraulics-found h e = rw (← searching-hit r h e, lt-ltb j bands.count h)

  pub hydraulics-none : bands.count ≤ j → own_hydraulics reach ≡ hydraulics_at bands reach Q
  unfolding hydraulics_at
  hydraulics-none h = rw (← searching-end r h, le-ltb j bands.count h)

-- ---- what test 19 leaves

pub record HydraulicsWithin (x : Hydraulics) : Type 0 where
  pub area : Within areas x.area
  pub dispersion : Within dispersions x.dispersion
  pub area2 : Within areas x.area2

-- no band is out of range
band-within : (band : Band) → band_fault band ≡ false → HydraulicsWithin band.hydraulics
unfolding band_fault
band-within band e =
    let x = band.hydraulics in
    let ends = outside flows band.lowest || outside flows band.highest in
    let three = ends || outside areas x.area in
    let four = three || outside dispersions x.dispersion in
    let five = four || outside areas x.area2 in
    let a = neither five _ e in
    let b = neither four _ a.0 in
    let d = neither three _ b.0 in
    record { area = within _ _ (neither ends _ d.0).1; dispersion = within _ _ d.1; area2 = within _ _ b.1 }

-- A, D and AS at any flow are in their ranges
pub hydraulics-within : (bands : Bands) (reach : Reach) (Q : ℕ) → bands_fault bands ≡ false → HydraulicsWithin (own_hydraulics reach) →
    HydraulicsWithin (hydraulics_at bands reach Q)
unfolding hydraulics_at
hydraulics-within bands reach Q e own = go (ltb j bands.count) refl
  where
    j : ℕ
    j = lowest bands.count (λ k. holds (bands.band k) Q)

    go : (t : Bool) → ltb j bands.count ≡ t → HydraulicsWithin (cond t (bands.band j).hydraulics (own_hydraulics reach))
    go true l = band-within (bands.band j) (unbroken bands e j (ltb-true _ _ l)).alone
    go false l = own
