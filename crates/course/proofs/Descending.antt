-- The descent of the river: at every segment the cursor has what document 01 says of that segment, and so has the site.
use mathlib.Core.Bool.{Bool, true, false, cond}
use mathlib.Core.List.{List}
use mathlib.Core.Path.{◌≡◌, refl, sym, ap, subst, ◌∙◌}
use Prim.Native.Nat.{ℕ, suc, ◌+◌, ◌-◌, ◌*◌, ◌^◌, ◌<◌, ◌≤◌}
use native.Mathlib.Numerals.{add-one}
use native.Mathlib.Omega.{arith}
use borrow.Author.Tests.{ne_eqb, eqb-false, lt-ltb, le-ltb}
use lib.Dec.{eqb}
use lib.IntN.{ℤ, pos, nat_abs, ◌+ℤ◌}
use lib.ListN.{length, get_or}
use Rattle.model.specs.Sheet as Sheet
use Rattle.model.specs.Sheet.{BandedReach, reach_count, reach_on, banded_on, banded_reaches, bands_on, total_segments, segment_count, along_river}
use Rattle.model.specs.Flow.{no_reach, course_of, top_of, reach_at, bands_at, own_gain, gain, flow_at}
use Rattle.model.specs.Bands.{hydraulics_at}
use Rattle.model.specs.HalfStep.{ad, natural, hydraulics_of, site_at}
use Rattle.model.proofs.Along.{total, river-length, total-segments}
use Rattle.terms.specs.Says.{reach_says, hydraulics_say}
use Rattle.terms.specs.declared.Reach.{Reach}
use Rattle.bands.specs.Bands.{Standing}
use Rattle.bands.specs.declared.place.Bands.{Bands}
use Rattle.bands.proofs.Banded.{HydraulicsWithin, standing-hydraulics, hydraulics-within}
use Rattle.sheet.proofs.Passed.{ReachWithin, Passed, passed}
use Rattle.halfstep.specs.Ranges.{Fit, InRange, Lateral, most_gain}
use Rattle.halfstep.specs.declared.Site as Held
use Rattle.halfstep.specs.Site.{site_says, Fields}
use Rattle.halfstep.proofs.Signed.{abs-sum, abs-gain}
use Rattle.halfstep.proofs.Sites.{ad_le}
use Rattle.course.specs.Segments.{Read, IsSegment}
use Rattle.course.specs.Descent.{course_from, before, Arrives, Arrived, At, number_below, reach_below, Lower, Below, site_from, Stands}
use Rattle.course.specs.declared.descent.Cursor.{Cursor}
use Rattle.course.proofs.Along.{reach_no, before-next, before-known, segment-reach, before-ge, count-reaches, reach-no}

-- the flow of a row at the top
pub course-same : (sheet : List ℕ) (row : ℕ) → course_from sheet (top_of sheet row) ≡ course_of sheet row
unfolding course_from course_of
course-same sheet row = refl

-- ---- what the sheet's own tests leave

-- of all its segments
pub read_all : {sheet : List ℕ} {n : ℕ} → Read sheet n → Read sheet (segment_count sheet)
read_all r = record { passed = r.passed; count = refl }

in_range : {r : Sheet.Reach} → ReachWithin r → InRange r
in_range w = record {
  segments = w.segments.low;
  alpha = w.alpha.high;
  qin = w.qin.high;
  qout = w.qout.high;
  rho = w.rho.high;
  kd = w.kd.high;
}

fit-within : {x : Sheet.Hydraulics} → HydraulicsWithin x → Fit x
fit-within w = record {
  dispersion = w.dispersion.high;
  area_low = w.area.low;
  area = w.area.high;
  area2_low = w.area2.low;
  area2 = w.area2.high;
}

module _ {sheet : List ℕ} {n : ℕ} (r : Read sheet n) where
  -- what the tests say of the sheet
  abbrev known : Passed sheet
  known = passed sheet r.passed

  -- at most 1,024 segments
  pub few : n ≤ 1024
  few = omega (arith, r.count, known.segments.high)

  -- reach k
  reach-within : (k : ℕ) → k < reach_count sheet → ReachWithin (reach_on sheet k)
  reach-within k h = known.reach k h

  pub lateral : (k : ℕ) → k < reach_count sheet → Lateral (reach_on sheet k) (Sheet.dx sheet)
  lateral k h =
      let w = reach-within k h in
      record { inflow = w.qin.high; outflow = w.qout.high; length = known.dx.high }

  -- A, D and AS of its segments, whatever the flow
  fit-reach : (k Q : ℕ) → k < reach_count sheet → Fit (hydraulics_at (bands_on sheet k) (reach_on sheet k) Q)
  fit-reach k Q h =
      let w = reach-within k h in
      fit-within (hydraulics-within (bands_on sheet k) (reach_on sheet k) Q (known.bands k h) (record { area = w.area; dispersion = w.dispersion; area2 = w.area2 }))

  -- as many reaches as segments at the most
  pub number-few : {top i : ℕ} {own : Reach} {at : Cursor} → At sheet top i own at → i < n → at.number < 1024
  number-few {top} {i} {own} {at} a h =
      let rs = banded_reaches sheet in
      let some : (j : ℕ) → j < length rs → 1 ≤ (reach_no rs j).reach.segments =
      λ j q. let l : j < reach_count sheet = rw (count-reaches sheet) at q in rw (reach-no sheet j l) (reach-within j l).segments.low in
      let many : at.number ≤ length rs = rw (count-reaches sheet) (omega (arith, a.known)) in
      omega (arith, a.place, few, before-ge rs at.number some many)

  -- ---- a segment of the course

  module _ (top : ℕ) {i number p : ℕ} (known-here : number < reach_count sheet) (within : p < (reach_on sheet number).segments)
      (place : i ≡ before (banded_reaches sheet) number + p) where
    -- its reach with the bands
    banded-here : get_or (along_river (banded_reaches sheet)) i no_reach ≡ banded_on sheet number
    banded-here =
        let rs = banded_reaches sheet in
        let inside : number < length rs = rw (count-reaches sheet) known-here in
        let few-passed : p < (reach_no rs number).reach.segments = rw (reach-no sheet number known-here) within in
        ap (λ k. get_or (along_river rs) k no_reach) place ∙ segment-reach rs number p inside few-passed ∙ reach-no sheet number known-here

    reach_here : reach_at (course_from sheet top) i ≡ reach_on sheet number
    unfolding course_from reach_at
    reach_here = ap (λ (x : BandedReach). x.reach) banded-here

    bands-here : bands_at (course_from sheet top) i ≡ bands_on sheet number
    unfolding course_from bands_at
    bands-here = ap (λ (x : BandedReach). x.bands) banded-here

  module _ {top i : ℕ} {own : Reach} {at : Cursor} (a : At sheet top i own at) where
    pub reach-at : reach_at (course_from sheet top) i ≡ reach_on sheet at.number
    reach-at = reach_here top a.known a.within a.place

    pub fit_at : Fit (hydraulics_of (course_from sheet top) i)
    unfolding hydraulics_of
    fit_at = rw (reach-at, bands-here top a.known a.within a.place) (fit-reach at.number _ a.known)

    -- its segments, and what its gain is worked out from
    pub segments-at : own.segments ≡ (reach_on sheet at.number).segments
    segments-at = ap (λ (y : Sheet.Reach). y.segments) a.reach

    pub lateral-at : Lateral (reach_says own) (Sheet.dx sheet)
    lateral-at = rw a.reach (lateral at.number a.known)

    pub small_at : i < n → nat_abs at.gain ≤ most_gain
    small_at h = omega (arith, a.small, few)

  -- ---- arriving at a segment

  module _ {top i number p : ℕ} {own : Reach} {table : Bands} {sum : ℤ} {at : Cursor}
      (x : Arrived sheet top (Sheet.dx sheet) number p own table sum at) (known-here : number < reach_count sheet)
      (within : p < (reach_on sheet number).segments) (place : i ≡ before (banded_reaches sheet) number + p) (is : reach_says own ≡ reach_on sheet number)
      (standing : Standing sheet number table) (gained : sum ≡ gain (course_from sheet top) i) where
    flow-here : at.flow ≡ flow_at (course_from sheet top) i
    unfolding course_from flow_at
    flow-here = x.flow_is ∙ rw (is, gained, reach_here top known-here within place)

    hydraulics-here : hydraulics_say at.hydraulics ≡ hydraulics_of (course_from sheet top) i
    unfolding hydraulics_of
    hydraulics-here =
        x.hydraulics_is
        ∙ standing-hydraulics standing (reach_says own) (natural at.flow)
        ∙ rw (is, flow-here, reach_here top known-here within place, bands-here top known-here within place)

    arrived-at : nat_abs sum ≤ i * 10 ^ 12 → At sheet top i own at
    arrived-at small = record {
      known = rw x.number_is known-here;
      within = rw (x.passed_is, x.number_is) within;
      place = rw (x.passed_is, x.number_is) place;
      reach = rw x.number_is is;
      sum = x.gain_is ∙ gained;
      small = rw x.gain_is small;
      flow = flow-here;
      hydraulics = hydraulics-here;
    }

  -- the first segment is in the first reach, since every reach has a segment
  first-number : {top : ℕ} {own : Reach} {at : Cursor} → At sheet top 0 own at → at.number ≡ 0
  first-number {top} {own} {at} a =
      let rs = banded_reaches sheet in
      let some : (j : ℕ) → j < length rs → 1 ≤ (reach_no rs j).reach.segments =
      λ j q. let l : j < reach_count sheet = rw (count-reaches sheet) at q in rw (reach-no sheet j l) (reach-within j l).segments.low in
      let many : at.number ≤ length rs = rw (count-reaches sheet) (omega (arith, a.known)) in
      omega (arith, a.place, before-ge rs at.number some many)

  -- at the first
  pub first-arrives : {own : Reach} {table : Bands} → reach_says own ≡ reach_on sheet 0 → Standing sheet 0 table → Arrives (Sheet.dx sheet) own (pos 0)
  first-arrives is standing = record { lateral = rw is (lateral 0 known.reach_counts.low); small = omega arith }

  pub first-at : {top : ℕ} {own : Reach} {table : Bands} {at : Cursor} → Arrived sheet top (Sheet.dx sheet) 0 0 own table (pos 0) at →
      reach_says own ≡ reach_on sheet 0 → Standing sheet 0 table → At sheet top 0 own at
  unfolding total_segments gain
  first-at x is standing = let some = known.reach_counts.low in arrived-at x some (reach-within 0 some).segments.low refl is standing refl (omega arith)

  -- what is known of the segment below, where it is the river's
  below_next : {top i : ℕ} {lower : Reach} {table : Bands} {at : Cursor} → suc i < n → At sheet top (suc i) lower at → Standing sheet at.number table →
      Below sheet top n i lower table at
  below_next {top} {i} h a standing = record { next = λ l. a; bands = λ l. standing; hydraulics = rw (ne_eqb (i + 1) n (λ e. omega arith)) a.hydraulics }

  -- at the segment below
  module _ {top i : ℕ} {own : Reach} {at : Cursor} (a : At sheet top i own at) {sum : ℤ} (gained : sum ≡ at.gain +ℤ own_gain (reach_says own) (Sheet.dx sheet))
      (more : suc i < n) where
    gain-next : sum ≡ gain (course_from sheet top) (suc i)
    unfolding gain course_from
    gain-next = gained ∙ rw (a.sum, a.reach, reach-at a)

    small-next : nat_abs sum ≤ suc i * 10 ^ 12
    small-next =
        let x = reach_says own in
        let l = lateral-at a in
        rw gained (omega (arith, a.small, abs-sum at.gain (own_gain x (Sheet.dx sheet)), abs-gain x (Sheet.dx sheet) l.inflow l.outflow l.length))

    arrives_in : {lower : Reach} {table : Bands} (number : ℕ) → number < reach_count sheet → reach_says lower ≡ reach_on sheet number → Standing sheet number table → Arrives (Sheet.dx sheet) lower sum
    arrives_in number h is standing = record { lateral = rw is (lateral number h); small = omega (arith, small-next, few) }

    -- which is one of the same reach
    module _ {lower : Reach} {table : Bands} (l : at.passed + 1 < own.segments) (is : reach_says lower ≡ reach_below sheet own at) (standing : Standing sheet (number_below own at) table) where
      same-is : reach_says lower ≡ reach_on sheet at.number
      same-is = rw (lt-ltb (at.passed + 1) own.segments l) at is ∙ a.reach

      same-standing : Standing sheet at.number table
      same-standing = rw (lt-ltb (at.passed + 1) own.segments l) at standing

      pub same_arrives : Arrives (Sheet.dx sheet) lower sum
      same_arrives = arrives_in at.number a.known same-is same-standing

      pub same-reach : {next : Cursor} → Arrived sheet top (Sheet.dx sheet) at.number (at.passed + 1) lower table sum next → Below sheet top n i lower table next
      same-reach x =
          below_next more (arrived-at x a.known (omega (arith, l, segments-at a)) (omega (arith, a.place)) same-is same-standing gain-next small-next)
          (rw x.number_is same-standing)

    -- or the first of the next
    module _ {lower : Reach} {table : Bands} (l : own.segments ≤ at.passed + 1) (is : reach_says lower ≡ reach_below sheet own at) (standing : Standing sheet (number_below own at) table) where
      abbrev rs : List BandedReach
      rs = banded_reaches sheet

      ended : suc i ≡ before rs (at.number + 1) + 0
      ended =
          let k = at.number in
          let inside : k < length rs = rw (count-reaches sheet) a.known in
          let segments = ap (λ (y : BandedReach). y.reach.segments) (reach-no sheet k a.known) in
          rw (add-one k) (omega (arith, a.place, a.within, segments-at a, before-next rs k inside, segments, l))

      there : at.number + 1 < reach_count sheet
      there =
          let left : before rs (at.number + 1) < total rs = rw (total-segments sheet) (omega (arith, ended, r.count)) in
          rw (count-reaches sheet) at (before-known rs (at.number + 1) left)

      next-is : reach_says lower ≡ reach_on sheet (at.number + 1)
      next-is = rw (le-ltb (at.passed + 1) own.segments l) at is

      next-standing : Standing sheet (at.number + 1) table
      next-standing = rw (add-one at.number) (rw (le-ltb (at.passed + 1) own.segments l) at standing)

      pub next-arrives : Arrives (Sheet.dx sheet) lower sum
      next-arrives = arrives_in (at.number + 1) there next-is next-standing

      pub next-reach : {next : Cursor} → Arrived sheet top (Sheet.dx sheet) (at.number + 1) 0 lower table sum next → Below sheet top n i lower table next
      next-reach x =
          below_next more (arrived-at x there (reach-within (at.number + 1) there).segments.low ended next-is next-standing gain-next small-next)
          (rw x.number_is next-standing)

  -- ---- the site

  -- the last segment is the last of all reaches together
  last-at : (top i : ℕ) → eqb (i + 1) n ≡ eqb (suc i) (length (course_from sheet top).river)
  unfolding course_from
  last-at top i = rw (river-length, total-segments sheet, ← r.count, add-one)

  -- its steps are the sheet's
  step-dt : (top : ℕ) → (course_from sheet top).dt ≡ Sheet.dt sheet
  unfolding course_from
  step-dt top = refl

  step-dx : (top : ℕ) → (course_from sheet top).dx ≡ Sheet.dx sheet
  unfolding course_from
  step-dx top = refl

  -- at the top: above the first segment "its own is used"
  pub stands-first : {top above : ℕ} {own : Reach} {table : Bands} {at : Cursor} → At sheet top 0 own at → Standing sheet 0 table →
      above ≡ ad (hydraulics_say at.hydraulics) → Stands sheet top 0 own table at above
  stands-first {top} {above} {own} {table} {at} a standing e =
      let same = e ∙ ap ad a.hydraulics in
      record { at = a; bands = rw (first-number a) standing; above_is = same; above_most = rw same (ad_le (fit_at a)) }

  -- one turn of a descent: from what stands at segment i, the reach and the bands below, the segment below and the site
  module _ {top i above : ℕ} {own : Reach} {table : Bands} {here : Cursor} (less : i < n) (s : Stands sheet top i own table here above) where
    -- what is asked for them
    pub passed-less : here.passed < own.segments
    passed-less = omega (arith, segments-at s.at, s.at.within)

    module _ {lower : Reach} {lower_table : Bands} {below : Cursor} (b : Below sheet top n i lower lower_table below) where
      fit-below : (last : Bool) → eqb (i + 1) n ≡ last → Fit (hydraulics_of (course_from sheet top) (cond last i (suc i)))
      fit-below true e = fit_at s.at
      fit-below false e = fit_at (b.next (omega (arith, less, eqb-false (i + 1) n e)))

      module _ {u time : ℕ} {site : Held.Site} (made : site_says site ≡ site_from here own above u (eqb (i + 1) n) time (Sheet.dx sheet)) (t : time ≡ Sheet.dt sheet)
          (under : u ≡ ad (hydraulics_say below.hydraulics)) where
        site-same : site_says site ≡ site_at (course_from sheet top) i
        unfolding site_at
        site-same =
            let own = s.at.reach ∙ sym (reach-at s.at) in
            let below-is : u ≡ ad (hydraulics_of (course_from sheet top) (cond (eqb (suc i) (length (course_from sheet top).river)) i (suc i))) =
            under ∙ ap ad b.hydraulics ∙ ap (λ l. ad (hydraulics_of (course_from sheet top) (cond l i (suc i)))) (last-at top i) in
            let time-is = t ∙ sym (step-dt top) in
            made ∙ (λ j. record {
              own = own j;
              hydraulics = s.at.hydraulics j;
              above = s.above_is j;
              below = below-is j;
              flow = s.at.flow j;
              last = last-at top i j;
              dt = time-is j;
              dx = sym (step-dx top) j;
            })

        pub stood : IsSegment (course_from sheet top) i site
        stood = record {
          same = site-same;
          fields = subst Fields (sym made) (record {
            ranges = subst InRange (sym s.at.reach) (in_range (reach-within here.number s.at.known));
            fit = subst Fit (sym s.at.hydraulics) (fit_at s.at);
            steps = rw t (record { time = known.dt.high; length_low = known.dx.low; length = known.dx.high });
            above = s.above_most;
            below = rw under (subst (λ x. ad x ≤ 10 ^ 12) (sym b.hydraulics) (ad_le (fit-below (eqb (i + 1) n) refl)));
          });
        }

      -- and stands at the next segment
      pub goes_on : {v : ℕ} → v ≡ ad (hydraulics_say here.hydraulics) → i + 1 < n → Stands sheet top (i + 1) lower lower_table below v
      goes_on {v} e h =
          let l : suc i < n = omega arith in
          let back : suc i - 1 ≡ i = omega arith in
          let same = e ∙ ap ad s.at.hydraulics in
          rw (add-one i)
          (record { at = b.next l; bands = b.bands l; above_is = rw back same; above_most = rw same (ad_le (fit_at s.at)) })

-- the segment of the sheet's course with the flow of a row
pub on-course : {top i : ℕ} {site : Held.Site} (sheet : List ℕ) (row : ℕ) → top ≡ top_of sheet row → IsSegment (course_from sheet top) i site → IsSegment (course_of sheet row) i site
on-course {top} {i} {site} sheet row e s = subst (λ c. IsSegment c i site) (ap (course_from sheet) e ∙ course-same sheet row) s
