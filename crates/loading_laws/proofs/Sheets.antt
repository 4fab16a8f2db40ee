-- What a sheet that passed its own tests is known for: a segment at the least, not too many, and reaches whose figures a start accepts.
use mathlib.Core.Path.{◌≡◌, refl, ap, ◌∙◌}
use mathlib.Core.Bool.{Bool, true, false, cond}
use mathlib.Core.List.{List, [], ◌∷◌, ◌++◌}
use Prim.Native.Nat.{ℕ, zero, suc, ◌+◌, ◌-◌, ◌<◌, ◌≤◌}
use native.Mathlib.Omega.{arith}
use borrow.Author.Tests.{ltb-true, ltb-false}
use lib.Dec.{ltb, lit<}
use lib.ListN.{length, get_or, replicate, length-replicate, get_or-replicate, get_or-append}
use lib.Seq.{get_or-append-add}
use Rattle.lists.proofs.Tab.{length-tab, get_or-tab}
use Rattle.lists.proofs.Shorter.{neither}
use Rattle.model.specs.Ranges.{Range, ◌to◌, Section, outside, any_outside, concentration, reach_ranges, reach_section, most_kd, most_segments}
use Rattle.model.specs.Sheet.{Reach, BandedReach, edition, sections, field, reach_count_at, reach_count, reach_fields, reach_of, reach_on, banded_on, banded_reaches, total_segments, segment_count, along_river}
use Rattle.model.specs.Flow.{no_reach, course_of, reach_at}
use Rattle.model.specs.Refusals.{nothing, reach, Finding, passes, fails, first}
use Rattle.model.specs.Load.{walk, sheet_tests}
use Rattle.model.proofs.Along.{total, river-length, total-segments}
use Rattle.model.proofs.Ranges.{inside}
use Rattle.model.proofs.Refusals.{fails-passes, all_pass, test-clear, each-clear}

-- ---- what a reach that passed test 6 is known for

-- field k of fields that are all in range
pub field-inside : (ranges : List Range) (fields : List ℕ) (k : ℕ) → any_outside ranges fields ≡ false → k < length ranges → k < length fields →
    outside (get_or ranges k (0 to 0)) (get_or fields k 0) ≡ false
unfolding any_outside
field-inside [] fields k e h l = absurd (omega arith)
field-inside (r ∷ ranges) [] k e h l = absurd (omega arith)
field-inside (r ∷ ranges) (x ∷ fields) zero e h l = (neither (outside r x) _ e).0
field-inside (r ∷ ranges) (x ∷ fields) (suc k) e h l = field-inside ranges fields k (neither (outside r x) _ e).1 (omega arith) (omega arith)

-- a reach with a segment, and with figures that a start accepts
pub record FitReach (r : Reach) : Type 0 where
  pub segments : 1 ≤ r.segments
  pub kd : r.kd ≤ most_kd
  pub cl : outside concentration r.cl ≡ false
  pub cb : outside concentration r.cb ≡ false
  pub start : outside concentration r.start ≡ false

-- test 6 finds no fault in its fields: it is such a one
reach-fit : (sheet : List ℕ) (i : ℕ) → any_outside (reach_ranges (edition sheet)) (reach_fields sheet i) ≡ false → FitReach (reach_on sheet i)
unfolding reach_fields reach_on reach_of
reach-fit sheet i e =
    let field : (k : ℕ) → k < 16 → outside (get_or (reach_ranges (edition sheet)) k (0 to 0)) (get_or (reach_fields sheet i) k 0) ≡ false =
    λ k h. field-inside (reach_ranges (edition sheet)) (reach_fields sheet i) k e h h in
    record {
      segments = (inside _ _ (field 0 (lit< tt))).0;
      kd = (inside _ _ (field 13 (lit< tt))).1;
      cl = field 7 (lit< tt);
      cb = field 14 (lit< tt);
      start = field 15 (lit< tt);
    }

-- ---- the reaches laid out along the river

-- one reach more in front
fit-front : (r d : BandedReach) (more : List BandedReach) (i : ℕ) (t : Bool) → ltb i r.reach.segments ≡ t → FitReach r.reach →
    (r.reach.segments ≤ i → FitReach (get_or more (i - r.reach.segments) d).reach) → FitReach (get_or (replicate r.reach.segments r ++ more) i d).reach
fit-front r d more i true e fit rest =
    let h : i < r.reach.segments = ltb-true _ _ e in
    let l : i < length (replicate r.reach.segments r) = rw (length-replicate r.reach.segments r) h in
    rw (get_or-append (replicate r.reach.segments r) more d i l, get_or-replicate r.reach.segments i r d h) fit
fit-front r d more i false e fit rest =
    let n = r.reach.segments in
    let h : n ≤ i = ltb-false _ _ e in
    let q : i ≡ length (replicate n r) + (i - n) = rw (length-replicate n r) (omega arith) in
    let at : get_or (replicate n r ++ more) i d ≡ get_or more (i - n) d =
    ap (λ k. get_or (replicate n r ++ more) k d) q ∙ get_or-append-add (replicate n r) more (i - n) d in
    rw at (rest h)

-- where every reach is fit, that of every segment is
fit-along : (rs : List BandedReach) (d : BandedReach) → ((k : ℕ) → k < length rs → FitReach (get_or rs k d).reach) → (i : ℕ) → i < total rs →
    FitReach (get_or (along_river rs) i d).reach
unfolding along_river total_segments
fit-along [] d all i h = absurd (omega arith)
fit-along (r ∷ rs) d all i h =
    fit-front r d (along_river rs) i (ltb i r.reach.segments) refl (all 0 (omega arith))
    (λ l. fit-along rs d (λ k q. all (suc k) (omega arith)) (i - r.reach.segments) (omega arith))

-- there is a segment where there is a reach
some-segment : (rs : List BandedReach) (d : BandedReach) → 0 < length rs → FitReach (get_or rs 0 d).reach → 1 ≤ total rs
unfolding total_segments
some-segment [] d h fit = absurd (omega arith)
some-segment (r ∷ rs) d h fit = omega (arith, fit.segments)

-- ---- what the tests of an accepted sheet say

-- a count that the walk accepts
pub counted : (sheet : List ℕ) (at : ℕ) (section : Section) (more : List Section) → walk sheet at (section ∷ more) ≡ passes →
    outside section.counts (field sheet at) ≡ false
unfolding walk
counted sheet at section more e = go (ltb (length sheet) (at + 4)) (outside section.counts (field sheet at)) _ e
  where
    go : (a b : Bool) (rest : Finding) → cond a (fails 2 nothing) (cond b (fails 3 nothing) rest) ≡ passes → b ≡ false
    go true b rest e = fails-passes e
    go false true rest e = fails-passes e
    go false false rest e = refl

-- a sheet that passed its own tests
pub record Right (sheet : List ℕ) : Type 0 where
  pub some : 1 ≤ segment_count sheet
  pub most : segment_count sheet ≤ most_segments
  pub fit : (r i : ℕ) → i < segment_count sheet → FitReach (reach_at (course_of sheet r) i)

-- what its tests find of it
pub right : (sheet : List ℕ) → first (sheet_tests sheet) ≡ passes → Right sheet
unfolding sheet_tests sections banded_reaches course_of reach_at
right sheet e =
    let t = all_pass (sheet_tests sheet) e in
    let count = inside _ _ (counted sheet reach_count_at (reach_section (edition sheet)) _ t.1.0) in
    let clear = each-clear 6 reach (reach_count sheet) (λ i. any_outside (reach_ranges (edition sheet)) (reach_fields sheet i)) t.1.1.1.1.0 in
    let rs = banded_reaches sheet in
    let long = length-tab (banded_on sheet) 0 (reach_count sheet) in
    let fit : (k : ℕ) → k < length rs → FitReach (get_or rs k no_reach).reach =
    λ k h. let l : k < reach_count sheet = rw long at h in rw (get_or-tab (banded_on sheet) (reach_count sheet) k no_reach l) (reach-fit sheet k (clear k l)) in
    let h : 0 < length rs = rw long count.0 in
    record {
      some = rw (total-segments sheet) at (some-segment rs no_reach h (fit 0 h));
      most = ltb-false _ _ (test-clear 7 _ t.1.1.1.1.1.0);
      fit = λ r i l. fit-along rs no_reach fit i (rw (total-segments sheet) l);
    }

-- a course has as many segments as its sheet
pub course-length : (sheet : List ℕ) (r : ℕ) → length (course_of sheet r).river ≡ segment_count sheet
unfolding course_of
course-length sheet r = river-length (banded_reaches sheet) ∙ total-segments sheet
