-- Lists that the segments of a flow were written over, or that hold them as loaded; and what they hold that is the same for every flow of the sheet.
use mathlib.Core.Path.{◌≡◌, refl, sym, ap, ◌∙◌}
use mathlib.Core.List.{List, map}
use Prim.Native.Nat.{ℕ, ◌<◌, ◌≤◌}
use native.Mathlib.Omega.{arith}
use lib.ListN.{length, get_or, length-append, length-map}
use Rattle.lists.specs.Lists.{tab, over}
use Rattle.lists.proofs.Tab.{length-tab, get_or-tab, tab-cong, map-tab}
use Rattle.lists.proofs.Over.{get_or-over}
use Rattle.model.specs.Sheet.{segment_count}
use Rattle.model.specs.Flow.{course_of, flow_in_force, reach_at}
use Rattle.model.specs.HalfStep.{site_at, numbers, Segment, loaded_segment}
use Rattle.model.specs.State.{NumberSet, numbers_at, Columns, segment_at, segments_of, pair_at, pairs_of, loaded_segments, write_segments}
use Rattle.model.specs.Calls.{start_figures}
use Rattle.model.specs.Runs.{LoadedFor, SetFor, PairAsLoaded, exact_start, sheet_pair, sheet_pairs}

-- ---- written

module _ (f : ℕ → Segment) (n : ℕ) where
  -- entry i of a list that one field of the segments was written over
  column : (part : Segment → ℕ) (before : List ℕ) (i : ℕ) → i < n → get_or (over (map part (tab 0 n f)) before) i 0 ≡ part (f i)
  column part before i h =
      rw (map-tab part f 0 n)
      (get_or-over (tab 0 n (λ j. part (f j))) before i 0 (rw (length-tab (λ j. part (f j)) 0 n) h) ∙ get_or-tab (λ j. part (f j)) n i 0 h)

  -- and the list has an entry for each of them
  pub written-long : (part : Segment → ℕ) (before : List ℕ) → n ≤ length (over (map part (tab 0 n f)) before)
  written-long part before = rw (length-append (map part (tab 0 n f))) (omega (arith, length-map (tab 0 n f) part, length-tab f 0 n))

  pub segment-written : (before : Columns) (i : ℕ) → i < n → segment_at (write_segments (tab 0 n f) before) i ≡ f i
  unfolding segment_at numbers_at write_segments
  segment-written before i h = rw (
    column (λ x. x.numbers.e) before.numbers.e i h,
    column (λ x. x.numbers.g) before.numbers.g i h,
    column (λ x. x.numbers.l) before.numbers.l i h,
    column (λ x. x.numbers.a) before.numbers.a i h,
    column (λ x. x.numbers.b) before.numbers.b i h,
    column (λ x. x.numbers.k) before.numbers.k i h,
    column (λ x. x.numbers.ks) before.numbers.ks i h,
    column (λ x. x.numbers.h) before.numbers.h i h,
    column (λ x. x.numbers.m) before.numbers.m i h,
    column (λ x. x.numbers.s) before.numbers.s i h,
    column (λ x. x.cl) before.cl i h,
    column (λ x. x.cb) before.cb i h,
    column (λ x. x.kd) before.kd i h,
    column (λ x. x.start) before.start i h,
  )

  pub segments-written : (before : Columns) → segments_of n (write_segments (tab 0 n f) before) ≡ tab 0 n f
  segments-written before = tab-cong _ f 0 n (λ i a b. segment-written before i (omega arith))

-- ---- as loaded

-- equal tables have equal entries
pub same-entry : {A : Type 0} (f g : ℕ → A) (n m : ℕ) → n ≡ m → tab 0 n f ≡ tab 0 m g → (i : ℕ) → i < m → f i ≡ g i
same-entry f g n m count e i h = sym (get_or-tab f n i (f i) (rw count h)) ∙ ap (λ xs. get_or xs i (f i)) e ∙ get_or-tab g m i (f i) h

module _ {sheet : List ℕ} {n : ℕ} {columns : Columns} where
  pub segment-as-loaded : {r : ℕ} → LoadedFor sheet r n columns → (i : ℕ) → i < segment_count sheet →
      segment_at columns i ≡ loaded_segment (course_of sheet r) i
  segment-as-loaded lists i h = same-entry _ _ _ _ lists.count lists.segments i h

  -- the numbers alone
  pub set-as-loaded : {r : ℕ} → LoadedFor sheet r n columns → SetFor sheet r n columns.numbers
  unfolding segment_at loaded_segment
  set-as-loaded {r} lists =
      sym (map-tab (λ x. x.numbers) (segment_at columns) 0 n)
      ∙ ap (map (λ (x : Segment). x.numbers)) lists.segments
      ∙ map-tab (λ x. x.numbers) (loaded_segment (course_of sheet r)) 0 (segment_count sheet)

  pub pair-as-loaded : {steps : ℕ} (old : NumberSet) → PairAsLoaded sheet steps n old columns → (i : ℕ) → i < segment_count sheet →
      pair_at old columns i ≡ sheet_pair sheet steps i
  unfolding pair_at segment_at loaded_segment
  pair-as-loaded {steps} old pair i h =
      let before = same-entry (numbers_at old) (λ j. numbers (site_at (course_of sheet (flow_in_force sheet steps)) j)) _ _ pair.after.count pair.before i h in
      let after = segment-as-loaded pair.after i h in
      rw (before, ap (λ (x : Segment). x.numbers) after, ap (λ (x : Segment). x.cl) after, ap (λ (x : Segment). x.cb) after)

  -- the pair that a step is lent is the one that the exact river takes
  pub pairs-as-loaded : {steps : ℕ} (old : NumberSet) → PairAsLoaded sheet steps n old columns → pairs_of n old columns ≡ sheet_pairs sheet steps
  pairs-as-loaded {steps} old pair =
      rw pair.after.count
      (tab-cong (pair_at old columns) (sheet_pair sheet steps) 0 (segment_count sheet) (λ i a b. pair-as-loaded old pair i (omega arith)))

-- Kd and the start figure rest on the reach alone
module _ (sheet : List ℕ) (r : ℕ) where
  pub same-kd : (i : ℕ) → (loaded_segment (course_of sheet r) i).kd ≡ (loaded_segment (course_of sheet 0) i).kd
  unfolding loaded_segment reach_at course_of
  same-kd i = refl

  -- start figures, those of the exact river
  pub same-starts : map exact_start (loaded_segments sheet r) ≡ map exact_start (loaded_segments sheet 0)
  unfolding loaded_segment reach_at course_of
  same-starts =
      map-tab exact_start (loaded_segment (course_of sheet r)) 0 (segment_count sheet)
      ∙ sym (map-tab exact_start (loaded_segment (course_of sheet 0)) 0 (segment_count sheet))

  -- those of a state
  pub same-start-figures : map start_figures (loaded_segments sheet r) ≡ map start_figures (loaded_segments sheet 0)
  unfolding loaded_segment reach_at course_of
  same-start-figures =
      map-tab start_figures (loaded_segment (course_of sheet r)) 0 (segment_count sheet)
      ∙ sym (map-tab start_figures (loaded_segment (course_of sheet 0)) 0 (segment_count sheet))
