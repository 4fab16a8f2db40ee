-- An opening, from what its tests find and what its calls leave.
use mathlib.Core.Path.{◌≡◌, refl, sym, ap, ◌∙◌}
use mathlib.Core.Bool.{false}
use mathlib.Core.List.{List, map}
use Prim.Native.Nat.{ℕ, ◌+◌, ◌-◌, ◌<◌, ◌≤◌}
use native.Mathlib.Omega.{arith}
use lib.ListN.{length, get_or, set}
use Rattle.lists.specs.Lists.{tab, over}
use Rattle.lists.proofs.Tab.{length-tab, get_or-tab, tab-cong, map-tab}
use Rattle.lists.proofs.Over.{over-long, get_or-over}
use Rattle.model.specs.Ranges.{most_segments}
use Rattle.model.specs.Sheet.{segment_count}
use Rattle.model.specs.Flow.{course_of}
use Rattle.model.specs.HalfStep.{Segment, loaded_segment}
use Rattle.model.specs.Equations.{Figures}
use Rattle.model.specs.State.{Columns, loaded_segments, write_segments}
use Rattle.model.specs.Refusals.{Place, accepted, refused, passes, fails, first}
use Rattle.model.specs.Load.{sheet_tests, course_tests, river_tests, Loaded, loaded}
use Rattle.model.specs.Highest.{block_count, highest_of}
use Rattle.model.specs.Calls.{start_figures}
use Rattle.model.specs.Pool.{Slot, Pool, open_segments, table_fault, packed, moved, new_slot}
use Rattle.model.specs.Pool.{open_tests, open_answer, open_columns, pool_open, open_highest}
use Rattle.model.proofs.Refusals.{first-both}
use Rattle.pool_laws.proofs.Openings.{opening-passed}
use Rattle.pool_laws.proofs.Pools.{shared_long}
use Rattle.pool_laws.proofs.Tables.{room-clear}
use Rattle.course.proofs.Descending.{few}
use Rattle.assembly.specs.Fit.{Fit}
use Rattle.assembly.proofs.LoadTests.{fit}
use Rattle.blocks.proofs.Fault.{blocks-long}
use Rattle.blocks.proofs.Figures.{highest-first}

-- a sheet that passes 1 to 12 has no more segments than a pool
pub within : (sheet : List ℕ) → passes ≡ first (river_tests sheet) → segment_count sheet ≤ most_segments
within sheet e = few (record { passed = (first-both (sheet_tests sheet) (course_tests _ _ _) (sym e)).0; count = refl })

module _ (sheet : List ℕ) (r records : ℕ) (x : Columns) (p : Pool) (number : ℕ) (highest : List ℕ) (u : ℕ) where
  -- a test fails: nothing is written
  module _ {k : ℕ} {place : Place} (e : fails k place ≡ first (open_tests sheet r records x p number highest u)) where
    pub refused-answer : refused k place ≡ open_answer sheet r records x p number highest u
    unfolding open_answer
    refused-answer = rw (← e)

    pub refused-columns : x ≡ open_columns sheet r records x p number highest u
    unfolding open_columns open_answer
    refused-columns = rw (← e)

    pub refused-pool : p ≡ pool_open sheet r records x p number highest u
    unfolding pool_open open_answer
    refused-pool = rw (← e)

    pub refused-highest : highest ≡ open_highest sheet r records x p number highest u
    unfolding open_highest open_answer
    refused-highest = rw (← e)

  -- all of them pass
  module _ (e : passes ≡ first (open_tests sheet r records x p number highest u)) where
    pub fits : Fit sheet r x
    fits = let passed = opening-passed p number sheet r records x highest u (sym e) in fit sheet r records x passed.front passed.lists

    pub open-answer : {v : Loaded} → v ≡ loaded sheet → accepted v ≡ open_answer sheet r records x p number highest u
    unfolding open_answer
    open-answer is = rw (is, ← e)

    pub open-columns : write_segments (loaded_segments sheet r) x ≡ open_columns sheet r records x p number highest u
    unfolding open_columns open_answer
    open-columns = rw (← e)

    -- what the calls that write want, of the river that was loaded
    pub record Ready (n : ℕ) (start : List ℕ) : Type 0 where
      pub from : 1 ≤ number
      pub room : n + open_segments p.table ≤ most_segments
      pub table : table_fault p.table ≡ false
      pub channel : most_segments ≤ length p.channel
      pub storage : most_segments ≤ length p.storage
      pub sediment : most_segments ≤ length p.sediment
      pub figures : n ≤ length start
      pub blocks : block_count n ≤ length highest

    -- the start figures that the loading left are the new river's
    new-figures : (f : Figures → ℕ) → ((s : Segment) → f (start_figures s) ≡ s.start) →
        tab 0 (segment_count sheet) (λ i. get_or (write_segments (loaded_segments sheet r) x).start i 0)
        ≡ map f (map start_figures (loaded_segments sheet r))
    unfolding write_segments
    new-figures f is =
        let n = segment_count sheet in
        let h = loaded_segment (course_of sheet r) in
        let list = tab 0 n (λ i. (h i).start) in
        let written : over (map (λ s. s.start) (tab 0 n h)) x.start ≡ over list x.start =
        ap (λ l. over l x.start) (map-tab (λ s. s.start) h 0 n)
        in
        tab-cong _ (λ i. f (start_figures (h i))) 0 n
        (λ i low less.
        let inside : i < n = omega arith in
        ap (λ l. get_or l i 0) written ∙ get_or-over list x.start i 0 (omega (arith, length-tab (λ i. (h i).start) 0 n))
        ∙ get_or-tab (λ i. (h i).start) n i 0 inside ∙ sym (is (h i)))
        ∙ sym (map-tab f (λ i. start_figures (h i)) 0 n) ∙ sym (ap (map f) (map-tab start_figures h 0 n))

    module _ {v : Loaded} (is : v ≡ loaded sheet) {start : List ℕ} (written : start ≡ (write_segments (loaded_segments sheet r) x).start) where
      count : v.segments ≡ segment_count sheet
      unfolding loaded
      count = rw is

      long-start : segment_count sheet ≤ length start
      unfolding write_segments
      long-start = rw written (omega (arith, fits.long.start, over-long (map (λ (s : Segment). s.start) (loaded_segments sheet r)) x.start))

      pub ready : Ready v.segments start
      ready =
          let passed = opening-passed p number sheet r records x highest u (sym e) in
          let room = room-clear p.table number (segment_count sheet) passed.room in
          let long = shared_long p passed.shared in
          rw count
          (record {
            from = room.0;
            room = room.3;
            table = passed.table;
            channel = long.channel;
            storage = long.storage;
            sediment = long.sediment;
            figures = long-start;
            blocks = blocks-long (segment_count sheet) highest passed.blocks;
          })

      pub open-pool : {c z w : List ℕ} {table : List Slot} →
          c ≡ packed p.table (tab 0 v.segments (λ i. get_or start i 0)) p.channel →
          z ≡ packed p.table (tab 0 v.segments (λ i. get_or start i 0)) p.storage →
          w ≡ packed p.table (tab 0 v.segments (λ i. get_or start i 0)) p.sediment →
          table ≡ set (map (moved p.table) p.table) (number - 1) (new_slot p.table v.segments u) →
          record { table = table; channel = c; storage = z; sediment = w } ≡ pool_open sheet r records x p number highest u
      unfolding pool_open open_answer loaded
      open-pool ec ez ew et = rw (
        ← e,
        ec,
        ez,
        ew,
        et,
        count,
        written,
        ← (new-figures (λ f. f.c) (λ q. refl)),
        ← (new-figures (λ f. f.z) (λ q. refl)),
        ← (new-figures (λ f. f.w) (λ q. refl)),
      )

      pub open-highest : {left : List ℕ} → left ≡ over (highest_of v.segments start) highest →
          left ≡ open_highest sheet r records x p number highest u
      unfolding open_highest open_answer
      open-highest el =
          let first = highest-first (segment_count sheet) (write_segments (loaded_segments sheet r) x).start in
          rw (← e, el, count, written, first, new-figures (λ f. f.c) (λ q. refl))
