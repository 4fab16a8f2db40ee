-- An opening: refused with 17, or answered as with no river open.
use mathlib.Core.Path.{◌≡◌, refl, sym, ap, ◌∙◌}
use mathlib.Core.Bool.{Bool, true, false}
use mathlib.Core.List.{List, ◌++◌}
use mathlib.Core.Logic.{◌⊎◌, inl, inr}
use Prim.Native.Nat.{ℕ, ◌+◌, ◌-◌, ◌<◌, ◌≤◌}
use native.Mathlib.Omega.{arith}
use borrow.Author.Tests.{le-ltb, ltb-false}
use Rattle.lists.specs.Lists.{tab, any_below, sum_below}
use Rattle.lists.proofs.Tab.{get_or-tab}
use Rattle.lists.proofs.Shorter.{neither}
use Rattle.model.specs.Ranges.{◌to◌, most_segments, most_rivers}
use Rattle.model.specs.Sheet.{segment_count}
use Rattle.model.specs.State.{Columns}
use Rattle.model.specs.Refusals.{nothing, refused, Finding, passes, fails, first, answer}
use Rattle.model.specs.Load.{river_tests, list_tests, loaded}
use Rattle.model.specs.Pool.{Slot, vacant, Pool, open_segments, room_fault, table_fault, shared_fault, open_tests, open_answer}
use Rattle.model.specs.PoolClaim.{vacated, OpensAlone}
use Rattle.model.proofs.Ranges.{inside}
use Rattle.model.proofs.Refusals.{first_rest, first-front}
use Rattle.pool_laws.proofs.Openings.{new_tests, up_to18, last_tests}

-- rows of tests that find the same in front find the same
first-same : (ts us more : List Finding) → first ts ≡ first us → first (ts ++ more) ≡ first (us ++ more)
first-same ts us more e = go (first us) refl
  where
    go : (t : Finding) → first us ≡ t → first (ts ++ more) ≡ first (us ++ more)
    go passes q = first_rest ts more (e ∙ q) ∙ sym (first_rest us more q)
    go (fails number place) q = first-front ts more (e ∙ q) ∙ sym (first-front us more q)

-- ---- 17 and 18 with no river open

-- the table with no river open
abbrev no_rivers : List Slot
no_rivers = tab 0 most_rivers (λ i. vacant)

-- no segment of it is an open river's
none-in-use : open_segments no_rivers ≡ 0
unfolding open_segments sum_below
none-in-use = refl

-- 18 finds nothing in it
none-at-fault : table_fault no_rivers ≡ false
unfolding table_fault any_below
none-at-fault = refl

-- where there is room in a table, there is with no river open
room-alone : (table : List Slot) (number n : ℕ) → room_fault table number n ≡ false → room_fault no_rivers number n ≡ false
unfolding room_fault
room-alone table number n e =
    let both = neither _ _ e in
    let range = (neither _ _ both.0).0 in
    let h = inside (1 to most_rivers) number range in
    let least : number - 1 < most_rivers = omega arith in
    let fits : n + open_segments table ≤ most_segments = ltb-false _ _ both.1 in
    rw (range, get_or-tab (λ i. vacant) most_rivers (number - 1) vacant least, le-ltb most_segments (n + open_segments no_rivers) (omega (arith, none-in-use)))

-- ---- an opening

module _ (pool : Pool) (number : ℕ) (sheet : List ℕ) (r records : ℕ) (columns : Columns) (highest : List ℕ) (u : ℕ) where
  -- where the tests up to 18 find the same as with no river open, the answer is the same
  same_answer : first (up_to18 pool.table number sheet) ≡ first (up_to18 no_rivers number sheet) →
      open_answer sheet r records columns pool number highest u ≡ open_answer sheet r records columns (vacated pool) number highest u
  unfolding open_answer open_tests shared_fault
  same_answer e =
      let tests = list_tests sheet r records columns in
      let here = up_to18 pool.table number sheet in
      let there = up_to18 no_rivers number sheet in
      ap (λ t. answer t (loaded sheet)) (first-same (here ++ tests) (there ++ tests) (last_tests pool (segment_count sheet) highest u) (first-same here there tests e))

  -- where 17 refuses, it is the answer
  no_room : first (up_to18 pool.table number sheet) ≡ fails 17 nothing → open_answer sheet r records columns pool number highest u ≡ refused 17 nothing
  unfolding open_answer open_tests
  no_room e =
      let tests = list_tests sheet r records columns in
      let here = up_to18 pool.table number sheet in
      ap (λ t. answer t (loaded sheet)) (first-front (here ++ tests) (last_tests pool (segment_count sheet) highest u) (first-front here tests e))

-- where the table is right, 17 alone depends on the other rivers
pub opens-alone : (pool : Pool) (number : ℕ) → table_fault pool.table ≡ false → OpensAlone pool number
opens-alone pool number right sheet r records columns highest u = go (first (river_tests sheet)) refl
  where
    n : ℕ
    n = segment_count sheet

    room : first (river_tests sheet) ≡ passes → (t : Bool) → room_fault pool.table number n ≡ t →
        ((open_answer sheet r records columns pool number highest u ≡ refused 17 nothing) × (room_fault pool.table number n ≡ true))
        ⊎ (open_answer sheet r records columns pool number highest u ≡ open_answer sheet r records columns (vacated pool) number highest u)
    room q true e = inl (no_room pool number sheet r records columns highest u (first_rest (river_tests sheet) (new_tests pool.table number n) q ∙ rw e), e)
    room q false e =
        inr (same_answer pool number sheet r records columns highest u
        (first_rest (river_tests sheet) (new_tests pool.table number n) q ∙ (rw (e, right, room-alone pool.table number n e, none-at-fault))
        ∙ sym (first_rest (river_tests sheet) (new_tests no_rivers number n) q)))

    go : (t : Finding) → first (river_tests sheet) ≡ t →
        ((open_answer sheet r records columns pool number highest u ≡ refused 17 nothing) × (room_fault pool.table number n ≡ true))
        ⊎ (open_answer sheet r records columns pool number highest u ≡ open_answer sheet r records columns (vacated pool) number highest u)
    go passes q = room q (room_fault pool.table number n) refl
    go (fails k place) q =
        inr (same_answer pool number sheet r records columns highest u
        (first-front (river_tests sheet) (new_tests pool.table number n) q ∙ sym (first-front (river_tests sheet) (new_tests no_rivers number n) q)))
