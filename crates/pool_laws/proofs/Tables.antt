-- What tests 17 and 18 tell of a table, and the slots of a changed table.
use mathlib.Core.Path.{◌≡◌, refl, sym, subst}
use mathlib.Core.Bool.{Bool, true, false, not, ◌&&◌, ◌||◌}
use mathlib.Core.List.{List, map}
use mathlib.Core.Logic.{◌⊎◌, inl, inr, ⊎_elim, ◌≢◌}
use Prim.Native.Nat.{ℕ, ◌+◌, ◌-◌, ◌<◌, ◌≤◌, min, max}
use native.Mathlib.Omega.{arith}
use borrow.Author.Tests.{ltb-false, le-ltb, not-false, eqb-true, eqb-false}
use lib.Dec.{ltb, eqb}
use lib.ListN.{length, set, get_or-map}
use lib.Seq.{get_or-set_same, get_or-set_other}
use Rattle.lists.specs.Lists.{any_below}
use Rattle.lists.proofs.Below.{any_none, none_any}
use Rattle.lists.proofs.Shorter.{neither}
use Rattle.lists.proofs.Stretch.{lt-or-ge}
use Rattle.model.proofs.Ranges.{inside}
use Rattle.model.specs.Ranges.{◌to◌, outside, most_segments, most_rivers}
use Rattle.model.specs.Pool.{Slot, is_open, end_of, vacant, slot_at, slot_of, open_segments, room_fault, passes_end, overlap, table_fault, number_fault, moved}

-- ---- the slots of a changed table

-- the slot that was set
pub slot-set-same : (table : List Slot) (i : ℕ) (x : Slot) → i < length table → slot_at (set table i x) i ≡ x
slot-set-same table i x h = get_or-set_same table i x vacant h

-- another one
pub slot-set-other : (table : List Slot) (i j : ℕ) (x : Slot) → j ≢ i → slot_at (set table i x) j ≡ slot_at table j
slot-set-other table i j x h = get_or-set_other table i j x vacant h

-- a slot after a packing
pub slot_map : (before table : List Slot) (i : ℕ) → slot_at (map (moved before) table) i ≡ moved before (slot_at table i)
slot_map before table i = get_or-map (moved before) table i vacant

-- the same or not
pub same_or_not : (i j : ℕ) → (i ≡ j) ⊎ (i ≢ j)
same_or_not i j = go (eqb i j) refl
  where
    go : (t : Bool) → eqb i j ≡ t → (i ≡ j) ⊎ (i ≢ j)
    go true e = inl (eqb-true i j e)
    go false e = inr (eqb-false i j e)

-- the places of two numbers
pub place_other : (number m : ℕ) → 1 ≤ number → 1 ≤ m → m ≢ number → m - 1 ≢ number - 1
place_other number m from from' h e = h (omega arith)

-- ---- a table with no fault

-- the open rivers end in the shared lists and no two have a segment in common
pub record Apart (table : List Slot) : Type 0 where
  pub ends : (i : ℕ) → i < most_rivers → is_open (slot_at table i) ≡ true → end_of (slot_at table i) ≤ most_segments
  pub apart : (i j : ℕ) → i < most_rivers → j < most_rivers → i ≢ j → is_open (slot_at table i) ≡ true → is_open (slot_at table j) ≡ true →
      min (end_of (slot_at table i)) (end_of (slot_at table j)) ≤ max (slot_at table i).first (slot_at table j).first

-- an open river does not pass segment 1,024
end-clear : (x : Slot) → passes_end x ≡ false → is_open x ≡ true → end_of x ≤ most_segments
end-clear x e o = ltb-false most_segments (end_of x) (rw o at e)

-- and the other way
clear-end : (x : Slot) → (is_open x ≡ true → end_of x ≤ most_segments) → passes_end x ≡ false
clear-end x h = go (is_open x) refl
  where
    go : (o : Bool) → is_open x ≡ o → (o && ltb most_segments (end_of x)) ≡ false
    go true e = le-ltb most_segments (end_of x) (h e)
    go false e = refl

-- two open rivers do not overlap
overlap-clear : (x y : Slot) → overlap x y ≡ false → is_open x ≡ true → is_open y ≡ true → min (end_of x) (end_of y) ≤ max x.first y.first
overlap-clear x y e o p = ltb-false (max x.first y.first) (min (end_of x) (end_of y)) (rw (o, p) at e)

-- and the other way
clear-overlap : (x y : Slot) → (is_open x ≡ true → is_open y ≡ true → min (end_of x) (end_of y) ≤ max x.first y.first) → overlap x y ≡ false
clear-overlap x y h = go (is_open x) (is_open y) refl refl
  where
    go : (o p : Bool) → is_open x ≡ o → is_open y ≡ p → (o && p && ltb (max x.first y.first) (min (end_of x) (end_of y))) ≡ false
    go true true e q = le-ltb (max x.first y.first) (min (end_of x) (end_of y)) (h e q)
    go true false e q = refl
    go false p e q = refl

-- test 18 finds no fault in the table: they do
pub fault-apart : (table : List Slot) → table_fault table ≡ false → Apart table
unfolding table_fault
fault-apart table e = record {
  ends = λ i h o. end-clear (slot_at table i) (at i h).0 o;
  apart = λ i j h k q o p. ⊎_elim (λ l. let r = before j i k l p o in omega arith) (λ l. before i j h (omega-lt i j l q) o p) (lt-or-ge i j);
}
  where
    at : (i : ℕ) → i < most_rivers → (passes_end (slot_at table i) ≡ false) × (any_below i (λ j. overlap (slot_at table i) (slot_at table j)) ≡ false)
    at i h = neither _ _ (any_none (λ i. passes_end (slot_at table i) || any_below i (λ j. overlap (slot_at table i) (slot_at table j))) most_rivers e i h)

    before : (i j : ℕ) → i < most_rivers → j < i → is_open (slot_at table i) ≡ true → is_open (slot_at table j) ≡ true →
        min (end_of (slot_at table i)) (end_of (slot_at table j)) ≤ max (slot_at table i).first (slot_at table j).first
    before i j h l o p = overlap-clear (slot_at table i) (slot_at table j) (any_none (λ j. overlap (slot_at table i) (slot_at table j)) i (at i h).1 j l) o p

    omega-lt : (i j : ℕ) → j ≤ i → i ≢ j → j < i
    omega-lt i j l q = ⊎_elim (λ r. r) (λ r. absurd (q (omega arith))) (lt-or-ge j i)

-- they do: test 18 finds no fault in the table
pub apart-fault : (table : List Slot) → Apart table → table_fault table ≡ false
unfolding table_fault
apart-fault table r =
    none_any (λ i. passes_end (slot_at table i) || any_below i (λ j. overlap (slot_at table i) (slot_at table j))) most_rivers
    (λ i h. rw (clear-end (slot_at table i) (r.ends i h))
    (none_any (λ j. overlap (slot_at table i) (slot_at table j)) i
    (λ j l. clear-overlap (slot_at table i) (slot_at table j) (r.apart i j h (omega arith) (λ q. omega arith)))))

-- where a river is open in slot y, one is in slot x, and at the same segments
pub record Stands (x y : Slot) : Type 0 where
  pub opened : is_open y ≡ true → is_open x ≡ true
  pub first : y.first ≡ x.first
  pub segments : y.segments ≡ x.segments

-- a table in which this is so of each slot
pub apart-stands : (table table' : List Slot) → Apart table → ((i : ℕ) → i < most_rivers → Stands (slot_at table i) (slot_at table' i)) → Apart table'
apart-stands table table' r all = record {
  ends = λ i h o. let x = all i h in rw (x.first, x.segments) (r.ends i h (x.opened o));
  apart = λ i j h k q o p. let x = all i h in let y = all j k in
      rw (x.first, x.segments, y.first, y.segments) (r.apart i j h k q (x.opened o) (y.opened p));
}

-- so it is where one slot alone is set
pub stands_set : (table : List Slot) (i : ℕ) (y : Slot) → i < length table → Stands (slot_at table i) y → (j : ℕ) → Stands (slot_at table j) (slot_at (set table i y) j)
stands_set table i y h x j = ⊎_elim same other (same_or_not j i)
  where
    same : j ≡ i → Stands (slot_at table j) (slot_at (set table i y) j)
    same q = subst (λ (k : ℕ). Stands (slot_at table k) (slot_at (set table i y) k)) (sym q) (rw (slot-set-same table i y h) x)

    other : j ≢ i → Stands (slot_at table j) (slot_at (set table i y) j)
    other q = rw (slot-set-other table i j y q) (record { opened = λ o. o; first = refl; segments = refl })

-- ---- 17 and 18

-- test 18 finds no fault: the number's river is open, and the table has none
pub number-clear : (table : List Slot) (number : ℕ) → number_fault table number ≡ false →
    (1 ≤ number) × (number ≤ most_rivers) × (is_open (slot_of table number) ≡ true) × (table_fault table ≡ false)
unfolding number_fault
number-clear table number e =
    let both = neither (outside (1 to most_rivers) number || not (is_open (slot_of table number))) (table_fault table) e in
    let front = neither (outside (1 to most_rivers) number) (not (is_open (slot_of table number))) both.0 in
    let range = inside (1 to most_rivers) number front.0 in
    (range.0, range.1, not-false (is_open (slot_of table number)) front.1, both.1)

-- a number from 1 to 8
in_range : (number : ℕ) → 1 ≤ number → number ≤ most_rivers → outside (1 to most_rivers) number ≡ false
unfolding outside
in_range number low high = rw (le-ltb number 1 low) (le-ltb most_rivers number high)

-- and the other way
pub clear-number : (table : List Slot) (number : ℕ) → 1 ≤ number → number ≤ most_rivers → is_open (slot_of table number) ≡ true → table_fault table ≡ false →
    number_fault table number ≡ false
unfolding number_fault
clear-number table number low high o clear = rw (in_range number low high, o, clear)

-- test 17 finds no fault: the number is not taken, and the new river fits
pub room-clear : (table : List Slot) (number n : ℕ) → room_fault table number n ≡ false →
    (1 ≤ number) × (number ≤ most_rivers) × (is_open (slot_of table number) ≡ false) × (n + open_segments table ≤ most_segments)
unfolding room_fault
room-clear table number n e =
    let both = neither (outside (1 to most_rivers) number || is_open (slot_of table number)) (ltb most_segments (n + open_segments table)) e in
    let front = neither (outside (1 to most_rivers) number) (is_open (slot_of table number)) both.0 in
    let range = inside (1 to most_rivers) number front.0 in
    (range.0, range.1, front.1, ltb-false most_segments (n + open_segments table) both.1)
