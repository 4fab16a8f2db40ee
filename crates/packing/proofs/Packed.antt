-- What packing leaves of a shared list and of the table, from what its calls leave.
use mathlib.Core.Path.{◌≡◌, sym, ap, ◌∙◌}
use mathlib.Core.Bool.{true, false}
use mathlib.Core.List.{List, ◌++◌, map, append-nil}
use Prim.Native.Nat.{ℕ, ◌+◌, ◌-◌, ◌<◌, ◌≤◌}
use native.Mathlib.Omega.{arith}
use lib.ListN.{length, set, take, drop, length-drop, drop_of_length-le}
use lib.Seq.{length-take-le}
use Rattle.lists.specs.Lists.{tab, over}
use Rattle.lists.proofs.Tab.{length-tab, get_or-tab, map-tab}
use Rattle.lists.proofs.Over.{Filling, filling-turn, filling-end}
use Rattle.lists.proofs.Stretch.{splice-back}
use Rattle.model.specs.Ranges.{most_segments, most_rivers}
use Rattle.model.specs.Pool.{Slot, is_open, vacant, slot_at, open_segments, table_fault, covered_below, kept, packed, moved}
use Rattle.pool_laws.proofs.Packing.{packed-splice, below-open}
use Rattle.pool_laws.proofs.Tables.{fault-apart}
use Rattle.terms.specs.Lent.{slot_in, table_in}

-- figures written over a list of as many entries are then the list
whole : (xs part : List ℕ) → length part ≤ length xs → over xs part ≡ xs
whole xs part h = ap (λ l. xs ++ l) (drop_of_length-le part h) ∙ append-nil xs

-- a shared list, packed, with n figures over the part behind the kept ones
pub list-packed : (table : List Slot) (n to : ℕ) (f : ℕ → ℕ) (before list part : List ℕ) → list ≡ over (kept table most_segments before) before →
    to ≡ covered_below table most_segments → to + n ≤ length list → part ≡ over (tab 0 n f) (take (to + n - to) (drop to list)) →
    take to list ++ (part ++ drop (to + n - to) (drop to list)) ≡ packed table (tab 0 n f) before
list-packed table n to f before list part is at fits written =
    let new = tab 0 n f in
    let many : to + n - to ≡ n = omega arith in
    let long : length (take (to + n - to) (drop to list)) ≡ n = rw many (length-take-le n (drop to list) (omega (arith, length-drop to list))) in
    let all : part ≡ new = written ∙ whole new (take (to + n - to) (drop to list)) (omega (arith, long, length-tab f 0 n)) in
    splice-back to n part list ∙ rw (all, is, at) (packed-splice table new before n (length-tab f 0 n))

-- where it ends
pub packed-end : (table : List Slot) (n to long : ℕ) → to ≡ covered_below table most_segments → n + open_segments table ≤ most_segments → most_segments ≤ long →
    to + n ≤ long
packed-end table n to long at room fits = omega (arith, below-open table most_segments)

-- an open river begins among the segments
pub first-within : (table : List Slot) (i : ℕ) → i < most_rivers → table_fault table ≡ false → is_open (slot_at table i) ≡ true →
    (slot_at table i).first ≤ most_segments
first-within table i h sound opened = omega (arith, (fault-apart table sound).ends i h opened)

-- a loop that has moved the first i slots
abbrev pub Moving : (numbers : List ℕ) → (i : ℕ) → List Slot → Type 0
Moving numbers i table = Filling (λ j. moved (table_in numbers) (slot_in numbers j)) (table_in numbers) i table

pub moving-turn : (numbers : List ℕ) (i : ℕ) (table : List Slot) (x : Slot) → Moving numbers i table → i < most_rivers →
    x ≡ moved (table_in numbers) (slot_at (table_in numbers) i) → Moving numbers (i + 1) (set table i x)
unfolding table_in
moving-turn numbers i table x r h e = filling-turn r h (e ∙ ap (moved (table_in numbers)) (get_or-tab (slot_in numbers) most_rivers i vacant h))

pub moving-end : (numbers : List ℕ) (i : ℕ) (table : List Slot) → Moving numbers i table → i ≡ most_rivers →
    table ≡ map (moved (table_in numbers)) (table_in numbers)
unfolding table_in
moving-end numbers i table r e = filling-end most_rivers r e ∙ sym (map-tab (moved (table_in numbers)) (slot_in numbers) 0 most_rivers)
