-- How a pool is kept: what a call on one river leaves of the table, of the lengths and of the other rivers.
use mathlib.Core.Path.{◌≡◌, refl, sym, ap, ◌∙◌}
use mathlib.Core.Bool.{Bool, true, false, true≢false}
use mathlib.Core.List.{List, map}
use mathlib.Core.Logic.{⊎_elim, ◌≢◌}
use Prim.Native.Nat.{ℕ, ◌+◌, ◌-◌, ◌<◌, ◌≤◌, min, max}
use native.Mathlib.Omega.{arith}
use lib.ListN.{length, set, length-set, length-map}
use Rattle.lists.specs.Lists.{stretch, splice}
use Rattle.lists.proofs.Shorter.{all-long, none-shorter}
use Rattle.lists.proofs.Stretch.{lt-or-ge, length-splice, stretch-splice, stretch-apart}
use Rattle.model.specs.Ranges.{most_segments, most_rivers}
use Rattle.model.specs.State.{State}
use Rattle.model.specs.Pool.{Slot, is_open, end_of, slot_at, slot_of, Pool, shared_lists, state_in, state_of, slot_with, with_state, room_fault, table_fault, number_fault, shared_fault, closed_slot, covered_below, packed, moved, new_slot}
use Rattle.model.specs.Runs.{OwnLists}
use Rattle.model.specs.PoolClaim.{NoneOpen}
use Rattle.pool_laws.proofs.Packing.{Open, stretch-packed, new-packed, length-packed, below-open, below_apart, below-ends}
use Rattle.pool_laws.proofs.Tables.{slot-set-same, slot-set-other, slot_map, same_or_not, place_other, Apart, fault-apart, apart-fault, apart-stands, stands_set, number-clear, room-clear}

-- ---- a pool that is kept

-- each shared list has the 1,024 entries that test 13 wants
pub record Long (pool : Pool) : Type 0 where
  pub channel : most_segments ≤ length pool.channel
  pub storage : most_segments ≤ length pool.storage
  pub sediment : most_segments ≤ length pool.sediment

-- test 13 finds no fault: they have
pub shared_long : (pool : Pool) → shared_fault (shared_lists pool) ≡ false → Long pool
unfolding shared_fault
shared_long pool e = let all = all-long most_segments (shared_lists pool) e in record { channel = all.0; storage = all.1.0; sediment = all.1.1.0 }

-- they have: test 13 finds no fault
pub long-shared : (pool : Pool) → Long pool → shared_fault (shared_lists pool) ≡ false
unfolding shared_fault
long-shared pool r = none-shorter most_segments (shared_lists pool) (r.channel, (r.storage, (r.sediment, tt)))

-- a table of eight slots with no fault, and long lists where a river is open
pub record Sound (pool : Pool) : Type 0 where
  pub slots : length pool.table ≡ most_rivers
  pub table : table_fault pool.table ≡ false
  pub long : (i : ℕ) → i < most_rivers → is_open (slot_at pool.table i) ≡ true → Long pool

-- a pool with no river open is so
pub none-sound : (pool : Pool) → NoneOpen pool → Sound pool
none-sound pool r = record {
  slots = r.slots;
  table = apart-fault pool.table (record {
    ends = λ i h o. absurd (true≢false (sym o ∙ r.closed i h));
    apart = λ i j h k q o p. absurd (true≢false (sym o ∙ r.closed i h));
  });
  long = λ i h o. absurd (true≢false (sym o ∙ r.closed i h));
}

-- the river of number m, before and after a call on another
pub record Beside (before after : Pool) (m : ℕ) : Type 0 where
  -- it is open after the call where it was before
  pub opened : is_open (slot_of after.table m) ≡ is_open (slot_of before.table m)
  -- it has as many segments
  pub segments : (slot_of after.table m).segments ≡ (slot_of before.table m).segments
  -- a slot with no river open is as it was
  pub closed : is_open (slot_of before.table m) ≡ false → slot_of after.table m ≡ slot_of before.table m
  -- an open river has the state that it had
  pub state : is_open (slot_of before.table m) ≡ true → state_of after m ≡ state_of before m

-- so it is of every number but this
abbrev pub Others : (before after : Pool) → (number : ℕ) → Type 0
Others before after number = (m : ℕ) → 1 ≤ m → m ≤ most_rivers → m ≢ number → Beside before after m

-- states with the same lists
state_is : (c c' z z' w w' : List ℕ) (u s : ℕ) → c ≡ c' → z ≡ z' → w ≡ w' →
    ◌≡◌ {A = State} (record { channel = c; storage = z; sediment = w; upstream = u; steps = s })
    (record { channel = c'; storage = z'; sediment = w'; upstream = u; steps = s })
state_is c c' z z' w w' u s p q r = rw (p, q, r)

-- ---- a call that leaves a river in another state

-- what is so of the pool after it
pub record StateWritten (pool : Pool) (number : ℕ) (state : State) : Type 0 where
  -- it is kept
  pub sound : Sound (with_state pool number state)
  -- the number's river has the state
  pub is : state_of (with_state pool number state) number ≡ state
  -- it is open as before, at the same segments
  pub slot : slot_of (with_state pool number state).table number ≡ slot_with (slot_of pool.table number) state.upstream state.steps
  pub opened : is_open (slot_of (with_state pool number state).table number) ≡ true
  pub segments : (slot_of (with_state pool number state).table number).segments ≡ (slot_of pool.table number).segments
  -- the slots of the others are as they were
  pub slots : (m : ℕ) → 1 ≤ m → m ≢ number → slot_of (with_state pool number state).table m ≡ slot_of pool.table m
  pub others : Others pool (with_state pool number state) number

-- ---- a closing

-- the pool after an accepted one
abbrev pub closed_pool : Pool → (number : ℕ) → Pool
closed_pool pool number = record {
  table = set pool.table (number - 1) (closed_slot (slot_of pool.table number));
  channel = pool.channel;
  storage = pool.storage;
  sediment = pool.sediment;
}

-- what is so of it
pub record Closed (pool : Pool) (number : ℕ) : Type 0 where
  -- it is kept
  pub sound : Sound (closed_pool pool number)
  -- the number's river is not open
  pub slot : slot_of (closed_pool pool number).table number ≡ closed_slot (slot_of pool.table number)
  pub closed : is_open (slot_of (closed_pool pool number).table number) ≡ false
  -- the slots of the others are as they were
  pub slots : (m : ℕ) → 1 ≤ m → m ≢ number → slot_of (closed_pool pool number).table m ≡ slot_of pool.table m
  pub others : Others pool (closed_pool pool number) number

-- ---- a call on an open river of a pool that is kept

module _ (pool : Pool) (number : ℕ) (sound : Sound pool) (clear : number_fault pool.table number ≡ false) where
  -- the number's slot
  record Named : Type 0 where
    from : 1 ≤ number
    to : number ≤ most_rivers
    place : number - 1 < most_rivers
    in_table : number - 1 < length pool.table
    opened : is_open (slot_of pool.table number) ≡ true
    apart : Apart pool.table
    ends : (slot_of pool.table number).first + (slot_of pool.table number).segments ≤ most_segments
    long : Long pool

  -- what test 18 and the pool tell of it
  named : Named
  named =
      let facts = number-clear pool.table number clear in
      let place : number - 1 < most_rivers = omega (arith, facts.0, facts.1) in
      let apart = fault-apart pool.table facts.3 in
      record {
        from = facts.0;
        to = facts.1;
        place = place;
        in_table = omega (arith, place, sound.slots);
        opened = facts.2;
        apart = apart;
        ends = apart.ends (number - 1) place facts.2;
        long = sound.long (number - 1) place facts.2;
      }

  -- an open river of another number has no segment in common with it
  clear_of : (m : ℕ) → 1 ≤ m → m ≤ most_rivers → m ≢ number → is_open (slot_of pool.table m) ≡ true →
      (min (end_of (slot_of pool.table number)) (end_of (slot_of pool.table m)) ≤ max (slot_of pool.table number).first (slot_of pool.table m).first)
      × (end_of (slot_of pool.table m) ≤ most_segments)
  clear_of m low high q o =
      let x = named in
      let place : m - 1 < most_rivers = omega arith in
      (x.apart.apart (number - 1) (m - 1) x.place place (λ e. place_other number m x.from low q (sym e)) x.opened o, x.apart.ends (m - 1) place o)

  -- a list with its new figures is as long
  long-splice : (entries list : List ℕ) → length entries ≡ (slot_of pool.table number).segments → most_segments ≤ length list →
      most_segments ≤ length (splice (slot_of pool.table number).first (slot_of pool.table number).segments entries list)
  long-splice entries list e h =
      let x = named in
      omega (arith, h, length-splice (slot_of pool.table number).first (slot_of pool.table number).segments entries list e (omega (arith, x.ends, h)))

  -- and has them at the river's segments
  own-splice : (entries list : List ℕ) → length entries ≡ (slot_of pool.table number).segments → most_segments ≤ length list →
      stretch (slot_of pool.table number).first (slot_of pool.table number).segments
      (splice (slot_of pool.table number).first (slot_of pool.table number).segments entries list) ≡ entries
  own-splice entries list e h =
      let x = named in
      stretch-splice (slot_of pool.table number).first (slot_of pool.table number).segments entries list e (omega (arith, x.ends, h))

  -- and another river's figures as they were
  other-splice : (m : ℕ) → 1 ≤ m → m ≤ most_rivers → m ≢ number → is_open (slot_of pool.table m) ≡ true →
      (entries list : List ℕ) → length entries ≡ (slot_of pool.table number).segments → most_segments ≤ length list →
      stretch (slot_of pool.table m).first (slot_of pool.table m).segments
      (splice (slot_of pool.table number).first (slot_of pool.table number).segments entries list)
      ≡ stretch (slot_of pool.table m).first (slot_of pool.table m).segments list
  other-splice m low high q o entries list e h =
      let x = named in
      let y = clear_of m low high q o in
      stretch-apart (slot_of pool.table number).first (slot_of pool.table number).segments entries list e (omega (arith, x.ends, h))
      (slot_of pool.table m).first (slot_of pool.table m).segments (omega (arith, y.1, h)) y.0

  -- the river left in another state, with as many figures as it has segments
  pub with-state : (state : State) → OwnLists (slot_of pool.table number).segments state → StateWritten pool number state
  with-state state own =
      let x = named in
      let y = slot_with (slot_of pool.table number) state.upstream state.steps in
      let here : slot_of (set pool.table (number - 1) y) number ≡ y = slot-set-same pool.table (number - 1) y x.in_table in
      let there : (m : ℕ) → 1 ≤ m → m ≢ number → slot_of (set pool.table (number - 1) y) m ≡ slot_of pool.table m =
      λ m low q. slot-set-other pool.table (number - 1) (m - 1) y (place_other number m x.from low q) in
      record {
        sound = record {
          slots = length-set pool.table (number - 1) y ∙ sound.slots;
          table = apart-fault (set pool.table (number - 1) y)
              (apart-stands pool.table (set pool.table (number - 1) y) x.apart
              (λ i h. stands_set pool.table (number - 1) y x.in_table (record { opened = λ o. o; first = refl; segments = refl }) i));
          long = λ i h o. record {
            channel = long-splice state.channel pool.channel own.channel x.long.channel;
            storage = long-splice state.storage pool.storage own.storage x.long.storage;
            sediment = long-splice state.sediment pool.sediment own.sediment x.long.sediment;
          };
        };
        is = ap (state_in (with_state pool number state)) here
            ∙ state_is _ _ _ _ _ _ state.upstream state.steps
            (own-splice state.channel pool.channel own.channel x.long.channel)
            (own-splice state.storage pool.storage own.storage x.long.storage)
            (own-splice state.sediment pool.sediment own.sediment x.long.sediment);
        slot = here;
        opened = ap is_open here ∙ x.opened;
        segments = ap (λ (s : Slot). s.segments) here;
        slots = there;
        others = λ m low high q. record {
          opened = ap is_open (there m low q);
          segments = ap (λ (s : Slot). s.segments) (there m low q);
          closed = λ o. there m low q;
          state = λ o. ap (state_in (with_state pool number state)) (there m low q)
              ∙ state_is _ _ _ _ _ _ (slot_of pool.table m).upstream (slot_of pool.table m).steps
              (other-splice m low high q o state.channel pool.channel own.channel x.long.channel)
              (other-splice m low high q o state.storage pool.storage own.storage x.long.storage)
              (other-splice m low high q o state.sediment pool.sediment own.sediment x.long.sediment);
        };
      }

  -- the river closed
  pub with-closed : Closed pool number
  with-closed =
      let x = named in
      let y = closed_slot (slot_of pool.table number) in
      let here : slot_of (set pool.table (number - 1) y) number ≡ y = slot-set-same pool.table (number - 1) y x.in_table in
      let there : (m : ℕ) → 1 ≤ m → m ≢ number → slot_of (set pool.table (number - 1) y) m ≡ slot_of pool.table m =
      λ m low q. slot-set-other pool.table (number - 1) (m - 1) y (place_other number m x.from low q) in
      record {
        sound = record {
          slots = length-set pool.table (number - 1) y ∙ sound.slots;
          table = apart-fault (set pool.table (number - 1) y)
              (apart-stands pool.table (set pool.table (number - 1) y) x.apart
              (λ i h. stands_set pool.table (number - 1) y x.in_table (record { opened = λ o. x.opened; first = refl; segments = refl }) i));
          long = λ i h o. record { channel = x.long.channel; storage = x.long.storage; sediment = x.long.sediment };
        };
        slot = here;
        closed = ap is_open here;
        slots = there;
        others = λ m low high q. record {
          opened = ap is_open (there m low q);
          segments = ap (λ (s : Slot). s.segments) (there m low q);
          closed = λ o. there m low q;
          state = λ o. ap (state_in (closed_pool pool number)) (there m low q);
        };
      }

-- ---- an opening

-- the table after an accepted one
abbrev pub opened_table : List Slot → (number n u : ℕ) → List Slot
opened_table table number n u = set (map (moved table) table) (number - 1) (new_slot table n u)

-- a river's state at its start, with these figures
abbrev pub started : (c z w : List ℕ) → (u : ℕ) → State
started c z w u = record { channel = c; storage = z; sediment = w; upstream = u; steps = 0 }

-- the pool after an accepted one
abbrev pub opened_pool : Pool → (number n : ℕ) → (c z w : List ℕ) → (u : ℕ) → Pool
opened_pool pool number n c z w u = record {
  table = opened_table pool.table number n u;
  channel = packed pool.table c pool.channel;
  storage = packed pool.table z pool.storage;
  sediment = packed pool.table w pool.sediment;
}

-- what is so of it
pub record NewlyOpened (pool : Pool) (number n : ℕ) (c z w : List ℕ) (u : ℕ) : Type 0 where
  -- it is kept
  pub sound : Sound (opened_pool pool number n c z w u)
  -- the number's river is open, has n segments and the state at its start
  pub slot : slot_of (opened_pool pool number n c z w u).table number ≡ new_slot pool.table n u
  pub opened : is_open (slot_of (opened_pool pool number n c z w u).table number) ≡ true
  pub segments : (slot_of (opened_pool pool number n c z w u).table number).segments ≡ n
  pub is : state_of (opened_pool pool number n c z w u) number ≡ started c z w u
  -- the others' slots, the open ones moved to the front
  pub slots : (m : ℕ) → 1 ≤ m → m ≢ number → slot_of (opened_pool pool number n c z w u).table m ≡ moved pool.table (slot_of pool.table m)
  pub others : Others pool (opened_pool pool number n c z w u) number

-- an open river's slot after a packing
abbrev moved_slot : List Slot → Slot → Slot
moved_slot table x = record { opened = x.opened; first = covered_below table x.first; segments = x.segments; upstream = x.upstream; steps = x.steps }

-- it is that
moved_open : (table : List Slot) (x : Slot) → is_open x ≡ true → moved table x ≡ moved_slot table x
moved_open table x e = rw e

-- a slot with no river open stays
moved-closed : (table : List Slot) (x : Slot) → is_open x ≡ false → moved table x ≡ x
moved-closed table x e = rw e

-- open after a packing as before, with as many segments
record Moves (table : List Slot) (x : Slot) : Type 0 where
  opened : is_open (moved table x) ≡ is_open x
  segments : (moved table x).segments ≡ x.segments
  first : is_open x ≡ true → (moved table x).first ≡ covered_below table x.first

-- so it is of every slot
moves : (table : List Slot) (x : Slot) → Moves table x
moves table x = go (is_open x) refl
  where
    go : (o : Bool) → is_open x ≡ o → Moves table x
    go true e = let q = moved_open table x e in record { opened = ap is_open q; segments = ap (λ (s : Slot). s.segments) q; first = λ o. ap (λ (s : Slot). s.first) q }
    go false e = let q = moved-closed table x e in record { opened = ap is_open q; segments = ap (λ (s : Slot). s.segments) q; first = λ o. absurd (true≢false (sym o ∙ e)) }

-- two stretches with no segment in common have none after a packing
stay-apart : (fi ni fj nj ci cj : ℕ) → min (fi + ni) (fj + nj) ≤ max fi fj → (fi + ni ≤ fj → ci + ni ≤ cj) → (fj + nj ≤ fi → cj + nj ≤ ci) →
    min (ci + ni) (cj + nj) ≤ max ci cj
stay-apart fi ni fj nj ci cj h a b =
    ⊎_elim (λ l. ⊎_elim (λ k. omega (arith, l, k, h)) (λ k. omega (arith, b k)) (lt-or-ge fi (fj + nj))) (λ l. omega (arith, a l)) (lt-or-ge fj (fi + ni))

-- test 17 finds no fault: the new river fits behind the open ones
pub room_fits : (table : List Slot) (number n : ℕ) → room_fault table number n ≡ false → covered_below table most_segments + n ≤ most_segments
room_fits table number n room = omega (arith, (room-clear table number n room).3, below-open table most_segments)

module _ (table : List Slot) (number n u : ℕ) (slots : length table ≡ most_rivers) (apart : Apart table) (room : room_fault table number n ≡ false) where
  -- the place of the new river's slot is in the table
  new-place : number - 1 < length (map (moved table) table)
  new-place = let r = room-clear table number n room in omega (arith, r.0, r.1, slots, length-map table (moved table))

  -- the slot of an open river after the opening: the new one's, or one that was open
  data Now (i : ℕ) : Type 0 where
    new : slot_at (opened_table table number n u) i ≡ new_slot table n u → i ≡ number - 1 → Now i
    old : (slot_at (opened_table table number n u) i).first ≡ covered_below table (slot_at table i).first →
        (slot_at (opened_table table number n u) i).segments ≡ (slot_at table i).segments → is_open (slot_at table i) ≡ true → Now i

  -- the slot of another
  slot-old : (i : ℕ) → i ≢ number - 1 → slot_at (opened_table table number n u) i ≡ moved table (slot_at table i)
  slot-old i q = slot-set-other (map (moved table) table) (number - 1) i (new_slot table n u) q ∙ slot_map table table i

  -- the slot of the number
  slot-new : (i : ℕ) → i ≡ number - 1 → slot_at (opened_table table number n u) i ≡ new_slot table n u
  slot-new i q =
      ap (slot_at (opened_table table number n u)) q ∙ slot-set-same (map (moved table) table) (number - 1) (new_slot table n u) new-place

  -- each is one of the two
  now : (i : ℕ) → is_open (slot_at (opened_table table number n u) i) ≡ true → Now i
  now i o = ⊎_elim (λ q. new (slot-new i q) q) (was o) (same_or_not i (number - 1))
    where
      was : is_open (slot_at (opened_table table number n u) i) ≡ true → i ≢ number - 1 → Now i
      was o q =
          let e = slot-old i q in
          let x = moves table (slot_at table i) in
          let p : is_open (slot_at table i) ≡ true = sym x.opened ∙ ap is_open (sym e) ∙ o in
          old (ap (λ (s : Slot). s.first) e ∙ x.first p) (ap (λ (s : Slot). s.segments) e ∙ x.segments) p

  -- the open rivers after the opening end in the lists
  opened-ends : (i : ℕ) → i < most_rivers → Now i → end_of (slot_at (opened_table table number n u) i) ≤ most_segments
  opened-ends i h (new e q) = rw e (room_fits table number n room)
  opened-ends i h (old f m o) =
      omega (arith, f, m, room_fits table number n room, below-ends table i (record { slot = h; opened = o }) (apart.ends i h o))

  -- and no two have a segment in common
  opened-two : (i j : ℕ) → i < most_rivers → j < most_rivers → i ≢ j → Now i → Now j →
      min (end_of (slot_at (opened_table table number n u) i)) (end_of (slot_at (opened_table table number n u) j))
      ≤ max (slot_at (opened_table table number n u) i).first (slot_at (opened_table table number n u) j).first
  opened-two i j h k q (new e a) (new f b) = absurd (q (a ∙ sym b))
  opened-two i j h k q (new e a) (old f m o) =
      rw (e, f, m) (let r = below-ends table j (record { slot = k; opened = o }) (apart.ends j k o) in omega arith)
  opened-two i j h k q (old f m o) (new e a) =
      rw (e, f, m) (let r = below-ends table i (record { slot = h; opened = o }) (apart.ends i h o) in omega arith)
  opened-two i j h k q (old f m o) (old g l p) =
      rw (f, m, g, l)
      (stay-apart (slot_at table i).first (slot_at table i).segments (slot_at table j).first (slot_at table j).segments
      (covered_below table (slot_at table i).first) (covered_below table (slot_at table j).first) (apart.apart i j h k q o p)
      (λ r. below_apart table i (record { slot = h; opened = o }) (slot_at table j).first r)
      (λ r. below_apart table j (record { slot = k; opened = p }) (slot_at table i).first r))

  -- so the table has no fault
  opened-apart : Apart (opened_table table number n u)
  opened-apart = record {
    ends = λ i h o. opened-ends i h (now i o);
    apart = λ i j h k q o p. opened-two i j h k q (now i o) (now j p);
  }

-- the river opened, in a pool that is kept
module _ (pool : Pool) (number n : ℕ) (sound : Sound pool) (room : room_fault pool.table number n ≡ false) (lists : shared_fault (shared_lists pool) ≡ false) where
  -- a packed list is as long
  long-packed : (entries list : List ℕ) → length entries ≡ n → most_segments ≤ length list → most_segments ≤ length (packed pool.table entries list)
  long-packed entries list e h =
      let fits = room_fits pool.table number n room in
      omega (arith, h, length-packed pool.table entries list (omega (arith, h, fits, e)))

  -- and has the new river's figures
  own-packed : (entries list : List ℕ) → length entries ≡ n →
      stretch (covered_below pool.table most_segments) n (packed pool.table entries list) ≡ entries
  own-packed entries list e =
      ap (λ k. stretch (covered_below pool.table most_segments) k (packed pool.table entries list)) (sym e) ∙ new-packed pool.table entries list

  -- the pool after the opening
  pub with-opened : (c z w : List ℕ) (u : ℕ) → OwnLists n (started c z w u) → NewlyOpened pool number n c z w u
  with-opened c z w u own =
      let apart = fault-apart pool.table sound.table in
      let long = shared_long pool lists in
      let facts = room-clear pool.table number n room in
      let here : slot_of (opened_table pool.table number n u) number ≡ new_slot pool.table n u =
      slot-new pool.table number n u sound.slots apart room (number - 1) refl in
      let there : (m : ℕ) → 1 ≤ m → m ≢ number → slot_of (opened_table pool.table number n u) m ≡ moved pool.table (slot_of pool.table m) =
      λ m low q. slot-old pool.table number n u sound.slots apart room (m - 1) (place_other number m facts.0 low q) in
      record {
        sound = record {
          slots = length-set (map (moved pool.table) pool.table) (number - 1) (new_slot pool.table n u)
              ∙ length-map pool.table (moved pool.table) ∙ sound.slots;
          table = apart-fault (opened_table pool.table number n u) (opened-apart pool.table number n u sound.slots apart room);
          long = λ i h o. record {
            channel = long-packed c pool.channel own.channel long.channel;
            storage = long-packed z pool.storage own.storage long.storage;
            sediment = long-packed w pool.sediment own.sediment long.sediment;
          };
        };
        slot = here;
        opened = ap is_open here;
        segments = ap (λ (s : Slot). s.segments) here;
        is = ap (state_in (opened_pool pool number n c z w u)) here
            ∙ state_is _ _ _ _ _ _ u 0 (own-packed c pool.channel own.channel) (own-packed z pool.storage own.storage) (own-packed w pool.sediment own.sediment);
        slots = there;
        others = λ m low high q. record {
          opened = ap is_open (there m low q) ∙ (moves pool.table (slot_of pool.table m)).opened;
          segments = ap (λ (s : Slot). s.segments) (there m low q) ∙ (moves pool.table (slot_of pool.table m)).segments;
          closed = λ o. there m low q ∙ moved-closed pool.table (slot_of pool.table m) o;
          state = λ o.
              let place : m - 1 < most_rivers = omega arith in
              let at : Open pool.table (m - 1) = record { slot = place; opened = o } in
              let ends = apart.ends (m - 1) place o in
              ap (state_in (opened_pool pool number n c z w u)) (there m low q ∙ moved_open pool.table (slot_of pool.table m) o)
              ∙ state_is _ _ _ _ _ _ (slot_of pool.table m).upstream (slot_of pool.table m).steps
              (stretch-packed pool.table (m - 1) c pool.channel at ends long.channel)
              (stretch-packed pool.table (m - 1) z pool.storage at ends long.storage)
              (stretch-packed pool.table (m - 1) w pool.sediment at ends long.sediment);
        };
      }
