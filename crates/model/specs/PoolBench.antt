-- Document 02, 3 in figures: 17 and 18 of tables, the order of the tests, packing, and what calls leave in a pool. A line has what the definitions
-- give and what was worked out apart from them; proofs/PoolBench shows of the whole table at once that they are the same.
use Rattle.std.specs.Prelude.{Bool, cond, List, [], ◌∷◌, ◌++◌, map, ℕ, replicate, take}
use Rattle.lists.specs.Lists.{tab}
use Rattle.model.specs.Sheet.{otr1}
use Rattle.model.specs.Refusals.{Finding, passes, fails}
use Rattle.model.specs.Calls.{Call, start}
use Rattle.model.specs.Pool.{Slot, vacant, slot_at, Pool, room_fault, table_fault, pool_result, packed, open_answer, pool_open, close_finding, closed_table}
use Rattle.model.specs.Bench.{all_bytes, zeros, Line, line}
use Rattle.model.specs.FlowBench.{refused_at}

-- a slot with an open river, and one whose river was closed
unfoldable pub open_at : (first segments : ℕ) → Slot
open_at first segments = record { opened = 1; first = first; segments = segments; upstream = 7; steps = 3 }

unfoldable pub closed_at : (first segments : ℕ) → Slot
closed_at first segments = record { opened = 0; first = first; segments = segments; upstream = 7; steps = 3 }

-- a table whose first three slots are these
unfoldable pub table_of : Slot → Slot → Slot → List Slot
table_of x y z = x ∷ y ∷ z ∷ replicate 5 vacant

-- 1 where a test finds a ground
unfoldable pub ground : Bool → ℕ
ground fault = cond fault 1 0

unfoldable pub found : Finding → ℕ
found passes = 0
found (fails number place) = number

-- a slot's figures
unfoldable pub figures_in : Slot → List ℕ
figures_in x = x.opened ∷ x.first ∷ x.segments ∷ x.upstream ∷ x.steps ∷ []

-- those of the first three slots of a table
unfoldable pub three_in : List Slot → List ℕ
three_in table = figures_in (slot_at table 0) ++ figures_in (slot_at table 1) ++ figures_in (slot_at table 2)

-- 18 of such a table
unfoldable pub eighteen : Slot → Slot → Slot → ℕ
eighteen x y z = ground (table_fault (table_of x y z))

-- rivers 1 and 3 are open, 3 before 1 in the lists, and 2 was closed
unfoldable pub two_open : List Slot
two_open = table_of (open_at 6 3) (closed_at 0 12) (open_at 1 2)

-- river 1 has 1,000 segments, and a closed one had the 20 behind
unfoldable pub nearly_full : List Slot
nearly_full = table_of (open_at 0 1000) (closed_at 1000 20) vacant

-- 17 of a number and a segment count there
unfoldable pub room : (number n : ℕ) → ℕ
room number n = ground (room_fault nearly_full number n)

-- rivers 1 and 2 have segment 1 in common
unfoldable pub overlapping : List Slot
overlapping = table_of (open_at 0 2) (open_at 1 1) vacant

-- rivers 1 and 2 overlap, 3 stands apart
unfoldable pub beside_two : List Slot
beside_two = table_of (open_at 0 10) (open_at 5 5) (open_at 20 2)

-- river 1 has another mark than 1
unfoldable pub marked7 : List Slot
marked7 = table_of (record { opened = 7; first = 0; segments = 2; upstream = 0; steps = 0 }) vacant vacant

-- 10, 11, 12, ..
unfoldable pub from10 : (n : ℕ) → List ℕ
from10 n = tab 10 n (λ i. i)

-- a pool with this table and lists of n entries
unfoldable pub pool_with : List Slot → (n : ℕ) → Pool
pool_with table n = record { table = table; channel = from10 n; storage = from10 n; sediment = from10 n }

-- that of the two open rivers
unfoldable pub long_pool : Pool
long_pool = pool_with two_open 1024

-- the same with lists that are an entry short
unfoldable pub short_pool : Pool
short_pool = pool_with two_open 1023

-- one whose rivers overlap and whose lists are empty
unfoldable pub broken_pool : Pool
broken_pool = pool_with overlapping 0

-- a sheet of this many segments with a dt, its start figure 500
unfoldable pub sheet_with_start : (dt segments : ℕ) → List ℕ
sheet_with_start dt segments =
    otr1 ++ all_bytes
    (dt ∷ 1000 ∷ 1 ∷ 1 ∷ 1000 ∷
    1 ∷ segments ∷ 1000 ∷ 1000 ∷ 1000 ∷ replicate 11 0 ++ 500 ∷
    1 ∷ 0 ∷ 0 ∷
    1 ∷ 1 ∷ [])

-- what an opening of two segments with this dt, lent lists of n entries, answers
unfoldable pub opening_of : (dt n : ℕ) → Pool → (number u : ℕ) → List ℕ
opening_of dt n pool number u = refused_at (open_answer (sheet_with_start dt 2) 0 1 (zeros n) pool number (0 ∷ []) u)

-- three slots of the table, and the first entries of the channel list
unfoldable pub shown_of : Pool → List ℕ
shown_of pool = three_in pool.table ++ take 10 pool.channel

-- those that an opening of river 2 leaves
unfoldable pub opened_with : (u : ℕ) → List ℕ
opened_with u = shown_of (pool_open (sheet_with_start 100 2) 0 1 (zeros 2) long_pool 2 (0 ∷ []) u)

-- a start with U 8, lent lists of two entries
unfoldable pub small_start : Call
small_start = start (zeros 2) (0 ∷ []) 8

-- what it answers
unfoldable pub starting_of : Pool → (number : ℕ) → List ℕ
starting_of pool number = refused_at (pool_result pool number small_start).answer

-- what a closing answers
unfoldable pub closes : List Slot → (number : ℕ) → ℕ
closes table number = found (close_finding table number)

-- the table
unfoldable pub pool_bench : List Line
pool_bench =
    -- 17: "the new river's segments and those of the open ones exceed 1,024 together", a closed one's do not count; a number that is open; 0 and 9
    line 1 (room 2 24 ∷ room 2 25 ∷ room 8 24 ∷ room 1 1 ∷ room 0 1 ∷ room 9 1 ∷ []) (0 ∷ 1 ∷ 0 ∷ 1 ∷ 1 ∷ 1 ∷ []) ∷
    -- 18: rivers that touch, and that have one segment in common, in either order; one that ends at 1,024, and one that passes it; a closed one
    line 2 (eighteen (open_at 0 10) (open_at 10 5) vacant ∷ eighteen (open_at 0 11) (open_at 10 5) vacant ∷ eighteen (open_at 20 5) (open_at 4 3) (open_at 0 5) ∷ [])
    (0 ∷ 1 ∷ 1 ∷ []) ∷
    line 3 (eighteen (open_at 1000 24) vacant vacant ∷ eighteen (open_at 1000 25) vacant vacant ∷ eighteen (closed_at 1000 25) (open_at 1000 24) vacant ∷ [])
    (0 ∷ 1 ∷ 0 ∷ []) ∷
    -- a river of no segment has none in common with another
    line 4 (eighteen (open_at 0 10) (open_at 5 0) vacant ∷ []) (0 ∷ []) ∷
    -- packing: the segments 1 and 2 of river 3, then 6 to 8 of river 1, then the new river's
    line 5 (packed two_open (100 ∷ 101 ∷ []) (from10 12)) (11 ∷ 12 ∷ 16 ∷ 17 ∷ 18 ∷ 100 ∷ 101 ∷ 17 ∷ 18 ∷ 19 ∷ 20 ∷ 21 ∷ []) ∷
    -- the order of the tests: 12 of the sheet before 17; 17 before 18 and 13; 18 before 13; 13 of the fourteen lists and of the shared ones before 14; 14
    line 6 (opening_of 3600 2 long_pool 9 0 ++ opening_of 100 0 broken_pool 1 0) (12 ∷ 1 ∷ 17 ∷ 0 ∷ []) ∷
    line 7 (opening_of 100 0 broken_pool 3 0 ++ opening_of 100 1 long_pool 2 1000000001) (18 ∷ 0 ∷ 13 ∷ 0 ∷ []) ∷
    line 8 (opening_of 100 2 short_pool 2 1000000001 ++ opening_of 100 2 long_pool 2 1000000001) (13 ∷ 0 ∷ 14 ∷ 0 ∷ []) ∷
    line 9 (opening_of 100 2 long_pool 2 1000000000) (0 ∷ 0 ∷ []) ∷
    -- "a closed river's segments are used again": what the accepted opening leaves; and a refused one, which leaves all as it was
    line 10 (opened_with 9)
    (1 ∷ 2 ∷ 3 ∷ 7 ∷ 3 ∷ 1 ∷ 5 ∷ 2 ∷ 9 ∷ 0 ∷ 1 ∷ 0 ∷ 2 ∷ 7 ∷ 3 ∷ 11 ∷ 12 ∷ 16 ∷ 17 ∷ 18 ∷ 500 ∷ 500 ∷ 17 ∷ 18 ∷ 19 ∷ []) ∷
    line 11 (opened_with 1000000001)
    (1 ∷ 6 ∷ 3 ∷ 7 ∷ 3 ∷ 0 ∷ 0 ∷ 12 ∷ 7 ∷ 3 ∷ 1 ∷ 1 ∷ 2 ∷ 7 ∷ 3 ∷ 10 ∷ 11 ∷ 12 ∷ 13 ∷ 14 ∷ 15 ∷ 16 ∷ 17 ∷ 18 ∷ 19 ∷ []) ∷
    -- a start of river 3 writes its own stretch and its slot, and nothing else; 18 of river 2, which is closed, before 13 of the shared lists
    line 12 (shown_of (pool_result long_pool 3 small_start).left.state)
    (1 ∷ 6 ∷ 3 ∷ 7 ∷ 3 ∷ 0 ∷ 0 ∷ 12 ∷ 7 ∷ 3 ∷ 1 ∷ 1 ∷ 2 ∷ 8 ∷ 0 ∷ 10 ∷ 0 ∷ 0 ∷ 13 ∷ 14 ∷ 15 ∷ 16 ∷ 17 ∷ 18 ∷ 19 ∷ []) ∷
    line 13 (starting_of short_pool 2 ++ starting_of short_pool 3) (18 ∷ 0 ∷ 13 ∷ 0 ∷ []) ∷
    -- 18 of an open river where two others overlap, before all else; a mark that is not 1 is an open river's
    line 14 (closes beside_two 3 ∷ refused_at (pool_result (pool_with beside_two 0) 3 (start (zeros 0) [] 1000000001)).answer) (18 ∷ 18 ∷ 0 ∷ []) ∷
    line 15 (closes marked7 1 ∷ ground (room_fault marked7 1 1) ∷ ground (room_fault marked7 2 1023) ∷ []) (0 ∷ 1 ∷ 1 ∷ []) ∷
    -- a closing: the mark alone; of a river that is not open, and of numbers that none has, 18
    line 16 (three_in (closed_table two_open 3)) (1 ∷ 6 ∷ 3 ∷ 7 ∷ 3 ∷ 0 ∷ 0 ∷ 12 ∷ 7 ∷ 3 ∷ 0 ∷ 1 ∷ 2 ∷ 7 ∷ 3 ∷ []) ∷
    line 17 (map (closes two_open) (3 ∷ 2 ∷ 0 ∷ 9 ∷ [])) (0 ∷ 18 ∷ 18 ∷ 18 ∷ []) ∷
    []
