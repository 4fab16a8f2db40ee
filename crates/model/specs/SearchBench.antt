-- Document 02, 5 in figures: blocks, the highest figures that calls leave, 13 of their list, and the tests of a search. A line has what the
-- definitions give and what was worked out apart from them; proofs/SearchBench shows of the whole table at once that they are the same.
use Rattle.std.specs.Prelude.{List, [], ◌∷◌, ◌++◌, map, ℕ, get_or, replicate}
use Rattle.model.specs.HalfStep.{ten}
use Rattle.model.specs.State.{Columns, State}
use Rattle.model.specs.Refusals.{first}
use Rattle.model.specs.Highest.{block_count, block_of, highest_of}
use Rattle.model.specs.Calls.{Left, start, step, call_result}
use Rattle.model.specs.Search.{search_tests}
use Rattle.model.specs.Pool.{Slot, vacant, Pool, pool_result, pool_search_tests, open_highest}
use Rattle.model.specs.Bench.{zeros, no_state, no_work, Line, line}
use Rattle.model.specs.FlowBench.{refused_at, old_set, new_columns, some_state}
use Rattle.model.specs.PoolBench.{found, open_at, table_of, two_open, from10, long_pool, short_pool, sheet_with_start}

-- one segment with exchange and sorption, whose figures all are 1,000,000,000: before the cut its new channel figure is one more
unfoldable pub full_columns : Columns
full_columns =
    let x : List ℕ = 0 ∷ [] in
    record { numbers = ten x x x (8 ∷ []) (80000000 ∷ []) x x (8 ∷ []) x (80000000 ∷ []); cl = x; cb = x; kd = x; start = x }

unfoldable pub full_state : State
full_state =
    record { channel = 1000000000 ∷ []; storage = 1000000000 ∷ []; sediment = 1000000000 ∷ []; upstream = 1000000000; steps = 0 }

-- what its step leaves
unfoldable pub full_left : Left State
full_left = (call_result 1 full_state (step full_columns.numbers full_columns (7 ∷ 8 ∷ []) (no_work 1) 1000000000 1)).left

-- the highest figures that a start with this U, and a step, of the state of `FlowBench` leave
unfoldable pub started_highest : (u : ℕ) → List ℕ
started_highest u = (call_result 2 some_state (start new_columns (7 ∷ 8 ∷ []) u)).left.highest

unfoldable pub stepped_highest : List ℕ
stepped_highest = (call_result 2 some_state (step old_set new_columns (7 ∷ 8 ∷ []) (no_work 2) 1500000 1)).left.highest

-- what a start of n segments, all zeros, and a step of that state answer where they are lent these highest figures
unfoldable pub starting_with : (n : ℕ) → (highest : List ℕ) → (u : ℕ) → List ℕ
starting_with n highest u = refused_at (call_result n (no_state n) (start (zeros n) highest u)).answer

unfoldable pub stepping_with : (highest : List ℕ) → (u' : ℕ) → List ℕ
stepping_with highest u' = refused_at (call_result 2 some_state (step old_set new_columns highest (no_work 2) u' 1)).answer

-- the highest figures that a start of river 3 leaves
unfoldable pub river3_highest : Pool → (highest : List ℕ) → List ℕ
river3_highest pool highest = (pool_result pool 3 (start (zeros 2) highest 8)).left.highest

-- what 13 finds of a search of n segments, lent this many channel and highest figures
unfoldable pub searching : (n channel highest : ℕ) → ℕ
searching n channel highest = found (first (search_tests n (replicate channel 0) (replicate highest 0)))

-- what the tests of a search on a pool with this table find, lent this many
unfoldable pub searching_on : List Slot → (number channel highest : ℕ) → ℕ
searching_on table number channel highest = found (first (pool_search_tests table (replicate channel 0) number (replicate highest 0)))

-- the table
unfoldable pub search_bench : List Line
search_bench =
    -- "each sixteen segments begun", and the block of a segment
    line 1 (map block_count (1 ∷ 15 ∷ 16 ∷ 17 ∷ 31 ∷ 32 ∷ 33 ∷ 1023 ∷ 1024 ∷ [])) (1 ∷ 1 ∷ 1 ∷ 2 ∷ 2 ∷ 2 ∷ 3 ∷ 64 ∷ 64 ∷ []) ∷
    line 2 (map block_of (0 ∷ 15 ∷ 16 ∷ 31 ∷ 32 ∷ 1023 ∷ [])) (0 ∷ 0 ∷ 1 ∷ 1 ∷ 2 ∷ 63 ∷ []) ∷
    -- of 10, 11, 12, .. : a full block and one that is begun; the figures behind the river do not count
    line 3 (highest_of 17 (from10 40) ++ highest_of 32 (from10 40) ++ highest_of 33 (from10 40)) (25 ∷ 26 ∷ 25 ∷ 41 ∷ 25 ∷ 41 ∷ 42 ∷ []) ∷
    -- the highest need not be the last, or the first
    line 4 (let x : List ℕ = 5 ∷ 9 ∷ 2 ∷ [] in highest_of 1 x ++ highest_of 2 x ++ highest_of 3 x) (5 ∷ 9 ∷ 9 ∷ []) ∷
    -- a start and an opening leave those of the start figures, and the entries behind them as they were; a refused start leaves all
    line 5 (started_highest 1500000) (0 ∷ 8 ∷ []) ∷
    line 6 (open_highest (sheet_with_start 100 2) 0 1 (zeros 2) long_pool 2 (7 ∷ 8 ∷ []) 9) (500 ∷ 8 ∷ []) ∷
    line 7 (started_highest 1000000001) (7 ∷ 8 ∷ []) ∷
    -- a step leaves those of its new figures, 1,454,210 and 1,568,422, where the old ones were 1,000,000 and 2,000,000
    line 8 stepped_highest (1568422 ∷ 8 ∷ []) ∷
    -- they are those of the cut figures: y of the only segment is 1,000,000,001
    line 9 (get_or full_left.working.y 0 0 ∷ []) (1000000001 ∷ []) ∷
    line 10 full_left.highest (1000000000 ∷ 8 ∷ []) ∷
    -- 13 of a list that is one entry short, before 14; 14 skips what it holds
    line 11 (starting_with 2 [] 1000000001 ++ starting_with 17 (0 ∷ []) 0 ++ starting_with 16 (4294967295 ∷ []) 0) (13 ∷ 0 ∷ 13 ∷ 0 ∷ 0 ∷ 0 ∷ []) ∷
    line 12 (stepping_with [] 1000000001 ++ stepping_with (4294967295 ∷ []) 1500000) (13 ∷ 0 ∷ 0 ∷ 0 ∷ []) ∷
    -- a search: no segment, 1,025 segments, a list of either kind one entry short, and both as long as they must be
    line 13 (searching 0 9 9 ∷ searching 1025 1025 65 ∷ searching 17 16 2 ∷ searching 17 17 1 ∷ searching 17 17 2 ∷ []) (13 ∷ 13 ∷ 13 ∷ 13 ∷ 0 ∷ []) ∷
    -- a pool's river 3, two segments from segment 1 on: its blocks count from its own first segment
    line 14 (river3_highest long_pool (7 ∷ 8 ∷ []) ++ river3_highest long_pool [] ++ river3_highest short_pool (7 ∷ 8 ∷ [])) (0 ∷ 8 ∷ 7 ∷ 8 ∷ []) ∷
    -- a search on a pool: 18 before 13; 13 of the channel list and of the highest figures
    line 15 (searching_on two_open 2 0 0 ∷ searching_on two_open 3 1023 1 ∷ searching_on two_open 3 1024 0 ∷ searching_on two_open 3 1024 1 ∷ [])
    (18 ∷ 13 ∷ 13 ∷ 0 ∷ []) ∷
    -- a river of no segment in the table handed in has nothing to be searched
    line 16 (searching_on (table_of (open_at 0 0) vacant vacant) 1 1024 1 ∷ []) (13 ∷ []) ∷
    []
