-- Document 02, 2 in figures, beside T4 and T5: the flow at a segment's middle, with lateral outflow, with inflow and where a reach ends. A line has
-- what the definitions give and what was worked out apart from them; proofs/LateralBench shows of the whole table at once that they are the same.
use Rattle.std.specs.Prelude.{List, [], ◌∷◌, ◌++◌, map, ℕ, replicate}
use Rattle.model.specs.Sheet.{otr1}
use Rattle.model.specs.Flow.{course_of}
use Rattle.model.specs.HalfStep.{site_at, discharge}
use Rattle.model.specs.Load.{load_columns}
use Rattle.model.specs.Bench.{all_bytes, zeros, Line, line}
use Rattle.model.specs.FlowBench.{loading_of}

-- the fields of a reach with lateral flow, its A and D 1,000
unfoldable pub reach_with : (segments qin qout : ℕ) → List ℕ
reach_with segments qin qout = segments ∷ 1000 ∷ 1000 ∷ 1000 ∷ 0 ∷ qin ∷ qout ∷ replicate 9 0

-- a sheet of such reaches, with dt 100, a dx and a flow at the top
unfoldable pub sheet_with : (dx top count : ℕ) → (reaches : List ℕ) → List ℕ
sheet_with dx top count reaches =
    otr1 ++ all_bytes
    (100 ∷ dx ∷ 1 ∷ 1 ∷ top ∷
    count ∷ reaches ++
    1 ∷ 0 ∷ 0 ∷
    1 ∷ 1 ∷ [])

-- T4's slope, as a sheet
unfoldable pub slope_with : (top segments : ℕ) → List ℕ
slope_with top segments = sheet_with 1000 top 1 (reach_with segments 0 4545)

-- one segment that loses what T4's do, then two that gain 301 mL/s each
unfoldable pub fed_below : List ℕ
fed_below = sheet_with 1000 1000 2 (reach_with 1 0 4545 ++ reach_with 2 30100 0)

-- Q of these segments, counted from 0
unfoldable pub discharges : List ℕ → (segments : List ℕ) → List ℕ
discharges sheet segments = map (λ i. discharge (site_at (course_of sheet 0) i)) segments

-- the table
unfoldable pub lateral_bench : List Line
lateral_bench =
    -- "with two segments a top flow of 68 is refused and 69 passes check 10"; with 22 the first segment has less than half its own outflow
    line 1 (loading_of (slope_with 68 2) 0 ++ loading_of (slope_with 69 2) 0) (10 ∷ 2 ∷ 0 ∷ 0 ∷ []) ∷
    line 2 (loading_of (slope_with 22 2) 0 ++ loading_of (slope_with 23 2) 0) (10 ∷ 1 ∷ 10 ∷ 2 ∷ []) ∷
    -- "rounded down once": the slope's first segment has 23 less, its sixth 250; with half its own rounded by itself the sixth has 251 less
    line 3 (discharges (slope_with 1000 6) (0 ∷ 5 ∷ [])) (977 ∷ 750 ∷ []) ∷
    -- a gain above 0 is rounded down too: 22.725, 68.175 and 113.625 more
    line 4 (discharges (sheet_with 1000 1000 1 (reach_with 3 4545 0)) (0 ∷ 1 ∷ 2 ∷ [])) (1022 ∷ 1068 ∷ 1113 ∷ []) ∷
    -- "half its own" by each segment's own reach, − 22.725, − 45.45 + 150.5 and − 45.45 + 301 + 150.5, and not rounded where a reach ends
    line 5 (discharges fed_below (0 ∷ 1 ∷ 2 ∷ [])) (977 ∷ 1105 ∷ 1406 ∷ []) ∷
    -- half of an odd sum: (11 − 500) × 409 is − 200,001, and half of that a little more than 1 mL/s less
    line 6 (discharges (sheet_with 409 1000 1 (reach_with 1 11 500)) (0 ∷ [])) (998 ∷ []) ∷
    -- "The half-step numbers follow from the new flow": e and g of the slope's two segments with 977 and 931 mL/s
    line 7 (load_columns (slope_with 1000 2) 0 1 (zeros 2)).numbers.e (79913235 ∷ 78678432 ∷ []) ∷
    line 8 (load_columns (slope_with 1000 2) 0 1 (zeros 2)).numbers.g (27460947 ∷ 0 ∷ []) ∷
    []
