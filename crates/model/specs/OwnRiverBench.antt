-- The sheet's own river in figures, beside document 01's bench. A line has what the definitions give and what was worked out apart from them;
-- proofs/OwnRiverBench shows of the whole table at once that they are the same.
use Rattle.std.specs.Prelude.{List, [], ◌∷◌, ◌++◌, map, ℕ, ◌*◌, replicate}
use Rattle.model.specs.Sheet.{otr2}
use Rattle.model.specs.State.{State}
use Rattle.model.specs.OwnRiver.{rows_upstream, ahead, own_state}
use Rattle.model.specs.Bench.{all_bytes, brook, started2, listed, listed_state, Line, line}
use Rattle.model.specs.FlowBench.{melting, some_state}

-- a river in which all that a step takes from the sheet changes on the way: two segments, dt 1, M 4, D 50, A 100, AS 80, ALPHA, LAMHAT, LAMHAT2, Kd 3,
-- CB 600 and start figure 300; U is 1,000, and 5,000 from step 2 on; the flow 0, 400 from step 1 and 1,000 from step 3 on
unfoldable pub thaw : List ℕ
thaw =
    otr2 ++ all_bytes
    (1 ∷ 10 ∷ 4 ∷ 1 ∷ 0 ∷
    1 ∷ 2 ∷ 50 ∷ 100 ∷ 80 ∷ 30000000 ∷ replicate 5 0 ++ 200000000 ∷ 100000000 ∷ 0 ∷ 3 ∷ 600 ∷ 300 ∷
    2 ∷ 0 ∷ 1000 ∷ 2 ∷ 5000 ∷
    1 ∷ 1 ∷
    2 ∷ 1 ∷ 400 ∷ 3 ∷ 1000 ∷ [])

-- all that a state says: C, Z and W of each segment, U and the count
unfoldable pub told : State → List ℕ
told state = state.channel ++ state.storage ++ state.sediment ++ state.upstream ∷ state.steps ∷ []

-- that river at step k
unfoldable pub thaw_at : (k : ℕ) → List ℕ
thaw_at k = told (own_state (rows_upstream thaw) thaw k)

-- the table
unfoldable pub own_river_bench : List Line
own_river_bench =
    -- T10, "after one step C is 1,035 and 207"
    line 1 (ahead (rows_upstream (brook 1 0 2 3000)) (brook 1 0 2 3000) started2 1).channel (1035 ∷ 207 ∷ []) ∷
    -- the listing's last line, 2,667, 533 and 2 × 1,778, from the state that its start leaves and from the sheet alone
    line 2 (told (ahead (rows_upstream listed) listed (listed_state 0) 2)) (2667 ∷ 533 ∷ 1778 ∷ 3000 ∷ 2 ∷ []) ∷
    line 3 (told (own_state (rows_upstream listed) listed 2)) (2667 ∷ 533 ∷ 1778 ∷ 3000 ∷ 2 ∷ []) ∷
    -- the flow changes at steps 1 and 3
    line 4 (told (ahead (rows_upstream melting) melting some_state 4)) (121237 ∷ 442597 ∷ 3000000 ∷ 500000 ∷ 700000 ∷ 900000 ∷ 0 ∷ 4 ∷ []) ∷
    -- U is another at each step: with that of the step before C would be 397 and 245
    line 5 (told (ahead (λ j. 1000 * j) (brook 1 0 2 3000) started2 2)) (817 ∷ 384 ∷ 0 ∷ 0 ∷ 0 ∷ 0 ∷ 2000 ∷ 2 ∷ []) ∷
    -- "U at step j is that of the last row"
    line 6 (map (rows_upstream thaw) (0 ∷ 1 ∷ 2 ∷ 3 ∷ 4 ∷ [])) (1000 ∷ 1000 ∷ 5000 ∷ 5000 ∷ 5000 ∷ []) ∷
    -- the start, two steps and all
    line 7 (thaw_at 0) (300 ∷ 300 ∷ 300 ∷ 300 ∷ 300 ∷ 300 ∷ 1000 ∷ 0 ∷ []) ∷
    line 8 (thaw_at 2) (1693 ∷ 765 ∷ 386 ∷ 363 ∷ 474 ∷ 355 ∷ 5000 ∷ 2 ∷ []) ∷
    line 9 (thaw_at 4) (4410 ∷ 3190 ∷ 614 ∷ 509 ∷ 1412 ∷ 890 ∷ 5000 ∷ 4 ∷ []) ∷
    []
