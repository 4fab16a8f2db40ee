-- Document 02, 7 in figures: what a forecast answers and leaves, and the order of its tests. A line has what the definitions give and what was worked out
-- apart from them; proofs/ForecastBench shows of the whole table at once that they are the same.
use Rattle.std.specs.Prelude.{List, [], ◌∷◌, ◌++◌, ℕ, replicate}
use Rattle.std.proofs.Math.Option.{Option, none, some}
use Rattle.model.specs.State.{State}
use Rattle.model.specs.Refusals.{Outcome, accepted, refused, first}
use Rattle.model.specs.Calls.{Result}
use Rattle.model.specs.Pool.{vacant, Pool}
use Rattle.forecast_model.specs.Forecast.{Question, Live, Room, Foreseen, forecast, pool_forecast_tests, pool_forecast}
use Rattle.model.specs.Bench.{brook, Line, line}
use Rattle.model.specs.FlowBench.{refused_at}
use Rattle.model.specs.PoolBench.{found, table_of}
use Rattle.model.specs.OwnRiverBench.{thaw, told}

-- a live river of two segments on the sheet `thaw`, whose M is 4, with this C, U and count of steps done: it was fed another U than the rows', and the
-- highest figure beside it is not true
unfoldable pub live_with : (c c' u count : ℕ) → Live
live_with c c' u count = record {
  n = 2;
  state = record { channel = c ∷ c' ∷ []; storage = 350 ∷ 310 ∷ []; sediment = 320 ∷ 305 ∷ []; upstream = u; steps = count };
  highest = 77 ∷ [];
}

-- at step 1
unfoldable pub thawing : Live
thawing = live_with 900 400 7 1

-- what a forecast is lent to write, lists of these lengths: the copies' channel list, their highest figures, the sides and p
unfoldable pub room_of : (channel highest sides p : ℕ) → Room
room_of channel highest sides p = record {
  copies = record { channel = replicate channel 7; storage = 8 ∷ 8 ∷ 8 ∷ []; sediment = 9 ∷ 9 ∷ 9 ∷ []; upstream = 5; steps = 6 };
  highest = replicate highest 51;
  sides = replicate sides 0;
  working = record { p = replicate p 1; y = 2 ∷ 2 ∷ 2 ∷ [] };
}

-- with an entry behind the river in most of them
unfoldable pub long_room : Room
long_room = room_of 3 2 48 3

-- the keeper's question
abbrev pub asking : (gauge limit horizon : ℕ) → Question
asking gauge limit horizon = record { gauge = gauge; limit = limit; horizon = horizon }

-- the step found, behind 1, or 0 and 0 for none
abbrev pub step_found : Option ℕ → List ℕ
step_found none = 0 ∷ 0 ∷ []
step_found (some step) = 1 ∷ step ∷ []

-- an answer: the step found, U and the count; of a refusal its number
abbrev pub answered : Outcome Foreseen → List ℕ
answered (accepted v) = step_found v.found ++ v.upstream ∷ v.steps ∷ []
answered (refused number place) = number ∷ []

-- and all that is left behind it: the copies, their highest figures, p and y
unfoldable pub foretells : Result State Foreseen → List ℕ
foretells x = answered x.answer ++ told x.left.state ++ x.left.highest ++ x.left.working.p ++ x.left.working.y

-- a forecast of `thawing`
unfoldable pub thaw_ahead : (limit horizon : ℕ) → Result State Foreseen
thaw_ahead limit horizon = forecast thaw thawing long_room (asking 1 limit horizon)

-- what a forecast of this live river, lent this, is refused with
unfoldable pub turned_away : Live → Room → Question → List ℕ
turned_away live room asked = refused_at (forecast thaw live room asked).answer

-- a pool with `thawing` as river 3, whose segments are the first of the shared lists; these have so many entries
unfoldable pub thaw_pool : (entries : ℕ) → Pool
thaw_pool entries = record {
  table = table_of vacant vacant (record { opened = 1; first = 0; segments = 2; upstream = 7; steps = 1 });
  channel = 900 ∷ 400 ∷ replicate entries 0;
  storage = 350 ∷ 310 ∷ replicate entries 0;
  sediment = 320 ∷ 305 ∷ replicate entries 0;
}

-- what the tests of a forecast with this sheet find there
unfoldable pub pool_finds : (sheet : List ℕ) → Pool → (number gauge : ℕ) → ℕ
pool_finds sheet pool number gauge = found (first (pool_forecast_tests sheet pool number (77 ∷ []) long_room (asking gauge 900 3)))

-- the table
unfoldable pub forecast_bench : List Line
forecast_bench =
    -- above 900 first at step 2: the copies as there, their highest figure true, p and y of that step, and every entry behind the river as it was
    line 1 (foretells (thaw_ahead 900 3))
    (1 ∷ 2 ∷ 5000 ∷ 2 ∷ 1574 ∷ 828 ∷ 7 ∷ 405 ∷ 348 ∷ 8 ∷ 487 ∷ 361 ∷ 9 ∷ 5000 ∷ 2 ∷ 1574 ∷ 51 ∷ 106329542 ∷ 0 ∷ 1 ∷ 1492 ∷ 828 ∷ 2 ∷ []) ∷
    -- above 899 at the present step: no step is made, the highest figure is copied as it is lent, and U stays the live one
    line 2 (foretells (thaw_ahead 899 3))
    (1 ∷ 1 ∷ 7 ∷ 1 ∷ 900 ∷ 400 ∷ 7 ∷ 350 ∷ 310 ∷ 8 ∷ 320 ∷ 305 ∷ 9 ∷ 7 ∷ 1 ∷ 77 ∷ 51 ∷ 1 ∷ 1 ∷ 1 ∷ 2 ∷ 2 ∷ 2 ∷ []) ∷
    -- "A horizon of 0 looks only there": equal to the limit is not above
    line 3 (answered (thaw_ahead 900 0).answer ++ answered (thaw_ahead 899 0).answer) (0 ∷ 0 ∷ 7 ∷ 1 ∷ 1 ∷ 1 ∷ 7 ∷ 1 ∷ []) ∷
    -- at the horizon's last step, one step before its end, and where it ends before; 3,400 is not above 3,400
    line 4 (answered (thaw_ahead 3399 2).answer ++ answered (thaw_ahead 3399 3).answer) (1 ∷ 3 ∷ 5000 ∷ 3 ∷ 1 ∷ 3 ∷ 5000 ∷ 3 ∷ []) ∷
    line 5 (answered (thaw_ahead 3399 1).answer ++ answered (thaw_ahead 3400 2).answer) (0 ∷ 0 ∷ 5000 ∷ 2 ∷ 0 ∷ 0 ∷ 5000 ∷ 3 ∷ []) ∷
    -- never: the copies as at the horizon's end
    line 6 (foretells (thaw_ahead 1000000000 3))
    (0 ∷ 0 ∷ 5000 ∷ 4 ∷ 4400 ∷ 3172 ∷ 7 ∷ 625 ∷ 498 ∷ 8 ∷ 1405 ∷ 896 ∷ 9 ∷ 5000 ∷ 4 ∷ 4400 ∷ 51 ∷ 0 ∷ 0 ∷ 1 ∷ 4400 ∷ 3172 ∷ 2 ∷ []) ∷
    -- from step 0, with the rows' U of each step: 586 with 1,000 at step 1, and 1,695 with 5,000 at step 2
    line 7 (answered (forecast thaw (live_with 300 300 1000 0) long_room (asking 1 586 1)).answer ++ answered (forecast thaw (live_with 300 300 1000 0) long_room (asking 1 1694 2)).answer)
    (0 ∷ 0 ∷ 1000 ∷ 1 ∷ 1 ∷ 2 ∷ 5000 ∷ 2 ∷ []) ∷
    -- 20: segments 2 and 0 are not on the sheet; a step past M, and as many as 32 bits have; a refusal leaves everything
    line 8 (turned_away thawing long_room (asking 2 0 0) ++ turned_away thawing long_room (asking 0 0 0)) (20 ∷ 0 ∷ 20 ∷ 0 ∷ []) ∷
    line 9 (foretells (thaw_ahead 0 4) ++ turned_away thawing long_room (asking 1 0 4294967295))
    (20 ∷ 7 ∷ 7 ∷ 7 ∷ 8 ∷ 8 ∷ 8 ∷ 9 ∷ 9 ∷ 9 ∷ 5 ∷ 6 ∷ 51 ∷ 51 ∷ 1 ∷ 1 ∷ 1 ∷ 2 ∷ 2 ∷ 2 ∷ 20 ∷ 0 ∷ []) ∷
    -- with M steps done a horizon of 0 is accepted, "and never 15"; with more it is 20
    line 10 (turned_away (live_with 900 400 7 4) long_room (asking 1 0 0) ++ turned_away (live_with 900 400 7 5) long_room (asking 1 0 0)) (0 ∷ 0 ∷ 20 ∷ 0 ∷ []) ∷
    -- 14 before 20: a figure of segment 2, U, the count
    line 11 (turned_away (live_with 900 1000000001 7 1) long_room (asking 2 0 9) ++ turned_away (live_with 900 400 1000000001 1) long_room (asking 2 0 9)
    ++ turned_away (live_with 900 400 7 100001) long_room (asking 2 0 9)) (14 ∷ 2 ∷ 14 ∷ 0 ∷ 14 ∷ 0 ∷ []) ∷
    -- 13 before 14: a list of the copies, their highest figures, the sides and p, each an entry short; and all as long as they must be
    line 12 (turned_away (live_with 900 1000000001 7 1) (room_of 1 1 48 2) (asking 1 0 0) ++ turned_away thawing (room_of 2 0 48 2) (asking 1 0 0)
    ++ turned_away thawing (room_of 2 1 47 2) (asking 1 0 0) ++ turned_away thawing (room_of 2 1 48 1) (asking 1 0 0) ++ turned_away thawing (room_of 2 1 48 2) (asking 1 0 0))
    (13 ∷ 0 ∷ 13 ∷ 0 ∷ 13 ∷ 0 ∷ 13 ∷ 0 ∷ 0 ∷ 0 ∷ []) ∷
    -- "13 if its segment count is not the river's"; the sheet's tests first
    line 13 (refused_at (forecast (brook 1 0 1 0) thawing long_room (asking 1 0 0)).answer ++ refused_at (forecast (brook 2 1001 1 0) thawing long_room (asking 1 0 0)).answer)
    (13 ∷ 0 ∷ 11 ∷ 1 ∷ []) ∷
    -- on a pool: the sheet's tests, 18 of a river that is not open, 13 of the shared lists before 14 and 20, and 20
    line 14 (pool_finds (brook 2 1001 1 0) (thaw_pool 0) 2 1 ∷ pool_finds thaw (thaw_pool 0) 2 1 ∷ pool_finds thaw (thaw_pool 1021) 3 2 ∷ pool_finds thaw (thaw_pool 1022) 3 2 ∷ [])
    (11 ∷ 18 ∷ 13 ∷ 20 ∷ []) ∷
    -- there it says what it says alone
    line 15 (foretells (pool_forecast thaw (thaw_pool 1022) 3 (77 ∷ []) long_room (asking 1 900 3)))
    (1 ∷ 2 ∷ 5000 ∷ 2 ∷ 1574 ∷ 828 ∷ 7 ∷ 405 ∷ 348 ∷ 8 ∷ 487 ∷ 361 ∷ 9 ∷ 5000 ∷ 2 ∷ 1574 ∷ 51 ∷ 106329542 ∷ 0 ∷ 1 ∷ 1492 ∷ 828 ∷ 2 ∷ []) ∷
    []
