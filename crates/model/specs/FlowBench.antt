-- Document 02, 1 in figures, beside document 01's bench: sheets with flow rows, and steps whose two sets differ. A line has
-- what the definitions give and what was worked out apart from them; proofs/FlowBench shows of the whole table at once that they are the same.
use Rattle.std.specs.Prelude.{List, [], ◌∷◌, ◌++◌, map, ℕ, ◌*◌, ◌^◌, pos, get_or, replicate}
use Rattle.std.proofs.Common.{arith}
use Rattle.fractions.specs.Fractions.{whole}
use Rattle.model.specs.Sheet.{otr2}
use Rattle.model.specs.Flow.{flow_in_force}
use Rattle.model.specs.HalfStep.{ten, map_ten}
use Rattle.model.specs.Equations.{Pair}
use Rattle.model.specs.ExactRiver.{ExactFigures, ExactStep}
use Rattle.model.specs.State.{NumberSet, Columns, State}
use Rattle.model.specs.Refusals.{nothing, reach, segment, row, Outcome, accepted, refused}
use Rattle.model.specs.Load.{loaded, load_answer, load_columns}
use Rattle.model.specs.Calls.{Left, Call, step, call_result}
use Rattle.model.specs.Runs.{sheet_pair}
use Rattle.model.specs.Bench.{all_bytes, brook, zeros, no_work, Line, line}

-- document 01's brook with dt, its segments, M 4, the flow at the top, an outflow and a gauge, and then the flow rows behind their count
unfoldable pub snow : (dt segments Q qout gauge : ℕ) → (rows : List ℕ) → List ℕ
snow dt segments Q qout gauge rows =
    otr2 ++ all_bytes
    (dt ∷ 10 ∷ 4 ∷ 1 ∷ Q ∷
    1 ∷ segments ∷ 50 ∷ 100 ∷ 100 ∷ 0 ∷ 0 ∷ qout ∷ replicate 9 0 ++
    1 ∷ 0 ∷ 0 ∷
    1 ∷ gauge ∷ rows)

-- a flow of 400 mL/s from step 1 on, and of 1,000 from step 3 on
unfoldable pub melting : List ℕ
melting = snow 1 2 0 0 1 (2 ∷ 1 ∷ 400 ∷ 3 ∷ 1000 ∷ [])

-- the number of a refusal and that of its reach, segment or row, 0 for nothing; 0 and 0 where the loading is accepted
abbrev pub refused_at : {A : Type 0} → Outcome A → List ℕ
refused_at (accepted v) = 0 ∷ 0 ∷ []
refused_at (refused number nothing) = number ∷ 0 ∷ []
refused_at (refused number (reach i)) = number ∷ i ∷ []
refused_at (refused number (segment i)) = number ∷ i ∷ []
refused_at (refused number (row i)) = number ∷ i ∷ []

-- where the flow rows of a sheet begin, and how many there are
unfoldable pub flow_rows_told : List ℕ → List ℕ
flow_rows_told sheet = (loaded sheet).flow_rows_at ∷ (loaded sheet).flow_rows ∷ []

-- a loading for flow r, into lists of two entries
unfoldable pub loading_of : List ℕ → (r : ℕ) → List ℕ
loading_of sheet r = refused_at (load_answer sheet r 1 (zeros 2))

-- one for the flow at the top, of two segments and these flow rows behind their count
unfoldable pub with_rows : List ℕ → List ℕ
with_rows rows = loading_of (snow 1 2 0 0 1 rows) 0

-- the first segment's e in flow r's set
unfoldable pub first_e : List ℕ → (r : ℕ) → ℕ
first_e sheet r = get_or (load_columns sheet r 1 (zeros 2)).numbers.e 0 0

-- a set of two segments, with this list of e; behind it g, l, a, b, k, ks, h, m and s
unfoldable pub old_set_with : List ℕ → NumberSet
old_set_with e =
    ten e (50000000 ∷ 0 ∷ []) (30000000 ∷ 20000000 ∷ []) (70000000 ∷ 80000000 ∷ []) (200000000 ∷ 100000000 ∷ []) (10000000 ∷ 15000000 ∷ [])
    (20000000 ∷ 30000000 ∷ []) (300000000 ∷ 200000000 ∷ []) (40000000 ∷ 50000000 ∷ []) (60000000 ∷ 70000000 ∷ [])

-- the old set of the step
unfoldable pub old_set : NumberSet
old_set = old_set_with (100000000 ∷ 90000000 ∷ [])

-- its new set, with CL and CB
unfoldable pub new_columns : Columns
new_columns = record {
  numbers =
      ten (160000000 ∷ 120000000 ∷ []) (20000000 ∷ 0 ∷ []) (10000000 ∷ 25000000 ∷ []) (30000000 ∷ 40000000 ∷ []) (150000000 ∷ 180000000 ∷ [])
      (5000000 ∷ 8000000 ∷ []) (60000000 ∷ 10000000 ∷ []) (100000000 ∷ 150000000 ∷ []) (90000000 ∷ 20000000 ∷ []) (20000000 ∷ 30000000 ∷ []);
  cl = 5000000 ∷ 100000 ∷ [];
  cb = 4000000 ∷ 250000 ∷ [];
  kd = 0 ∷ 0 ∷ [];
  start = 0 ∷ 0 ∷ [];
}

-- and a state
unfoldable pub some_state : State
some_state =
    record { channel = 1000000 ∷ 2000000 ∷ []; storage = 3000000 ∷ 500000 ∷ []; sediment = 700000 ∷ 900000 ∷ []; upstream = 2500000; steps = 0 }

-- a step from this old set to the new one
unfoldable pub step_from : NumberSet → Call
step_from old = step old new_columns (0 ∷ []) (no_work 2) 1500000 1

-- what it answers
unfoldable pub stepping_from : NumberSet → List ℕ
stepping_from old = refused_at (call_result 2 some_state (step_from old)).answer

-- what it leaves
unfoldable pub some_left : Left State
some_left = (call_result 2 some_state (step_from old_set)).left

-- the table
unfoldable pub flow_bench : List Line
flow_bench =
    -- the flow in force at steps 0 to 4; of the pairs of steps 1 to 4 the first e, old and new: 1/4, 7/20 and 1/2 of one whole for the three flows
    line 1 (map (flow_in_force melting) (0 ∷ 1 ∷ 2 ∷ 3 ∷ 4 ∷ [])) (0 ∷ 1 ∷ 1 ∷ 2 ∷ 2 ∷ []) ∷
    line 2 (map (λ n. (sheet_pair melting n 0).old.e) (0 ∷ 1 ∷ 2 ∷ 3 ∷ [])) (268435456 ∷ 375809638 ∷ 375809638 ∷ 536870912 ∷ []) ∷
    line 3 (map (λ n. (sheet_pair melting n 0).new.e) (0 ∷ 1 ∷ 2 ∷ 3 ∷ [])) (375809638 ∷ 375809638 ∷ 536870912 ∷ 536870912 ∷ []) ∷
    -- each flow's own set; "13 if past the rows", of OTR1 any but 0
    line 4 (map (first_e melting) (0 ∷ 1 ∷ 2 ∷ [])) (268435456 ∷ 375809638 ∷ 536870912 ∷ []) ∷
    line 5 (loading_of melting 2 ++ loading_of melting 3) (0 ∷ 0 ∷ 13 ∷ 0 ∷ []) ∷
    line 6 (loading_of (brook 1 0 2 0) 0 ++ loading_of (brook 1 0 2 0) 1) (0 ∷ 0 ∷ 13 ∷ 0 ∷ []) ∷
    -- "where the flow rows begin and how many there are (both 0 in OTR1)"
    line 7 (flow_rows_told melting ++ flow_rows_told (brook 1 0 2 0)) (116 ∷ 2 ∷ 0 ∷ 0 ∷ []) ∷
    -- a count of 0 and of 65; "checks 2 and 4 go by whichever section is last": no section, a row cut short, a field too many
    line 8 (with_rows (0 ∷ []) ++ with_rows (65 ∷ [])) (3 ∷ 0 ∷ 3 ∷ 0 ∷ []) ∷
    line 9 (with_rows [] ++ with_rows (1 ∷ 1 ∷ [])) (2 ∷ 0 ∷ 2 ∷ 0 ∷ []) ∷
    line 10 (with_rows (1 ∷ 1 ∷ 0 ∷ 0 ∷ [])) (4 ∷ 0 ∷ []) ∷
    -- 16: a start of 0, above M, not rising, a flow above its range; "after 9"
    line 11 (with_rows (1 ∷ 0 ∷ 0 ∷ [])) (16 ∷ 1 ∷ []) ∷
    line 12 (with_rows (2 ∷ 1 ∷ 0 ∷ 5 ∷ 0 ∷ [])) (16 ∷ 2 ∷ []) ∷
    line 13 (with_rows (2 ∷ 2 ∷ 0 ∷ 2 ∷ 0 ∷ [])) (16 ∷ 2 ∷ []) ∷
    line 14 (with_rows (1 ∷ 1 ∷ 100000001 ∷ [])) (16 ∷ 1 ∷ []) ∷
    line 15 (loading_of (snow 1 2 0 0 3 (1 ∷ 0 ∷ 0 ∷ [])) 0) (9 ∷ 1 ∷ []) ∷
    -- the top flow fails 11 at segment 1 and the row 10 at segment 2: "before the next check"; a row that fails 11, and one that fails 12
    line 16 (loading_of (snow 1 2 1002 10000 1 (1 ∷ 1 ∷ 1 ∷ [])) 0) (10 ∷ 2 ∷ []) ∷
    line 17 (with_rows (1 ∷ 1 ∷ 1001 ∷ [])) (11 ∷ 1 ∷ []) ∷
    line 18 (loading_of (snow 3 1 0 0 1 (2 ∷ 1 ∷ 0 ∷ 2 ∷ 1000 ∷ [])) 0) (12 ∷ 1 ∷ []) ∷
    -- the top flow fails 10 at segment 4, the row at segment 2: "the first flow at fault gives the place"
    line 19 (loading_of (snow 1 4 3 10000 1 (1 ∷ 1 ∷ 1 ∷ [])) 0) (10 ∷ 4 ∷ []) ∷
    -- a step whose old set is short by an entry, and one whose T passes one whole in segment 2
    line 20 (stepping_from (old_set_with (100000000 ∷ []))) (13 ∷ 0 ∷ []) ∷
    line 21 (stepping_from (old_set_with (100000000 ∷ 1000000000 ∷ []))) (14 ∷ 2 ∷ []) ∷
    -- the step: C', Z', W', p and y
    line 22 some_left.state.channel (1454210 ∷ 1568422 ∷ []) ∷
    line 23 some_left.state.storage (2459965 ∷ 737443 ∷ []) ∷
    line 24 some_left.state.sediment (840935 ∷ 1161708 ∷ []) ∷
    line 25 some_left.working.p (16346061 ∷ 0 ∷ []) ∷
    line 26 some_left.working.y (1430333 ∷ 1568422 ∷ []) ∷
    []

-- A step of the exact river worked out by hand, of one segment whose numbers differ on the two sides, in sixty-fourths of one whole
unfoldable pub one_pair : Pair
one_pair =
    let part : ℕ → ℕ = λ k. k * 2 ^ 24 in
    record { old = map_ten part (ten 16 4 8 12 10 5 3 20 6 5); new = map_ten part (ten 8 2 16 8 8 2 4 16 4 4); cl = 2000; cb = 400 }

-- C 400, Z 800 and W 1,000
unfoldable pub old_figures : ExactFigures
old_figures = record { c = whole 400; z = whole 800; w = whole 1000 }

-- With U 1,000 and U' 3,000, in sixty-fourths: 104 C' − 8 × 3,000 − 8 Z' − 4 W' = 14 × 400 + 16 × 1,000 + 12 × 800 + 5 × 1,000 + 24 × 2,000,
-- 80 Z' − 8 C' = 45 × 800 + 10 × 400 + 10 × 400 and 80 W' − 16 C' = 44 × 1,000 + 20 × 400. So C' 1,125, Z' 1,325/2 and W' 875.
unfoldable pub new_fractions : ExactFigures
new_fractions = record { c = whole 1125; z = record { num = pos 1325; den = 2; above = omega arith }; w = whole 875 }

-- they solve the equations
abbrev pub ExactBench : Type 0
ExactBench = ExactStep 1000 3000 (one_pair ∷ []) (old_figures ∷ []) (new_fractions ∷ [])
