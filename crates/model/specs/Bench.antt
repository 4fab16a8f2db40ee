-- Document 01, "Bench figures": T1 to T11 in one table, T4 and T5 as document 02, 2 has them. A line has the figures that the definitions
-- give and those that are printed; proofs/Bench shows of the whole table at once that they are the same.
use Rattle.std.specs.Prelude.{◌≡◌, List, [], ◌∷◌, ◌++◌, ℕ, zero, suc, ◌-◌, ◌/◌, ◌%◌, ◌^◌, get_or, replicate}
use Rattle.rounding.specs.Nearest.{S, parts}
use Rattle.model.specs.Sheet.{otr1, reach_of}
use Rattle.model.specs.Flow.{Course, no_reach, course_of}
use Rattle.model.specs.HalfStep.{ten_of, site_at, discharge, numbers}
use Rattle.model.specs.State.{Columns, State}
use Rattle.model.specs.Refusals.{Outcome, accepted, refused}
use Rattle.model.specs.Load.{load_answer, load_columns}
use Rattle.model.specs.Calls.{Working, Left, Reported, start, step, report, call_result}

-- a field's four bytes, and a sheet of such fields
unfoldable pub bytes : ℕ → List ℕ
bytes n = n % 256 ∷ n / 256 % 256 ∷ n / 65536 % 256 ∷ n / 16777216 % 256 ∷ []

-- the bytes of fields, one after another
unfoldable pub all_bytes : List ℕ → List ℕ
all_bytes [] = []
all_bytes (n ∷ ns) = bytes n ++ all_bytes ns

-- "Brook: one segment, dx 10, A 100, AS 100, D 50, M 1, interval 1, one boundary row, gauge 1; flows, rates, concentrations, RHO and
-- Kd are 0 unless named." Q is the flow at the top, U the row's figure.
unfoldable pub brook : (dt Q segments U : ℕ) → List ℕ
brook dt Q segments U =
    otr1 ++ all_bytes
    (dt ∷ 10 ∷ 1 ∷ 1 ∷ Q ∷
    1 ∷ segments ∷ 50 ∷ 100 ∷ 100 ∷ replicate 12 0 ++
    1 ∷ 0 ∷ U ∷
    1 ∷ 1 ∷ [])

-- lists of n zeros to lend
unfoldable pub zeros : ℕ → Columns
zeros n = let x : List ℕ = replicate n 0 in record { numbers = ten_of (λ part. x); cl = x; cb = x; kd = x; start = x }

-- a state of n zeros to lend
unfoldable pub no_state : ℕ → State
no_state n = let x : List ℕ = replicate n 0 in record { channel = x; storage = x; sediment = x; upstream = 0; steps = 0 }

-- and working lists
unfoldable pub no_work : ℕ → Working
no_work n = record { p = replicate n 0; y = replicate n 0 }

-- the number of a refusal, if there is one
abbrev pub refusal : {A : Type 0} → Outcome A → List ℕ
refusal (accepted v) = []
refusal (refused number place) = number ∷ []

-- a brook of one segment: its answer
unfoldable pub brook_refusal : (dt Q : ℕ) → List ℕ
brook_refusal dt Q = refusal (load_answer (brook dt Q 1 0) 0 1 (zeros 1))

-- T4 and T5: three segments with qin 0 and qout 4,545, dx 1,000, below a flow of 1,000
unfoldable pub slope : Course
slope = record { dt = 1; dx = 1000; top = 1000; river = replicate 3 (record { reach = reach_of (λ k. get_or (replicate 6 0 ++ 4545 ∷ []) k 0); bands = no_reach.bands }) }

-- T10 and T11: "brook, dt 1, Q 0, two segments, start 0, U 3,000 throughout", loaded, started and stepped once
unfoldable pub brook2 : Columns
brook2 = load_columns (brook 1 0 2 3000) 0 1 (zeros 2)

-- its start, with U 3,000
unfoldable pub started2 : State
started2 = (call_result 2 (no_state 2) (start brook2 (0 ∷ []) 3000)).left.state

-- what the step leaves
unfoldable pub stepped2 : Left State
stepped2 = (call_result 2 started2 (step brook2.numbers brook2 (0 ∷ []) (no_work 2) 3000 1)).left

-- a line of a table: its number, what the definitions give and what the figures are to be, here those that the documents print
pub record Line : Type 0 where
  pub number : ℕ
  pub given : List ℕ
  pub printed : List ℕ

-- one by these
abbrev pub line : (number : ℕ) → (given printed : List ℕ) → Line
line number given printed = record { number = number; given = given; printed = printed }

-- T1 to T11
unfoldable pub bench : List Line
bench =
    -- "the fraction 1/3", "1/2^31", "0"
    line 1 (parts 1 3 ∷ []) (357913941 ∷ []) ∷
    line 2 (parts 1 (2 ^ 31) ∷ []) (1 ∷ []) ∷
    line 3 (parts 0 1 ∷ []) (0 ∷ []) ∷
    -- document 02, 2: "T4 becomes 69 less and T5 114 less"
    line 4 ((1000 - discharge (site_at slope 1)) ∷ []) (69 ∷ []) ∷
    line 5 ((1000 - discharge (site_at slope 2)) ∷ []) (114 ∷ []) ∷
    -- "e is one whole, accepted"; "refused 12"; "refused 11"; "refused 11"
    line 6 ((numbers (site_at (course_of (brook 2 1000 1 0) 0) 0)).e ∷ brook_refusal 2 1000) (S ∷ []) ∷
    line 7 (brook_refusal 3 1000) (12 ∷ []) ∷
    line 8 (brook_refusal 2 1001) (11 ∷ []) ∷
    line 9 (brook_refusal 3 1001) (11 ∷ []) ∷
    -- "after one step C is 1,035 and 207"; "there p of segment 1 is 178,956,971"
    line 10 stepped2.state.channel (1035 ∷ 207 ∷ []) ∷
    line 11 (get_or stepped2.working.p 0 0 ∷ []) (178956971 ∷ []) ∷
    []

-- The listing's river: "Brook, one segment, dt 2, M 2, interval 1, Q 0, AS 100, LAMHAT and LAMHAT2 each 500,000,000, Kd 2, CB 600, one
-- row (0, 3,000), gauge 1"
unfoldable pub listed : List ℕ
listed =
    otr1 ++ all_bytes
    (2 ∷ 10 ∷ 2 ∷ 1 ∷ 0 ∷
    1 ∷ 1 ∷ 50 ∷ 100 ∷ 100 ∷ replicate 6 0 ++ 500000000 ∷ 500000000 ∷ 0 ∷ 2 ∷ 600 ∷ 0 ∷
    1 ∷ 0 ∷ 3000 ∷
    1 ∷ 1 ∷ [])

-- its loading
unfoldable pub listed_columns : Columns
listed_columns = load_columns listed 0 1 (zeros 1)

-- loaded, started, and stepped with the row's figure
unfoldable pub listed_state : (steps : ℕ) → State
listed_state zero = (call_result 1 (no_state 1) (start listed_columns (0 ∷ []) 3000)).left.state
listed_state (suc n) = (call_result 1 (listed_state n) (step listed_columns.numbers listed_columns (0 ∷ []) (no_work 1) 3000 2)).left.state

-- what a line prints of a report
abbrev pub figures : Outcome Reported → List ℕ
figures (accepted v) = v.channel ∷ v.storage ∷ v.sediment ∷ []
figures (refused number place) = number ∷ []

-- the listing's lines, by step
unfoldable pub listing : List Line
listing =
    line 1 (figures (call_result 1 (listed_state 1) (report listed_columns 1)).answer) (2000 ∷ 400 ∷ 1334 ∷ []) ∷
    line 2 (figures (call_result 1 (listed_state 2) (report listed_columns 1)).answer) (2667 ∷ 533 ∷ 3556 ∷ []) ∷
    []

-- every line of a table gives the figures that are printed
abbrev pub Agree : List Line → Type 0
Agree [] = Unit {0}
Agree (x ∷ xs) = (x.given ≡ x.printed) × Agree xs
