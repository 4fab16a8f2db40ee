-- Document 01, "The listing": the lines that program `river` prints of a sheet, one after another.
use Rattle.std.specs.Prelude.{cond, List, [], ◌∷◌, ◌++◌, map, ℕ, zero, suc, ◌-◌, ◌*◌, ◌%◌, eqb}
use Rattle.model.specs.Sheet.{steps_m, interval, gauges}
use Rattle.model.specs.Flow.{course_of}
use Rattle.model.specs.HalfStep.{loaded_segment}
use Rattle.model.specs.State.{State, figures_at}
use Rattle.model.specs.Refusals.{Finding, passes, fails, first}
use Rattle.model.specs.Load.{river_tests}
use Rattle.model.specs.OwnRiver.{rows_upstream, ahead, own_start}
use Rattle.output.specs.Text.{heading, line, done, refused}

-- "Fields: step, gauge's segment, C, Z, Kd × W", of the gauge at this segment; Kd is the same for every flow
unfoldable pub gauge_line : List ℕ → State → (number : ℕ) → List ℕ
gauge_line sheet state number =
    let figures = figures_at state (number - 1) in
    line state.steps number figures.c figures.z ((loaded_segment (course_of sheet 0) (number - 1)).kd * figures.w)

-- "gauges in the sheet's order"
unfoldable pub step_lines : List ℕ → State → List (List ℕ)
step_lines sheet state = map (gauge_line sheet state) (gauges sheet)

-- "lines come at multiples of the interval"
unfoldable pub lines_at : List ℕ → State → List (List ℕ)
lines_at sheet state = cond (eqb (state.steps % interval sheet) 0) (step_lines sheet state) []

-- "from step 1 on": the lines of the k steps on from a state, not those of the state itself
unfoldable pub lines_ahead : (u : ℕ → ℕ) → List ℕ → State → (k : ℕ) → List (List ℕ)
lines_ahead u sheet state zero = []
lines_ahead u sheet state (suc k) = lines_ahead u sheet state k ++ lines_at sheet (ahead u sheet state (suc k))

-- the listing of the first k steps of the sheet's own river: the heading, their lines, "then `done` with the steps made"
unfoldable pub listing : (u : ℕ → ℕ) → List ℕ → (k : ℕ) → List (List ℕ)
listing u sheet k = heading ∷ (lines_ahead u sheet (own_start u sheet) k ++ (done k ∷ []))

-- "A refused sheet prints only `refused` and its number.": the lines where the sheet's tests find this
abbrev pub lines_after : Finding → List (List ℕ) → List (List ℕ)
lines_after passes lines = lines
lines_after (fails number place) lines = refused number ∷ []

-- what is printed of a sheet when k steps are made
unfoldable pub printed_to : List ℕ → (k : ℕ) → List (List ℕ)
printed_to sheet k = lines_after (first (river_tests sheet)) (listing (rows_upstream sheet) sheet k)

-- what program `river` prints of a sheet: "With the rows' U and the sheet's M"
unfoldable pub printed : List ℕ → List (List ℕ)
printed sheet = printed_to sheet (steps_m sheet)

-- the lines one behind the other; each ends in its own line feed
unfoldable pub text : List (List ℕ) → List ℕ
text [] = []
text (line ∷ lines) = line ++ text lines
