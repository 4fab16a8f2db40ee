-- What the lines of a step are read from.
use Rattle.std.specs.Prelude.{◌≡◌, List, ℕ, ◌-◌, ◌*◌, ◌<◌, ◌≤◌, length, get_or}
use Rattle.model.specs.Sheet.{segment_count}
use Rattle.model.specs.Flow.{course_of}
use Rattle.model.specs.HalfStep.{loaded_segment}
use Rattle.model.specs.State.{State}
use Rattle.model.specs.Refusals.{passes, first}
use Rattle.model.specs.Load.{river_tests}
use Rattle.terms.specs.Lent.{LongFigures}
use Rattle.output.specs.Text.{line}

-- a sheet that passes 1 to 12, 16 and 19, its segments' Kd, and figures for each of them
pub record Shown (sheet kd : List ℕ) (state : State) : Type 0 where
  pub passed : first (river_tests sheet) ≡ passes
  pub kd_long : segment_count sheet ≤ length kd
  pub kd_is : (i : ℕ) → i < segment_count sheet → get_or kd i 0 ≡ (loaded_segment (course_of sheet 0) i).kd
  pub figures : LongFigures (segment_count sheet) state.channel state.storage state.sediment

-- segment `number`, which counts from 1, is one of those that the lists have
pub record HasSegment (number : ℕ) (kd : List ℕ) (state : State) : Type 0 where
  pub from : 1 ≤ number
  pub kd_long : number ≤ length kd
  pub figures : LongFigures number state.channel state.storage state.sediment

-- "Fields: step, gauge's segment, C, Z, Kd × W", as the lists have them
unfoldable pub line_at : (number : ℕ) → (kd : List ℕ) → State → List ℕ
line_at number kd state =
    let i = number - 1 in
    line state.steps number (get_or state.channel i 0) (get_or state.storage i 0) (get_or kd i 0 * get_or state.sediment i 0)
