-- Test 13 of a forecast, of all that is lent.
use Rattle.std.specs.Prelude.{Bool, not, ◌||◌, List, [], ◌∷◌, ◌++◌, ℕ, ◌*◌, eqb, ltb, length}
use Rattle.model.specs.Sheet.{segment_count}
use Rattle.model.specs.State.{state_lists}
use Rattle.model.specs.Highest.{blocks_fault}
use Rattle.model.specs.Calls.{river_fault}
use Rattle.forecast_model.specs.Forecast.{Live, Room, side_lists}

-- "13 if its segment count is not the river's"
abbrev pub lent_fault : (sheet : List ℕ) → Live → Room → Bool
lent_fault sheet live room =
    let n = live.n in
    river_fault n (state_lists live.state ++ state_lists room.copies ++ room.working.p ∷ room.working.y ∷ [])
    || blocks_fault n live.highest || blocks_fault n room.highest || ltb (length room.sides) (side_lists * n) || not (eqb (segment_count sheet) n)
