-- One step over lent lists: what it asks of them, and what it leaves in them.
use Rattle.std.specs.Prelude.{◌≡◌, List, map, ℕ, ◌<◌, ◌≤◌, length, get_or}
use Rattle.lists.specs.Lists.{tab, over}
use Rattle.model.specs.Ranges.{highest, most_segments}
use Rattle.model.specs.Equations.{Figures}
use Rattle.model.specs.Sweep.{Passed, under, downward, stepped}
use Rattle.model.specs.State.{NumberSet, Columns, pair_at, pairs_of, State, figures_at, figures_of}
use Rattle.model.specs.Calls.{Working}
use Rattle.terms.specs.Lent.{LongSet, LongFigures}
use Rattle.sweep_laws.specs.Accepted.{Accepted, AtMost}
use Rattle.sweep_laws.specs.Stable.{Stable}
use Rattle.segment.specs.Ready.{FiguresReady}

-- p and y of segment i
abbrev pub passed_at : Working → ℕ → Passed
passed_at x i = record { p = get_or x.p i 0; y = get_or x.y i 0 }

-- the first n entries of the working lists
abbrev pub passed_of : ℕ → Working → List Passed
passed_of n x = tab 0 n (passed_at x)

-- the lists of the two sets, of CL and of CB have an entry for each of n segments, which are not too many
pub record LongPairs (n : ℕ) (old : NumberSet) (new : Columns) : Type 0 where
  pub few : n ≤ most_segments
  pub old_set : LongSet n old
  pub new_set : LongSet n new.numbers
  pub cl : n ≤ length new.cl
  pub cb : n ≤ length new.cb

-- no list is shorter than the river; every segment, every figure, U and U' are such as a step accepts
pub record Ready (n : ℕ) (old : NumberSet) (new : Columns) (state : State) (working : Working) (u' : ℕ) : Type 0 where
  pub pairs : LongPairs n old new
  pub figures : LongFigures n state.channel state.storage state.sediment
  pub p_long : n ≤ length working.p
  pub y_long : n ≤ length working.y
  pub accepted : (i : ℕ) → i < n → Accepted (pair_at old new i)
  pub most : (i : ℕ) → i < n → AtMost highest (figures_at state i)
  pub most_u : state.upstream ≤ highest
  pub most_u' : u' ≤ highest

-- what the upward pass asks: of p and y the downward pass's bounds
pub record UpReady (n : ℕ) (old : NumberSet) (new : Columns) (state : State) (working : Working) : Type 0 where
  pub pairs : LongPairs n old new
  pub figures : LongFigures n state.channel state.storage state.sediment
  pub p_long : n ≤ length working.p
  pub y_long : n ≤ length working.y
  pub accepted : (i : ℕ) → i < n → FiguresReady (pair_at old new i) (figures_at state i)
  pub stable : (i : ℕ) → i < n → Stable (under (passed_at working i))

-- the state with these figures over the first entries of its lists
pub record FiguresOver (figures : List Figures) (before after : State) : Type 0 where
  pub of_channel : after.channel ≡ over (map (λ x. x.c) figures) before.channel
  pub of_storage : after.storage ≡ over (map (λ x. x.z) figures) before.storage
  pub of_sediment : after.sediment ≡ over (map (λ x. x.w) figures) before.sediment

-- the working lists with these p and y over their first entries
pub record PassedOver (passed : List Passed) (before after : Working) : Type 0 where
  pub of_p : after.p ≡ over (map (λ x. x.p) passed) before.p
  pub of_y : after.y ≡ over (map (λ x. x.y) passed) before.y

-- what a step leaves: the new figures in the state, p and y of the downward pass in the working lists
pub record Stepped (n : ℕ) (old : NumberSet) (new : Columns) (state : State) (working : Working) (u' : ℕ) (after : State) (passed : Working) : Type 0 where
  pub state_after : FiguresOver (stepped state.upstream u' (pairs_of n old new) (figures_of n state)) state after
  pub working_after : PassedOver (downward state.upstream u' (pairs_of n old new) (figures_of n state)) working passed
