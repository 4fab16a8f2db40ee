-- What program `river` puts to its output, as far as a contract can speak: not that a write was made, which is the system's choice.
use Rattle.std.specs.Prelude.{◌≡◌, false, List, [], ◌∷◌, ◌++◌, ℕ, ◌+◌, ◌≤◌}
use Rattle.std.specs.Borrow.{MutBor}
use Rattle.model.specs.Sheet.{steps_m}
use Rattle.model.specs.State.{State}
use Rattle.model.specs.Calls.{Working}
use Rattle.model.specs.OwnRiver.{rows_upstream, ahead}
use Rattle.own_river.specs.Ready.{Ready}
use Rattle.output.specs.Text.{done}
use Rattle.output.specs.Listing.{lines_ahead, printed_to, printed, text}
use Rattle.output.specs.Outcomes.{Flushed, bytes_due, Lines, Listed}
use Rattle.output.specs.declared.Writer.{Writer}

-- what a run from this state leaves: the lines of the steps made and `done` with the count then, all steps up to M where no write has failed; the
-- lists hold the state behind them
pub record Ran (sheet : List ℕ) (n : ℕ) (state : State) (sides channel storage sediment : List ℕ) (working : Working) (o r : Writer) : Type 0 where
  pub steps : ℕ
  pub few : state.steps + steps ≤ steps_m sheet
  pub lines : Lines (lines_ahead (rows_upstream sheet) sheet state steps ++ (done (state.steps + steps) ∷ [])) o r
  pub all : r.output.failed ≡ false → state.steps + steps ≡ steps_m sheet
  pub ready : Ready sheet n sides (ahead (rows_upstream sheet) sheet state steps) working
  pub channel_is : channel ≡ (ahead (rows_upstream sheet) sheet state steps).channel
  pub storage_is : storage ≡ (ahead (rows_upstream sheet) sheet state steps).storage
  pub sediment_is : sediment ≡ (ahead (rows_upstream sheet) sheet state steps).sediment

-- what is put of an accepted sheet: the listing, whole where no write has failed
pub record PutListing (sheet : List ℕ) (o r : Writer) : Type 0 where
  pub steps : ℕ
  pub few : steps ≤ steps_m sheet
  pub lines : Lines (printed_to sheet steps) o r
  pub all : r.output.failed ≡ false → steps ≡ steps_m sheet

-- what is put of a sheet from the start: `refused` and its number, or the listing, whole where no write has failed
pub record PutSheet (sheet : List ℕ) (buffer : MutBor (List ℕ)) (r : Writer) : Type 0 where
  pub steps : ℕ
  pub few : steps ≤ steps_m sheet
  pub lines : Listed (printed_to sheet steps) buffer r
  pub all : r.output.failed ≡ false → steps ≡ steps_m sheet

-- what is printed of it: that, and the write that is then due; where no write has failed, the bytes of all of them are the listing's text
pub record Printed (sheet : List ℕ) (buffer : MutBor (List ℕ)) (r : Writer) : Type 0 where
  pub out : Writer
  pub put : PutSheet sheet buffer out
  pub flushed : Flushed out r
  pub text_is : r.output.failed ≡ false → put.lines.written ++ bytes_due out ≡ text (printed sheet)
