-- The listing step by step: what is put so far is that of the steps made, and the steps left are those up to M.
use mathlib.Core.Path.{◌≡◌, refl, sym, ap, ◌∙◌}
use mathlib.Core.Bool.{Bool, true, false, true≢false}
use mathlib.Core.List.{List, []}
use Prim.Native.Nat.{ℕ, zero, suc, ◌+◌, ◌<◌, ◌≤◌}
use native.Mathlib.Omega.{arith}
use lib.ListN.{length}
use Rattle.std.specs.Borrow.{MutBor}
use Rattle.model.specs.Ranges.{most_steps}
use Rattle.model.specs.Sheet.{steps_m, segment_count}
use Rattle.model.specs.Flow.{flow_in_force}
use Rattle.model.specs.State.{segment_at, State, write_figures}
use Rattle.model.specs.Refusals.{Place, passes, fails, first}
use Rattle.model.specs.Load.{river_tests}
use Rattle.model.specs.Calls.{Working}
use Rattle.model.specs.OwnRiver.{rows_upstream, own_step, ahead, own_start, Alike}
use Rattle.loading_laws.proofs.AsLoaded.{segment-as-loaded, same-kd}
use Rattle.own_river_laws.proofs.Ahead.{ahead-counts, ahead-last, ahead-alike, start-alike-lists}
use Rattle.own_river_laws.proofs.Sheets.{most-steps, gauge-first, gauge-last}
use Rattle.own_river.specs.Sides.{sides_of}
use Rattle.own_river.specs.Ready.{OfSheet, Begun, Ready, Stepped}
use Rattle.own_river.proofs.Parts.{long-new}
use Rattle.own_river.proofs.Stepping.{SameLengths, step-lengths}
use Rattle.output.specs.Text.{heading, done, refused}
use Rattle.output.specs.Listing.{lines_at, lines_ahead, listing, printed_to, printed, text}
use Rattle.output.specs.Outcomes.{longest, Flushed, PutLine, Puts, Lines, Fresh}
use Rattle.output.specs.declared.Writer.{Writer}
use Rattle.output.proofs.Lines.{puts_one, none-failed, lines_one, lines-append, listed}
use Rattle.output.proofs.Alike.{lines-alike}
use Rattle.listing.specs.Shown.{Shown}
use Rattle.river.specs.Printed.{Ran, PutListing, PutSheet, Printed}

-- ---- the run

-- from this state: `done` steps are done, k of them from here, and the lines of these are put
pub record Going (sheet : List ℕ) (n : ℕ) (begun : List ℕ) (from : State) (room : Working) (o : Writer) (sides : List ℕ) (state : State) (working : Working) (out : Writer) (done : ℕ) : Type 0 where
  pub k : ℕ
  pub counted : done ≡ from.steps + k
  pub is : state ≡ ahead (rows_upstream sheet) sheet from k
  pub ready : Ready sheet n sides state working
  pub lines : Lines (lines_ahead (rows_upstream sheet) sheet from k) o out
  pub sides_long : length sides ≡ length begun
  pub lengths : SameLengths from state room working

pub going_start : {sheet : List ℕ} {n : ℕ} {from : State} {o : Writer} {sides : List ℕ} {working : Working} → Ready sheet n sides from working →
    Going sheet n sides from working o sides from working o from.steps
unfolding ahead lines_ahead
going_start ready = record {
  k = 0;
  counted = omega arith;
  is = refl;
  ready = ready;
  lines = record { written = []; puts = Puts.none };
  sides_long = refl;
  lengths = record { channel = refl; storage = refl; sediment = refl; p = refl; y = refl };
}

module _ {sheet : List ℕ} {n : ℕ} {begun : List ℕ} {from : State} {room : Working} {o : Writer} {sides : List ℕ} {state : State} {working : Working} {out : Writer} {steps : ℕ}
    (g : Going sheet n begun from room o sides state working out steps) where
  -- the state's own count
  pub counts : state.steps ≡ steps
  counts = ap (λ (s : State). s.steps) g.is ∙ ahead-counts (rows_upstream sheet) sheet from g.k ∙ sym g.counted

  -- fewer than M steps are done while some are left
  pub below-most : steps < steps_m sheet → state.steps < most_steps
  below-most h = omega (arith, counts, h, most-steps sheet g.ready.of_sheet.passed)

  -- one step more, and its lines
  pub going-turn : {sides' : List ℕ} {state' : State} {working' : Working} {out' : Writer} {u' : ℕ} →
      u' ≡ rows_upstream sheet (steps + 1) → Stepped sheet n sides state working u' sides' state' working' →
      Lines (lines_at sheet state') out out' → Going sheet n begun from room o sides' state' working' out' (steps + 1)
  unfolding lines_ahead
  going-turn {state' = state'} {working' = working'} {u' = u'} u step lines = record {
    k = suc g.k;
    counted = omega (arith, g.counted);
    is = on;
    ready = step.ready;
    lines = lines-append g.lines (rw on at lines);
    sides_long = step.sides_are.long ∙ g.sides_long;
    lengths = record {
      channel = same.channel ∙ g.lengths.channel;
      storage = same.storage ∙ g.lengths.storage;
      sediment = same.sediment ∙ g.lengths.sediment;
      p = same.p ∙ g.lengths.p;
      y = same.y ∙ g.lengths.y;
    };
  }
    where
      same : SameLengths state state' working working'
      same = step-lengths g.ready step

      on : state' ≡ ahead (rows_upstream sheet) sheet from (suc g.k)
      on =
          let one : steps + 1 ≡ suc state.steps = omega (arith, counts) in
          step.state_is ∙ ap (λ v. own_step sheet v state) (u ∙ ap (rows_upstream sheet) one)
          ∙ ap (λ (s : State). own_step sheet (rows_upstream sheet (suc s.steps)) s) g.is ∙ sym (ahead-last (rows_upstream sheet) sheet from g.k)

-- no step is left, or a write has failed
pub record Ending (sheet : List ℕ) (n : ℕ) (begun : List ℕ) (from : State) (room : Working) (o : Writer) (sides : List ℕ) (state : State) (working : Working) (out : Writer) : Type 0 where
  pub steps : ℕ
  pub going : Going sheet n begun from room o sides state working out steps
  pub few : steps ≤ steps_m sheet
  pub all : out.output.failed ≡ false → steps_m sheet ≤ steps

pub going_end : {sheet : List ℕ} {n : ℕ} {begun : List ℕ} {from : State} {room : Working} {o : Writer} {sides : List ℕ} {state : State} {working : Working} {out r : Writer} →
    Ending sheet n begun from room o sides state working out → PutLine (done state.steps) out r →
    Ran sheet n from sides state.channel state.storage state.sediment working o r
going_end e put =
    let g = e.going in
    let last = lines_one put in
    record {
      steps = g.k;
      few = omega (arith, e.few, g.counted);
      lines = lines-append g.lines (rw (counts g ∙ g.counted) at last);
      all = λ q. omega (arith, e.few, g.counted, e.all (none-failed last.puts q));
      ready = rw g.is at g.ready;
      channel_is = ap (λ (s : State). s.channel) g.is;
      storage_is = ap (λ (s : State). s.storage) g.is;
      sediment_is = ap (λ (s : State). s.sediment) g.is;
    }

-- what the lines of a step are read from
pub shown : {sheet : List ℕ} {n : ℕ} {sides : List ℕ} {state : State} {working : Working} → Ready sheet n sides state working → (kd : List ℕ) → kd ≡ (sides_of sides).new.kd →
    Shown sheet kd state
unfolding segment_at
shown {sheet} {n} {sides} {state} ready kd e =
    let count = ready.of_sheet.count in
    let long = ready.in_range.long in
    record {
      passed = ready.of_sheet.passed;
      kd_long = rw (← count, e) (long-new sides n ready.in_force.wide).kd;
      kd_is = λ i h. rw e (ap (λ x. x.kd) (segment-as-loaded ready.in_force.new i h) ∙ same-kd sheet (flow_in_force sheet state.steps) i);
      figures = record { channel = rw (← count) long.channel; storage = rw (← count) long.storage; sediment = rw (← count) long.sediment };
    }

-- ---- the whole

-- states that are alike have the same lines ahead
ahead-lines : (sheet : List ℕ) → first (river_tests sheet) ≡ passes → (u : ℕ → ℕ) (s t : State) → Alike (segment_count sheet) s t → (k : ℕ) →
    lines_ahead u sheet s k ≡ lines_ahead u sheet t k
unfolding lines_ahead
ahead-lines sheet front u s t a zero = refl
ahead-lines sheet front u s t a (suc k) =
    rw (ahead-lines sheet front u s t a k, lines-alike sheet (λ j h. (gauge-first sheet front j h, gauge-last sheet front j h)) (ahead-alike u sheet s t (suc k) a))

-- the heading, and the run from a state alike to the start's
pub put_lines : {sheet : List ℕ} {n : ℕ} {sides c z w : List ℕ} {working : Working} {o out r : Writer} (state : State) → first (river_tests sheet) ≡ passes → state.steps ≡ 0 →
    Alike (segment_count sheet) state (own_start (rows_upstream sheet) sheet) → PutLine heading o out → Ran sheet n state sides c z w working out r →
    PutListing sheet o r
unfolding printed_to listing
put_lines {sheet} state front none alike put ran =
    let ends : done (state.steps + ran.steps) ≡ done ran.steps = ap done (omega (arith, none)) in
    let same = ahead-lines sheet front (rows_upstream sheet) state (own_start (rows_upstream sheet) sheet) alike ran.steps in
    let lines = rw (same, ends) at ran.lines in
    record {
      steps = ran.steps;
      few = omega (arith, ran.few);
      lines = rw front (lines-append (lines_one put) lines);
      all = λ q. omega (arith, ran.all q);
    }

-- from the start
pub put-listing : {sheet : List ℕ} {buffer : MutBor (List ℕ)} {o r : Writer} → Fresh buffer o → PutListing sheet o r → PutSheet sheet buffer r
put-listing fresh put = record { steps = put.steps; few = put.few; lines = listed fresh put.lines.puts; all = put.all }

-- so is the whole listing of an accepted sheet
pub put_whole : {sheet : List ℕ} {n : ℕ} {buffer : MutBor (List ℕ)} {sides c z w : List ℕ} {working : Working} {o out r : Writer} (state : State) → first (river_tests sheet) ≡ passes → state.steps ≡ 0 →
    Alike (segment_count sheet) state (own_start (rows_upstream sheet) sheet) → Fresh buffer o → PutLine heading o out → Ran sheet n state sides c z w working out r →
    PutSheet sheet buffer r
put_whole state front none alike fresh put ran = put-listing fresh (put_lines state front none alike put ran)

-- a refusal
pub put-refused-sheet : {sheet : List ℕ} {buffer : MutBor (List ℕ)} {o r : Writer} (number : ℕ) (place : Place) → first (river_tests sheet) ≡ fails number place →
    Fresh buffer o → PutLine (refused number) o r → PutSheet sheet buffer r
unfolding printed_to
put-refused-sheet {sheet} number place front fresh put = record { steps = steps_m sheet; few = omega arith; lines = rw front (listed fresh (puts_one put)); all = λ q. refl }

-- ---- the start

-- the river is ready at its start
pub ready-begun : {sheet : List ℕ} {n : ℕ} {sides sides' : List ℕ} {state state' : State} {u : ℕ} (working : Working) → OfSheet sheet n → Begun sheet n sides state u sides' state' →
    n ≤ length working.p → n ≤ length working.y → Ready sheet n sides' state' working
unfolding write_figures
ready-begun {sheet} {n} {sides' = sides'} working river begun p y = record {
  of_sheet = river;
  in_force = let none = ap (λ (s : State). s.steps) begun.state_is in rw none begun.in_force;
  in_range = begun.in_range;
  p_long = p;
  y_long = y;
}

-- alike to the state from which the listing is defined
pub begun-alike : {sheet : List ℕ} {n : ℕ} {sides sides' : List ℕ} {state state' : State} {u : ℕ} → u ≡ rows_upstream sheet 0 → Begun sheet n sides state u sides' state' →
    Alike (segment_count sheet) state' (own_start (rows_upstream sheet) sheet)
begun-alike {sheet} {state = state} e begun = rw (begun.state_is, e) (start-alike-lists (rows_upstream sheet) sheet state)

pub begun-steps : {sheet : List ℕ} {n : ℕ} {sides sides' : List ℕ} {state state' : State} {u : ℕ} → Begun sheet n sides state u sides' state' → state'.steps ≡ 0
unfolding write_figures
begun-steps begun = ap (λ (s : State). s.steps) begun.state_is

-- the last write
pub printed-whole : {sheet : List ℕ} {buffer : MutBor (List ℕ)} {out r : Writer} → longest ≤ length buffer.now → PutSheet sheet buffer out → Flushed out r →
    Printed sheet buffer r
unfolding printed
printed-whole {sheet} {out = out} {r = r} long put flushed = record {
  out = out;
  put = put;
  flushed = flushed;
  text_is = λ e. let q = before out.output.failed refl e in put.lines.text_is long q ∙ ap (λ k. text (printed_to sheet k)) (put.all q);
}
  where
    before : (t : Bool) → out.output.failed ≡ t → r.output.failed ≡ false → out.output.failed ≡ false
    before true f e = absurd (true≢false (sym (flushed.failed f) ∙ e))
    before false f e = f
