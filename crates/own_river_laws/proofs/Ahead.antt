-- Laws of the steps of the sheet's own river: its count, its steps one by one, what they rest on, and the state that it starts in.
use mathlib.Core.Path.{◌≡◌, refl, sym, ap, ◌∙◌}
use mathlib.Core.List.{List, [], map, append-nil}
use Prim.Native.Nat.{ℕ, zero, suc, ◌+◌, ◌<◌, ◌≤◌}
use native.Mathlib.Nat.{add-zero, zero-add}
use native.Mathlib.Omega.{arith}
use lib.ListN.{length, length-map, drop_of_length-le}
use Rattle.lists.specs.Lists.{over}
use Rattle.lists.proofs.Over.{over-again}
use Rattle.lists.proofs.Tab.{length-tab}
use Rattle.model.specs.Sheet.{segment_count}
use Rattle.model.specs.Sweep.{Passed, downward, stepped}
use Rattle.model.specs.State.{loaded_segments, State, figures_at, figures_of, write_figures}
use Rattle.model.specs.Calls.{start_figures, Working}
use Rattle.model.specs.Runs.{sheet_pairs}
use Rattle.model.specs.OwnRiver.{own_step, own_working, ahead, working_ahead, own_start, Alike}
use Rattle.model.proofs.ReadBack.{read_back}
use Rattle.sweep_laws.proofs.Lengths.{length-downward, length-stepped}

-- ---- k steps on

module _ (u : ℕ → ℕ) (sheet : List ℕ) where
  -- the count goes up by one a step
  pub ahead-counts : (state : State) (k : ℕ) → (ahead u sheet state k).steps ≡ state.steps + k
  unfolding ahead own_step write_figures
  ahead-counts state zero = rw add-zero
  ahead-counts state (suc k) = ahead-counts (own_step sheet (u (suc state.steps)) state) k ∙ omega arith

  -- the last of the steps
  pub ahead-last : (state : State) (k : ℕ) →
      ahead u sheet state (suc k) ≡ own_step sheet (u (suc (ahead u sheet state k).steps)) (ahead u sheet state k)
  unfolding ahead
  ahead-last state zero = refl
  ahead-last state (suc k) = ahead-last (own_step sheet (u (suc state.steps)) state) k

  -- some steps, and then some more
  pub ahead_more : (state : State) (j k : ℕ) → ahead u sheet (ahead u sheet state j) k ≡ ahead u sheet state (j + k)
  unfolding ahead
  ahead_more state zero k = rw zero-add
  ahead_more state (suc j) k =
      let e : suc j + k ≡ suc (j + k) = omega arith in rw e (ahead_more (own_step sheet (u (suc state.steps)) state) j k)

-- U is asked for at these steps alone
pub ahead-upstream : (u w : ℕ → ℕ) (sheet : List ℕ) (state : State) (k : ℕ) →
    ((j : ℕ) → state.steps < j → j ≤ state.steps + k → u j ≡ w j) → ahead u sheet state k ≡ ahead w sheet state k
unfolding ahead own_step write_figures
ahead-upstream u w sheet state zero same = refl
ahead-upstream u w sheet state (suc k) same =
    let e = same (suc state.steps) (omega arith) (omega arith) in
    ahead-upstream u w sheet (own_step sheet (u (suc state.steps)) state) k (λ j h l. same j (omega arith) (omega arith)) ∙ rw e

-- ---- one step

module _ (sheet : List ℕ) (u' : ℕ) where
  -- it has figures for each segment
  pub step-length : (state : State) →
      length (stepped state.upstream u' (sheet_pairs sheet state.steps) (figures_of (segment_count sheet) state)) ≡ segment_count sheet
  step-length state =
      let n = segment_count sheet in
      let pairs = sheet_pairs sheet state.steps in
      let size : length pairs ≡ n = length-tab _ 0 n in
      length-stepped state.upstream u' pairs (figures_of n state) (length-tab (figures_at state) 0 n ∙ sym size) ∙ size

  -- which the state then holds
  pub step-figures : (state : State) → figures_of (segment_count sheet) (own_step sheet u' state)
      ≡ stepped state.upstream u' (sheet_pairs sheet state.steps) (figures_of (segment_count sheet) state)
  unfolding own_step
  step-figures state = read_back (segment_count sheet) _ _ _ state (step-length state)

  -- states that say the same go to states that do
  pub step-alike : (s t : State) → Alike (segment_count sheet) s t → Alike (segment_count sheet) (own_step sheet u' s) (own_step sheet u' t)
  unfolding own_step write_figures
  step-alike s t a = record {
    figures = step-figures s ∙ (rw (a.figures, a.upstream, a.steps) (sym (step-figures t)));
    upstream = refl;
    steps = ap suc a.steps;
  }

-- a copy of the first n figures, U and the count goes the same river
pub ahead-alike : (u : ℕ → ℕ) (sheet : List ℕ) (s t : State) (k : ℕ) → Alike (segment_count sheet) s t →
    Alike (segment_count sheet) (ahead u sheet s k) (ahead u sheet t k)
unfolding ahead
ahead-alike u sheet s t zero a = a
ahead-alike u sheet s t (suc k) a =
    let u' = u (suc s.steps) in
    let e : u (suc t.steps) ≡ u' = ap (λ n. u (suc n)) (sym a.steps) in
    rw e (ahead-alike u sheet (own_step sheet u' s) (own_step sheet u' t) k (step-alike sheet u' s t a))

-- ---- working lists

-- what the downward pass of a step has, segment by segment
abbrev down_of : List ℕ → (u' : ℕ) → State → List Passed
down_of sheet u' state = downward state.upstream u' (sheet_pairs sheet state.steps) (figures_of (segment_count sheet) state)

pub down-length : (sheet : List ℕ) (u' : ℕ) (state : State) → length (down_of sheet u' state) ≡ segment_count sheet
down-length sheet u' state =
    let n = segment_count sheet in
    let pairs = sheet_pairs sheet state.steps in
    let size : length pairs ≡ n = length-tab _ 0 n in
    length-downward state.upstream u' pairs (figures_of n state) (length-tab (figures_at state) 0 n ∙ sym size) ∙ size

-- a step leaves nothing there of the step before it
working-again : (sheet : List ℕ) (u' v' : ℕ) (s t : State) (working : Working) → own_working sheet u' s (own_working sheet v' t working) ≡ own_working sheet u' s working
unfolding own_working
working-again sheet u' v' s t working = rw (again (λ x. x.p) working.p, again (λ x. x.y) working.y)
  where
    again : (part : Passed → ℕ) (list : List ℕ) →
        over (map part (down_of sheet u' s)) (over (map part (down_of sheet v' t)) list) ≡ over (map part (down_of sheet u' s)) list
    again part list =
        over-again (map part (down_of sheet u' s)) (map part (down_of sheet v' t)) list (length-map (down_of sheet u' s) part ∙ down-length sheet u' s ∙ sym (length-map (down_of sheet v' t) part ∙ down-length sheet v' t))

-- the last of the steps leaves them
pub working-last : (u : ℕ → ℕ) (sheet : List ℕ) (state : State) (working : Working) (k : ℕ) → let last = ahead u sheet state k in
    own_working sheet (u (suc last.steps)) last (working_ahead u sheet state working k) ≡ working_ahead u sheet state working (suc k)
unfolding working_ahead
working-last u sheet state working zero = refl
working-last u sheet state working (suc k) = working-again sheet _ _ _ _ working

-- ---- a start

-- a list written over none
over_none : (xs : List ℕ) → over xs [] ≡ xs
over_none xs = rw (drop_of_length-le {A = ℕ} [] {i = length xs} (omega arith)) (append-nil xs)

-- it has figures for each segment
pub starts-length : (sheet : List ℕ) → length (map start_figures (loaded_segments sheet 0)) ≡ segment_count sheet
starts-length sheet = length-map (loaded_segments sheet 0) start_figures ∙ length-tab _ 0 (segment_count sheet)

module _ (u : ℕ → ℕ) (sheet : List ℕ) where
  -- the figures of the state that the own river starts in
  pub start-figures : figures_of (segment_count sheet) (own_start u sheet) ≡ map start_figures (loaded_segments sheet 0)
  unfolding own_start write_figures
  start-figures =
      let n = segment_count sheet in
      let fs = map start_figures (loaded_segments sheet 0) in
      let none : State = record { channel = []; storage = []; sediment = []; upstream = 0; steps = 0 } in
      let e : write_figures fs (u 0) 0 none ≡ own_start u sheet =
      rw (over_none (map (λ x. x.c) fs), over_none (map (λ x. x.z) fs), over_none (map (λ x. x.w) fs)) in
      ap (figures_of n) (sym e) ∙ read_back n fs (u 0) 0 none (starts-length sheet)

  -- start figures written over lists of any content say the same
  pub start-alike-lists : (before : State) →
      Alike (segment_count sheet) (write_figures (map start_figures (loaded_segments sheet 0)) (u 0) 0 before) (own_start u sheet)
  unfolding own_start write_figures
  start-alike-lists before = record {
    figures = read_back (segment_count sheet) _ (u 0) 0 before (starts-length sheet) ∙ sym start-figures;
    upstream = refl;
    steps = refl;
  }
