-- What the tests of an accepted start or step say of what it was lent.
use mathlib.Core.Path.{◌≡◌}
use mathlib.Core.Bool.{Bool, false, ◌||◌}
use mathlib.Core.List.{List}
use Prim.Native.Nat.{ℕ, ◌≤◌}
use native.Mathlib.Omega.{arith}
use Rattle.lists.proofs.Shorter.{neither}
use Rattle.sweep_laws.specs.Accepted.{Sums, Accepted}
use Rattle.sweep_laws.proofs.Accepted.{All, all-tab, sums}
use Rattle.model.specs.Ranges.{highest, concentration, outside}
use Rattle.model.specs.HalfStep.{Segment}
use Rattle.model.specs.State.{NumberSet, Columns, segment_at, segments_of, pair_at, pairs_of, State}
use Rattle.model.specs.Refusals.{passes, first, segment}
use Rattle.model.specs.Calls.{Working, segment_fault, start_fault, state_fault, old_fault, held_fault, start_tests, step_tests}
use Rattle.model.proofs.Ranges.{inside}
use Rattle.model.proofs.Refusals.{all_pass, test-clear, each-clear}

-- a concentration that is in its range
at_most : (x : ℕ) → outside concentration x ≡ false → x ≤ highest
at_most x e = (inside concentration x e).1

-- a segment that a start, a step or a report accepts
record Sound (x : Segment) : Type 0 where
  numbers : Sums x.numbers
  cl : x.cl ≤ highest
  cb : x.cb ≤ highest
  start : x.start ≤ highest

sound : (is_last : Bool) (x : Segment) → segment_fault is_last x ≡ false → Sound x
unfolding segment_fault
sound is_last x e =
    let a = neither _ _ e in
    let b = neither _ _ a.0 in
    let c = neither _ _ b.0 in
    let d = neither _ _ c.0 in
    record { numbers = sums is_last x.numbers d.0; cl = at_most _ c.1; cb = at_most _ b.1; start = at_most _ a.1 }

module _ (n : ℕ) (columns : Columns) (state : State) where
  sound-at : (i : ℕ) → start_fault n columns i ≡ false → Sound (segment_at columns i)
  unfolding start_fault
  sound-at i e = sound _ _ e

  -- an accepted start; `lent` are the highest figures that it was lent
  pub started : (lent : List ℕ) (u : ℕ) → first (start_tests n columns state lent u) ≡ passes → All (λ x. x.start ≤ highest) (segments_of n columns)
  unfolding start_tests
  started lent u e =
      let clear = each-clear 14 segment n (start_fault n columns) (all_pass (start_tests n columns state lent u) e).1.0 in
      all-tab 0 n (segment_at columns) (λ i a b. (sound-at i (clear i (omega arith))).start)

  -- an accepted step
  pub record Stepped (old : NumberSet) (u' : ℕ) : Type 0 where
    pub pairs : All Accepted (pairs_of n old columns)
    pub before : state.upstream ≤ highest
    pub after : u' ≤ highest

  clear-pair : (old : NumberSet) (i : ℕ) → (old_fault n old i || state_fault n columns state i) ≡ false → Accepted (pair_at old columns i)
  unfolding old_fault state_fault segment_at pair_at
  clear-pair old i e =
      let both = neither (old_fault n old i) _ e in
      let new = sound-at i (neither (start_fault n columns i) _ both.1).0 in
      record { old = sums _ _ both.0; new = new.numbers; cl = new.cl; cb = new.cb }

  clear-upstream : held_fault state ≡ false → state.upstream ≤ highest
  unfolding held_fault
  clear-upstream e = at_most _ (neither (outside concentration state.upstream) _ e).0

  pub stepped : (old : NumberSet) (lent : List ℕ) (working : Working) (u' M : ℕ) → first (step_tests n old columns state lent working u' M) ≡ passes → Stepped old u'
  unfolding step_tests
  stepped old lent working u' M e =
      let pass = all_pass (step_tests n old columns state lent working u' M) e in
      let clear = each-clear 14 segment n (λ i. old_fault n old i || state_fault n columns state i) pass.1.0 in
      let scalars = neither (held_fault state || outside concentration u') _ (test-clear 14 _ pass.1.1.0) in
      let upstream = neither (held_fault state) _ scalars.0 in
      record {
        pairs = all-tab 0 n (pair_at old columns) (λ i a b. clear-pair old i (clear i (omega arith)));
        before = clear-upstream upstream.0;
        after = at_most u' upstream.1;
      }
