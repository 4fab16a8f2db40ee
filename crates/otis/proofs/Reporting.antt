-- A report's answer, from what its tests find.
use mathlib.Core.Path.{◌≡◌, refl, sym, ◌∙◌}
use mathlib.Core.Bool.{Bool, true, false, ◌||◌}
use Prim.Native.Nat.{ℕ, ◌-◌, ◌*◌, ◌<◌, ◌≤◌, min}
use native.Mathlib.Omega.{arith}
use lib.ListN.{length, get_or}
use Rattle.lists.specs.Lists.{lowest}
use Rattle.lists.proofs.Lowest.{lowest-is}
use Rattle.model.specs.Ranges.{◌to◌, outside, concentration}
use Rattle.model.specs.State.{Columns, segment_at, State, state_lists, figures_at}
use Rattle.model.specs.Refusals.{Place, accepted, refused, passes, fails, first}
use Rattle.model.specs.Calls.{state_fault, held_fault, report_tests, reported, report, call_result}
use Rattle.otis.specs.declared.Figures.{Figures}
use Rattle.otis.specs.Says.{figures_say}
use Rattle.calltests.specs.Tests.{state_tests}
use Rattle.model.proofs.Ranges.{inside}
use Rattle.calltests.proofs.RiverLaws.{columns-long, figures-long}
use Rattle.calltests.proofs.StateTests.{sound}

or-none : (fault : Bool) → (fault || false) ≡ fault
or-none true = refl
or-none false = refl

-- segment `number` is one of the river's, and the lists that are read have an entry for it
pub record Reads (x : Columns) (state : State) (number : ℕ) : Type 0 where
  pub from : 1 ≤ number
  pub kd : number - 1 < length x.kd
  pub channel : number - 1 < length state.channel
  pub storage : number - 1 < length state.storage
  pub sediment : number - 1 < length state.sediment

module _ (n : ℕ) (x : Columns) (state : State) (number : ℕ) (unfit : Bool) (is : unfit ≡ outside (1 to n) number) where
  pub report-reads : first (state_tests n x state unfit n 0 0) ≡ passes → Reads x state number
  report-reads e =
      let s = sound n x state unfit n 0 0 e in
      let range = inside (1 to n) number (sym is ∙ s.fit) in
      let columns = columns-long n x (state_lists state) s.river in
      let figures = figures-long n x state.channel state.storage state.sediment s.river in
      record {
        from = range.0;
        kd = omega (arith, columns.kd);
        channel = omega (arith, figures.channel);
        storage = omega (arith, figures.storage);
        sediment = omega (arith, figures.sediment);
      }

  -- a report has no U' and no M
  report-tests : first (report_tests n x state number) ≡ first (state_tests n x state unfit n 0 0)
  unfolding report_tests state_tests outside
  report-tests =
      let low : min n (lowest n (state_fault n x state)) ≡ lowest n (state_fault n x state) = omega (arith, (lowest-is (state_fault n x state) n).within) in
      rw (is, low, or-none (held_fault state || outside concentration 0), or-none (held_fault state))

  pub report-accepted : first (state_tests n x state unfit n 0 0) ≡ passes → (f : Figures) → f ≡ record {
    channel = get_or state.channel (number - 1) 0;
    storage = get_or state.storage (number - 1) 0;
    sediment = get_or x.kd (number - 1) 0 * get_or state.sediment (number - 1) 0;
  } → accepted (figures_say f) ≡ (call_result n state (report x number)).answer
  unfolding call_result reported figures_at segment_at
  report-accepted e f r = rw (report-tests ∙ e, r)

  pub report-refused : (k : ℕ) (place : Place) → first (state_tests n x state unfit n 0 0) ≡ fails k place →
      refused k place ≡ (call_result n state (report x number)).answer
  unfolding call_result
  report-refused k place e = rw (report-tests ∙ e)
