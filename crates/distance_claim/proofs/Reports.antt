-- An accepted report that is lent the lists as loaded gives the figures of one of the river's segments, with the sheet's Kd.
use mathlib.Core.Path.{◌≡◌, sym, ap, ◌∙◌}
use mathlib.Core.List.{List, ◌++◌}
use Prim.Native.Nat.{ℕ, ◌-◌, ◌*◌, ◌<◌}
use native.Mathlib.Omega.{arith}
use Rattle.lists.proofs.Shorter.{neither}
use Rattle.model.specs.Ranges.{◌to◌, outside}
use Rattle.model.specs.Sheet.{segment_count}
use Rattle.model.specs.HalfStep.{Segment}
use Rattle.model.specs.State.{Columns, column_lists, State, state_lists, figures_at}
use Rattle.model.specs.Refusals.{accepted}
use Rattle.model.specs.Calls.{river_fault, Reported, reported, report_tests, report, call_result}
use Rattle.model.specs.Runs.{AsLoaded}
use Rattle.model.specs.Claim.{FiguresOf}
use Rattle.model.proofs.Ranges.{inside}
use Rattle.model.proofs.Refusals.{all_pass, test-clear, accepted-passes, accepted-values}
use Rattle.loading_laws.proofs.AsLoaded.{segment-as-loaded, same-kd}

pub report-figures : {sheet : List ℕ} {n : ℕ} {columns : Columns} (state : State) (number : ℕ) (v : Reported) → AsLoaded sheet n columns →
    (call_result n state (report columns number)).answer ≡ accepted v → FiguresOf sheet state number v
unfolding call_result report_tests reported
report-figures {sheet} {n} {columns} state number v loaded e =
    let lists = loaded.lists in
    let tests = report_tests n columns state number in
    let values : reported columns state (number - 1) ≡ v = accepted-values tests (reported columns state (number - 1)) v e in
    let passed = accepted-passes tests (reported columns state (number - 1)) (rw e tt) in
    let clear = test-clear 13 _ (all_pass tests passed).0 in
    let within = inside (1 to n) number (neither (river_fault n (column_lists columns ++ state_lists state)) (outside (1 to n) number) clear).1 in
    let below : number - 1 < segment_count sheet = omega (arith, within, lists.count) in
    record {
      first = within.0;
      last = omega (arith, within.1, lists.count);
      channel = ap (λ (x : Reported). x.channel) (sym values);
      storage = ap (λ (x : Reported). x.storage) (sym values);
      sediment =
          ap (λ (x : Reported). x.sediment) (sym values)
          ∙ ap (λ (x : Segment). x.kd * (figures_at state (number - 1)).w) (segment-as-loaded lists (number - 1) below)
          ∙ ap (λ kd. kd * (figures_at state (number - 1)).w) (same-kd sheet loaded.flow (number - 1));
    }
