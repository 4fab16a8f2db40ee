-- `behind` meets its contract: tests 13, 14 and 20, and the forecast where they pass.
use mathlib.Core.Path.{sym}
use Rattle.std.proofs.lemmas.Result.{err_from_is_err_and}
use Rattle.forecast_laws.proofs.Passed.{tests-passed}
use Rattle.forecast.proofs.Looking.{fits}
use Rattle.forecast.proofs.Answers.{looked-result, looked-sides, fails-result}
use Rattle.forecast.proofs.behind.Goals as goal

pub returns-in_err-ahead_test-clause-result : goal.returns-in_err-ahead_test-clause-result
returns-in_err-ahead_test-clause-result c = λ upstream steps.
    let p = err_from_is_err_and c.from_residual.result c.from_residual.ensures.1 in
    rw (p.1, p.2) (fails-result _ _ _ _ (sym (c.in_err-ahead_test.ensures upstream steps)))

pub look-requires : goal.look-requires
look-requires c =
    fits _ _ _ _ c.requires
    (tests-passed _ _ _ _ (sym (c.in_ok-ahead_test.ensures 0 0)))

pub returns-clause-result : goal.returns-clause-result
returns-clause-result c = λ upstream steps.
    looked-result _ _ _ _ c.look.ensures.looked upstream steps (sym (c.in_ok-ahead_test.ensures upstream steps))

pub returns-clause-sides : goal.returns-clause-sides
returns-clause-sides c = looked-sides _ _ _ _ c.look.ensures.looked
