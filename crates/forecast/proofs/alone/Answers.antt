-- `alone` meets its contract: the sheet's tests, and the forecast behind them.
use mathlib.Core.Path.{sym, ◌∙◌}
use Rattle.std.proofs.lemmas.Result.{err_from_is_err_and}
use Rattle.forecast.proofs.Answers.{sheet-fails, sheet-passes}
use Rattle.forecast.proofs.alone.Goals as goal

pub returns-in_err-river_test-clause-result : goal.returns-in_err-river_test-clause-result
returns-in_err-river_test-clause-result c = λ upstream steps.
    let p = err_from_is_err_and c.from_residual.result c.from_residual.ensures.1 in
    rw (p.1, p.2) (sheet-fails _ _ _ _ (sym c.in_err-river_test.ensures))

pub returns-clause-result : goal.returns-clause-result
returns-clause-result c = λ upstream steps. c.behind.ensures.result upstream steps ∙ sheet-passes _ _ _ _ (sym c.in_ok-river_test.ensures)
