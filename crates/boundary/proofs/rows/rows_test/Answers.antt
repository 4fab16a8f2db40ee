-- `rows::rows_test` meets its contract: the tests of the count and of the rows, in their order.
use mathlib.Core.Path.{sym, ◌∙◌}
use native.Mathlib.Omega.{arith}
use Rattle.std.proofs.lemmas.Result.{err_from_is_err_and}
use Rattle.model.specs.Upstream.{upstream_tests}
use Rattle.model.proofs.Refusals.{test-clear}
use Rattle.sheet.proofs.Tests.{failed}
use Rattle.boundary.proofs.RowLaws.{first_one, counted}
use Rattle.boundary.proofs.rows.rows_test.Goals as goal

pub returns-in_err-test : goal.returns-in_err-test
unfolding upstream_tests
returns-in_err-test c =
    let p = err_from_is_err_and c.from_residual.result c.from_residual.ensures.1 in
    let f = failed c.in_err-test.ensures in
    rw (p.1, p.2, f.1, sym c.count_fault.ensures ∙ f.0)

pub each_row_test-requires : goal.each_row_test-requires
each_row_test-requires c = omega (arith, counted _ _ (sym c.count_fault.ensures ∙ test-clear 3 _ (sym c.in_ok-test.ensures)))

pub returns : goal.returns
unfolding upstream_tests
returns c = rw (c.each_row_test.ensures, sym c.count_fault.ensures ∙ test-clear 3 _ (sym c.in_ok-test.ensures)) (first_one _)
