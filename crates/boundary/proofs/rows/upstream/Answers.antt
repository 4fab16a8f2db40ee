-- `rows::upstream` meets its contract.
use mathlib.Core.Path.{sym}
use Rattle.std.proofs.lemmas.Result.{err_from_is_err_and}
use Rattle.model.specs.Upstream.{upstream_answer}
use Rattle.boundary.proofs.RowLaws.{rows-counted}
use Rattle.boundary.proofs.rows.upstream.Goals as goal

pub returns-in_err-rows_test : goal.returns-in_err-rows_test
unfolding upstream_answer
returns-in_err-rows_test c =
    let p = err_from_is_err_and c.from_residual.result c.from_residual.ensures.1 in
    rw (p.1, p.2, ← c.in_err-rows_test.ensures)

pub last_started-requires : goal.last_started-requires
last_started-requires c = rows-counted _ _ _ (sym c.in_ok-rows_test.ensures)

pub returns : goal.returns
unfolding upstream_answer
returns c = rw (← c.in_ok-rows_test.ensures, c.last_started.ensures)
