-- `River::start` meets its contract: the tests, then the three lists, then the highest figures.
use mathlib.Core.Path.{sym}
use Rattle.std.proofs.lemmas.Result.{err_from_is_err_and}
use Rattle.model.specs.Calls.{start_tests}
use Rattle.terms.specs.Lent.{state_lent}
use Rattle.otis.proofs.Starting.{start-long, start-filled, start-accepted, start-refused}
use Rattle.otis.proofs.River.start.Goals as goal

pub returns-in_err-start_test : goal.returns-in_err-start_test
unfolding start_tests
returns-in_err-start_test c =
    let p = err_from_is_err_and c.from_residual.result c.from_residual.ensures.1 in
    λ upstream steps. rw (p.1, p.2) (start-refused _ _ (state_lent c.args.state upstream steps) _ _ _ _ (sym c.in_err-start_test.ensures))

pub copy-requires : goal.copy-requires
copy-requires c = let long = start-long _ _ _ _ _ (sym c.in_ok-start_test.ensures) in (long.start, long.figures.channel)

pub copy-requires-2 : goal.copy-requires-2
copy-requires-2 c = let long = start-long _ _ _ _ _ (sym c.in_ok-start_test.ensures) in (long.start, long.figures.storage)

pub copy-requires-3 : goal.copy-requires-3
copy-requires-3 c = let long = start-long _ _ _ _ _ (sym c.in_ok-start_test.ensures) in (long.start, long.figures.sediment)

pub fill-requires : goal.fill-requires
fill-requires c = start-filled _ _ _ _ _ (sym c.in_ok-start_test.ensures) _ _ c.copy.ensures

pub returns : goal.returns
unfolding start_tests
returns c = λ upstream steps.
    start-accepted _ _ (state_lent c.args.state upstream steps) _ _ _ _ _ _ (sym c.in_ok-start_test.ensures) c.copy.ensures c.copy-2.ensures c.copy-3.ensures c.fill.ensures
