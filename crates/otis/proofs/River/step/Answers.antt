-- `River::step` meets its contract: the tests, then the sweep, then the highest figures.
use Rattle.std.proofs.Common.{rules}
use Rattle.std.proofs.lemmas.Result.{err_from_is_err_and}
use Rattle.otis.proofs.Stepping.{lowest_other, others-short, step-ready, blocks-ready, step-accepted, state-refused, done-refused}
use Rattle.otis.proofs.River.step.Goals as goal

pub returns-in_err-state_test : goal.returns-in_err-state_test
returns-in_err-state_test c =
    let p = err_from_is_err_and c.from_residual.result c.from_residual.ensures.1 in
    rw (p.1, p.2)
    (state-refused _ _ _ _ c.args.highest.now _ _ _ _ (others-short _ _ _ _ _ _ c.others_short-unfit.ensures) _ (lowest_other _ _ c.set_at_fault-other.ensures)
    _ _ c.in_err-state_test.ensures)

pub returns-in_err-test : goal.returns-in_err-test
returns-in_err-test c =
    let p = err_from_is_err_and c.from_residual-in_err-test.result c.from_residual-in_err-test.ensures.1 in
    rw (p.1, p.2)
    (done-refused _ _ _ _ c.args.highest.now _ _ _ _ (others-short _ _ _ _ _ _ c.others_short-unfit.ensures) _ (lowest_other _ _ c.set_at_fault-other.ensures)
    _ _ c.in_ok-state_test.ensures c.in_err-test.ensures)

pub step-requires : goal.step-requires
step-requires c =
    step-ready _ _ _ _ c.args.highest.now _ _ _ _ (others-short _ _ _ _ _ _ c.others_short-unfit.ensures) _ (lowest_other _ _ c.set_at_fault-other.ensures)
    c.in_ok-state_test.ensures c.in_ok-test.ensures

pub fill-requires : goal.fill-requires
fill-requires c =
    blocks-ready _ _ _ _ c.args.highest.now _ _ _ _ (others-short _ _ _ _ _ _ c.others_short-unfit.ensures) _ (lowest_other _ _ c.set_at_fault-other.ensures)
    c.in_ok-state_test.ensures c.in_ok-test.ensures c.step.ensures.lists (search (rules, c.step.ensures.same_state.channel))

pub returns : goal.returns
returns c =
    let state = c.step.ensures.same_state in
    let working = c.step.ensures.same_working in
    step-accepted _ _ _ _ c.args.highest.now _ _ _ _ (others-short _ _ _ _ _ _ c.others_short-unfit.ensures) _ (lowest_other _ _ c.set_at_fault-other.ensures)
    c.in_ok-state_test.ensures c.in_ok-test.ensures c.step.ensures.lists
    (search (rules, state.channel)) (search (rules, state.storage)) (search (rules, state.sediment)) (search (rules, working.p)) (search (rules, working.y))
    c.fill.ensures
