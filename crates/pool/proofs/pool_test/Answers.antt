use Rattle.std.proofs.Common.{◌≡◌, Err, rules}
use Rattle.model.specs.Pool.{pool_tests}
use Rattle.pool.proofs.pool_test.Goals as goal

pub returns-in_err-slot-clause-finding : goal.returns-in_err-slot-clause-finding
unfolding pool_tests
returns-in_err-slot-clause-finding c =
    let e : c.from_residual.result ≡ Err c.in_err-slot.field-0.0 = search rules in
    rw (e, ← c.in_err-slot.ensures.finding)

pub returns-in_err-test-clause-finding : goal.returns-in_err-test-clause-finding
unfolding pool_tests
returns-in_err-test-clause-finding c =
    let e : c.from_residual-in_err-test.result ≡ Err c.in_err-test.field-0.0 = search rules in
    rw (e, ← c.in_ok-slot.ensures.finding, ← c.shared_fault.ensures, ← c.in_err-test.ensures)

pub returns-clause-finding : goal.returns-clause-finding
unfolding pool_tests
returns-clause-finding c = rw (← c.in_ok-slot.ensures.finding, ← c.shared_fault.ensures, ← c.in_ok-test.ensures)
