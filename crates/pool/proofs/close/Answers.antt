use Rattle.std.proofs.Common.{◌≡◌, Err, ◌-◌, set, sym, ap, rules}
use Rattle.model.specs.Pool.{closed_slot, close_finding, closed_table}
use Rattle.model.proofs.Refusals.{test-clear}
use Rattle.pool_laws.proofs.Tables.{number-clear}
use Rattle.terms.specs.Lent.{table_in}
use Rattle.pool.proofs.close.Goals as goal

pub returns-in_err-slot-clause-answer : goal.returns-in_err-slot-clause-answer
unfolding close_finding
returns-in_err-slot-clause-answer c =
    let e : c.from_residual.result ≡ Err c.in_err-slot.field-0.0 = search rules in
    rw e c.in_err-slot.ensures.finding

pub returns-in_err-slot-clause-table : goal.returns-in_err-slot-clause-table
unfolding close_finding closed_table
returns-in_err-slot-clause-table c = rw (← c.in_err-slot.ensures.finding)

pub overflow_sub-river : goal.overflow_sub-river
overflow_sub-river c = (number-clear (table_in c.args.table.now) c.args.river (test-clear 18 _ (sym c.in_ok-slot.ensures.finding))).0

pub returns-clause-answer : goal.returns-clause-answer
unfolding close_finding
returns-clause-answer c = c.in_ok-slot.ensures.finding

pub returns-clause-table : goal.returns-clause-table
unfolding close_finding closed_table
returns-clause-table c = rw (c.put.ensures, ← c.in_ok-slot.ensures.finding) (ap (λ s. set (table_in c.args.table.now) (c.args.river - 1) (closed_slot s)) c.in_ok-slot.ensures.slot)
