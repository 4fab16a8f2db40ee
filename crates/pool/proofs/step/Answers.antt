use Rattle.std.proofs.Common.{◌≡◌, Err, sym, refl, rules}
use Rattle.model.specs.Calls.{step}
use Rattle.terms.specs.Lent.{set_of, columns_of, working_lent}
use Rattle.pool_table.specs.Says.{slot_says}
use Rattle.pool.proofs.Stretched.{read-lent, in-front, stands, stepped}
use Rattle.pool.proofs.step.Goals as goal

pub returns-in_err-slot : goal.returns-in_err-slot
returns-in_err-slot c =
    let e : c.from_residual.result ≡ Err c.in_err-slot.field-0.0 = search rules in
    rw e (sym (in-front _ _ _ (step (set_of c.args.old) (columns_of c.args.new) c.args.highest.now (working_lent c.args.working) c.args.u c.args.steps)
    (read-lent c.args.table.now c.read.ensures.channel c.read.ensures.storage c.read.ensures.sediment) c.in_err-slot.ensures.finding))

pub slice_bounds-step_on-end : goal.slice_bounds-step_on-end
slice_bounds-step_on-end c =
    (stands _ _ (read-lent c.args.table.now c.read.ensures.channel c.read.ensures.storage c.read.ensures.sediment) c.args.river c.in_ok-slot.ensures.finding
    (slot_says c.in_ok-slot.slot) c.in_ok-slot.ensures.slot _ _ c.stretch-first.ensures).channel

pub slice_bounds-step_on-end-2 : goal.slice_bounds-step_on-end-2
slice_bounds-step_on-end-2 c =
    (stands _ _ (read-lent c.args.table.now c.read.ensures.channel c.read.ensures.storage c.read.ensures.sediment) c.args.river c.in_ok-slot.ensures.finding
    (slot_says c.in_ok-slot.slot) c.in_ok-slot.ensures.slot _ _ c.stretch-first.ensures).storage

pub slice_bounds-step_on-end-3 : goal.slice_bounds-step_on-end-3
slice_bounds-step_on-end-3 c =
    (stands _ _ (read-lent c.args.table.now c.read.ensures.channel c.read.ensures.storage c.read.ensures.sediment) c.args.river c.in_ok-slot.ensures.finding
    (slot_says c.in_ok-slot.slot) c.in_ok-slot.ensures.slot _ _ c.stretch-first.ensures).sediment

pub overflow_sub-river : goal.overflow_sub-river
overflow_sub-river c =
    (stands _ _ (read-lent c.args.table.now c.read.ensures.channel c.read.ensures.storage c.read.ensures.sediment) c.args.river c.in_ok-slot.ensures.finding
    (slot_says c.in_ok-slot.slot) c.in_ok-slot.ensures.slot _ _ c.stretch-first.ensures).numbered

pub returns-in_err-stepped : goal.returns-in_err-stepped
returns-in_err-stepped c =
    let e : c.from_residual-in_err-stepped.result ≡ Err c.in_err-stepped.field-0.0 = search rules in
    rw e
    (stepped _ _ (read-lent c.args.table.now c.read.ensures.channel c.read.ensures.storage c.read.ensures.sediment) c.args.river c.in_ok-slot.ensures.finding
    (slot_says c.in_ok-slot.slot) c.in_ok-slot.ensures.slot _ _ c.stretch-first.ensures
    _ _ _ _ _ _ _ refl _ _ _ _ _ _ (rw c.river_in.ensures at c.in_err-stepped.ensures))

pub returns : goal.returns
returns c =
    stepped _ _ (read-lent c.args.table.now c.read.ensures.channel c.read.ensures.storage c.read.ensures.sediment) c.args.river c.in_ok-slot.ensures.finding
    (slot_says c.in_ok-slot.slot) c.in_ok-slot.ensures.slot _ _ c.stretch-first.ensures
    _ _ _ _ _ _ _ (rw c.with_state.ensures at c.put.ensures) _ _ _ _ _ _ (rw c.river_in.ensures at c.in_ok-stepped.ensures)
