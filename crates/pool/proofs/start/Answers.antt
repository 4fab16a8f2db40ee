use Rattle.std.proofs.Common.{◌≡◌, Err, sym, refl, rules}
use Rattle.model.specs.Calls.{start}
use Rattle.terms.specs.Lent.{columns_of}
use Rattle.pool_table.specs.Says.{slot_says}
use Rattle.pool.proofs.Stretched.{read-lent, in-front, stands, started}
use Rattle.pool.proofs.start.Goals as goal

pub returns-in_err-slot : goal.returns-in_err-slot
returns-in_err-slot c =
    let e : c.from_residual.result ≡ Err c.in_err-slot.field-0.0 = search rules in
    rw e (sym (in-front _ _ _ (start (columns_of c.args.columns) c.args.highest.now c.args.u)
    (read-lent c.args.table.now c.read.ensures.channel c.read.ensures.storage c.read.ensures.sediment) c.in_err-slot.ensures.finding))

pub slice_bounds-start_on-end : goal.slice_bounds-start_on-end
slice_bounds-start_on-end c =
    (stands _ _ (read-lent c.args.table.now c.read.ensures.channel c.read.ensures.storage c.read.ensures.sediment) c.args.river c.in_ok-slot.ensures.finding
    (slot_says c.in_ok-slot.slot) c.in_ok-slot.ensures.slot _ _ c.stretch-first.ensures).channel

pub slice_bounds-start_on-end-2 : goal.slice_bounds-start_on-end-2
slice_bounds-start_on-end-2 c =
    (stands _ _ (read-lent c.args.table.now c.read.ensures.channel c.read.ensures.storage c.read.ensures.sediment) c.args.river c.in_ok-slot.ensures.finding
    (slot_says c.in_ok-slot.slot) c.in_ok-slot.ensures.slot _ _ c.stretch-first.ensures).storage

pub slice_bounds-start_on-end-3 : goal.slice_bounds-start_on-end-3
slice_bounds-start_on-end-3 c =
    (stands _ _ (read-lent c.args.table.now c.read.ensures.channel c.read.ensures.storage c.read.ensures.sediment) c.args.river c.in_ok-slot.ensures.finding
    (slot_says c.in_ok-slot.slot) c.in_ok-slot.ensures.slot _ _ c.stretch-first.ensures).sediment

pub overflow_sub-river : goal.overflow_sub-river
overflow_sub-river c =
    (stands _ _ (read-lent c.args.table.now c.read.ensures.channel c.read.ensures.storage c.read.ensures.sediment) c.args.river c.in_ok-slot.ensures.finding
    (slot_says c.in_ok-slot.slot) c.in_ok-slot.ensures.slot _ _ c.stretch-first.ensures).numbered

pub returns-in_err-started : goal.returns-in_err-started
returns-in_err-started c =
    let e : c.from_residual-in_err-started.result ≡ Err c.in_err-started.field-0.0 = search rules in
    rw e
    (started _ _ (read-lent c.args.table.now c.read.ensures.channel c.read.ensures.storage c.read.ensures.sediment) c.args.river c.in_ok-slot.ensures.finding
    (slot_says c.in_ok-slot.slot) c.in_ok-slot.ensures.slot _ _ c.stretch-first.ensures
    _ _ _ _ _ _ _ refl _ _ _ (c.in_err-started.ensures _ _))

pub returns : goal.returns
returns c =
    started _ _ (read-lent c.args.table.now c.read.ensures.channel c.read.ensures.storage c.read.ensures.sediment) c.args.river c.in_ok-slot.ensures.finding
    (slot_says c.in_ok-slot.slot) c.in_ok-slot.ensures.slot _ _ c.stretch-first.ensures
    _ _ _ _ _ _ _ (rw c.with_state.ensures at c.put.ensures) _ _ _ (c.in_ok-started.ensures _ _)
