use Rattle.std.proofs.Common.{◌≡◌, Err, sym, refl, ap, ◌∙◌, rules}
use Rattle.model.specs.Calls.{report}
use Rattle.terms.specs.Lent.{columns_of, pool_of}
use Rattle.pool_table.specs.Says.{slot_says}
use Rattle.pool.proofs.Stretched.{in-front, stands, reports}
use Rattle.pool.proofs.report.Goals as goal

pub returns-in_err-slot : goal.returns-in_err-slot
returns-in_err-slot c =
    let e : c.from_residual.result ≡ Err c.in_err-slot.field-0.0 = search rules in
    rw e (sym (ap (λ r. r.answer) (in-front (pool_of c.args.shared c.args.table.now) _ _ (report (columns_of c.args.columns) c.args.segment) refl c.in_err-slot.ensures.finding)))

pub slice_bounds-stretch-end : goal.slice_bounds-stretch-end
slice_bounds-stretch-end c =
    (stands (pool_of c.args.shared c.args.table.now) _ refl c.args.river c.in_ok-slot.ensures.finding
    (slot_says c.in_ok-slot.slot) c.in_ok-slot.ensures.slot _ _ c.stretch-first.ensures).channel

pub slice_bounds-stretch-end-2 : goal.slice_bounds-stretch-end-2
slice_bounds-stretch-end-2 c =
    (stands (pool_of c.args.shared c.args.table.now) _ refl c.args.river c.in_ok-slot.ensures.finding
    (slot_says c.in_ok-slot.slot) c.in_ok-slot.ensures.slot _ _ c.stretch-first.ensures).storage

pub slice_bounds-stretch-end-3 : goal.slice_bounds-stretch-end-3
slice_bounds-stretch-end-3 c =
    (stands (pool_of c.args.shared c.args.table.now) _ refl c.args.river c.in_ok-slot.ensures.finding
    (slot_says c.in_ok-slot.slot) c.in_ok-slot.ensures.slot _ _ c.stretch-first.ensures).sediment

pub returns : goal.returns
returns c =
    rw c.river_in.ensures at c.report.ensures
    ∙ reports (pool_of c.args.shared c.args.table.now) _ refl c.args.river c.in_ok-slot.ensures.finding
    (slot_says c.in_ok-slot.slot) c.in_ok-slot.ensures.slot _ _ c.stretch-first.ensures _ _
