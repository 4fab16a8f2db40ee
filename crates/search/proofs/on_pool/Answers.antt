use Rattle.std.proofs.Common.{◌≡◌, Err, rules}
use Rattle.terms.specs.Lent.{table_in}
use Rattle.pool_table.specs.Says.{slot_says}
use Rattle.search.proofs.Answers.{searches-refused, slot-refused, shared-refused, stands, on-stretch}
use Rattle.search.proofs.on_pool.Goals as goal

pub returns-in_err-slot : goal.returns-in_err-slot
returns-in_err-slot c =
    let e : c.from_residual.result ≡ Err c.in_err-slot.field-0.0 = search rules in
    rw e (searches-refused _ _ _ _ _ _ (slot-refused _ _ _ _ c.in_err-slot.ensures.finding))

pub returns-in_err-test : goal.returns-in_err-test
returns-in_err-test c =
    let e : c.from_residual-in_err-test.result ≡ Err c.in_err-test.field-0.0 = search rules in
    rw e (searches-refused _ _ _ _ _ _ (shared-refused _ _ _ _ c.in_ok-slot.ensures.finding c.in_err-test.ensures))

pub slice_bounds-alone-end : goal.slice_bounds-alone-end
slice_bounds-alone-end c =
    stands (table_in c.args.table.now) c.args.channel.now c.args.river c.args.highest.now c.in_ok-slot.ensures.finding c.in_ok-test.ensures
    (slot_says c.in_ok-slot.slot) c.in_ok-slot.ensures.slot _ _ c.stretch.ensures

pub returns : goal.returns
returns c =
    on-stretch (table_in c.args.table.now) c.args.channel.now c.args.river c.args.highest.now c.in_ok-slot.ensures.finding c.in_ok-test.ensures
    (slot_says c.in_ok-slot.slot) c.in_ok-slot.ensures.slot _ _ c.stretch.ensures c.alone.ensures
