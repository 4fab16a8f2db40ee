use Rattle.std.proofs.Common.{◌≡◌, length, sym, arith, rules}
use lib.Seq.{set_out}
use Rattle.terms.specs.Lent.{table_in}
use Rattle.pool_table.specs.Says.{slot_says}
use Rattle.pool_table.proofs.Numbers.{table-put}
use Rattle.pool_table.proofs.put.Goals as goal

pub returns-then-i-lt-RIVERS : goal.returns-then-i-lt-RIVERS
returns-then-i-lt-RIVERS c =
    let long : length c.args.table.now ≡ 40 = search rules in
    table-put c.args.table.now long c.args.i c.if-i-lt-RIVERS.true (slot_says c.args.slot) c.copy_from_slice.new.self (search rules)

pub returns-else-i-lt-RIVERS : goal.returns-else-i-lt-RIVERS
unfolding table_in
returns-else-i-lt-RIVERS c = sym (set_out (table_in c.args.table.now) c.args.i _ (omega (arith, c.if-i-lt-RIVERS.false)))
