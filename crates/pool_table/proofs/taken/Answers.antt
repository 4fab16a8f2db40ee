use mathlib.Core.Path.{sym}
use lib.ListN.{get_or-eq_default}
use Rattle.lists.proofs.Tab.{get_or-tab}
use Rattle.model.specs.Ranges.{most_rivers}
use Rattle.model.specs.Pool.{vacant}
use Rattle.terms.specs.Lent.{slot_in, table_in}
use Rattle.pool_table.proofs.taken.Goals as goal

pub returns-then-i-ge-RIVERS : goal.returns-then-i-ge-RIVERS
unfolding table_in
returns-then-i-ge-RIVERS c =
    let h = c.default.ensures in
    rw (h.0, h.1.0, h.1.1.0, h.1.1.1.0, h.1.1.1.1) (sym (get_or-eq_default (table_in c.args.table) vacant c.if-i-ge-RIVERS.true))

pub returns : goal.returns
unfolding table_in
returns c = sym (get_or-tab (slot_in c.args.table) most_rivers c.args.i vacant c.if-i-ge-RIVERS.false)
