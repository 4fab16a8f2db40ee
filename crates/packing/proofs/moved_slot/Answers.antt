use Rattle.std.proofs.Common.{sym, ap, ◌∙◌, arith}
use Rattle.model.specs.Pool.{Slot, is_open}
use Rattle.terms.specs.Lent.{table_in}
use Rattle.packing.proofs.Packed.{first-within}
use Rattle.packing.proofs.moved_slot.Goals as goal

pub covered_below-requires : goal.covered_below-requires
covered_below-requires c =
    let e = c.taken-slot.ensures in
    let opened = sym (ap is_open e) ∙ sym c.is_open.ensures ∙ c.if-not-is_open.false in
    omega (arith, ap (λ (x : Slot). x.first) e, first-within (table_in c.args.table) c.args.i c.requires.0 c.requires.1 opened)
