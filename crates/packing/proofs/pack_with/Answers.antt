use native.Mathlib.Omega.{arith}
use Rattle.terms.specs.Lent.{table_in}
use Rattle.packing.proofs.Packed.{list-packed, packed-end}
use Rattle.packing.proofs.pack_with.Goals as goal

pub slice_bounds-copy-end : goal.slice_bounds-copy-end
slice_bounds-copy-end c = packed-end (table_in c.args.table) _ _ _ c.pack-to.ensures.count c.requires.0 (omega (arith, c.requires.2))

pub returns : goal.returns
returns c =
    list-packed (table_in c.args.table) _ _ _ c.args.list.now _ _ c.pack-to.ensures.list c.pack-to.ensures.count
    (packed-end (table_in c.args.table) _ _ _ c.pack-to.ensures.count c.requires.0 (omega (arith, c.requires.2)))
    c.copy.ensures
