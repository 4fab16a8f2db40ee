use mathlib.Core.List.{map}
use mathlib.Core.Path.{ap, ◌∙◌}
use native.Mathlib.Omega.{arith}
use lib.ListN.{set}
use Rattle.terms.specs.Says.{reach_says}
use Rattle.records.proofs.Filled.{table-next, table_filled}
use Rattle.records.proofs.fill.Goals as goal

pub loop-i-preserved : goal.loop-i-preserved
loop-i-preserved c =
    let i = c.loop-i.i in
    let r = c.reach.result in
    c.put.ensures ∙ ap (λ l. set l i r) c.loop-i.invariant ∙ table-next c.args.sheet.now c.args.reaches.now i r c.reach.ensures

pub returns : goal.returns
returns c = ap (map reach_says) c.loop-i.invariant ∙ table_filled c.args.sheet.now c.args.reaches.now c.args.count c.loop-i.i (omega arith)
