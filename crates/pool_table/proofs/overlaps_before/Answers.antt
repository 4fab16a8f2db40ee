use Rattle.std.proofs.Common.{ℕ, ◌∙◌, rules}
use Rattle.std.proofs.lemmas.Iterator.{YieldsList-from_range}
use Rattle.std.proofs.lemmas.Iterator.Search.{any_from_yields_List}
use Rattle.model.specs.Pool.{slot_at, overlap}
use Rattle.terms.specs.Lent.{table_in}
use Rattle.pool_table.specs.Says.{slot_says}
use Rattle.lists.proofs.AnyBelow.{below-any}
use Rattle.pool_table.proofs.overlaps_before.Goals as goal

pub returns : goal.returns
returns c =
    let n = c.args.i in
    let test = λ (j : ℕ). overlap (slot_says c.args.slot) (slot_at (table_in c.args.table) j) in
    any_from_yields_List test _ _ _ c.any.ensures.ran (YieldsList-from_range 0 n n (search rules) (search rules)) (λ x b q k. search rules)
    ∙ below-any test n
