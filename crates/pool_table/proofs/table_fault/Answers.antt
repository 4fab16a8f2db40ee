use Rattle.std.proofs.Common.{ℕ, ◌∙◌, ◌||◌, rules}
use Rattle.std.proofs.lemmas.Iterator.{YieldsList-from_range}
use Rattle.std.proofs.lemmas.Iterator.Search.{any_from_yields_List}
use Rattle.lists.specs.Lists.{any_below}
use Rattle.model.specs.Pool.{slot_at, passes_end, overlap, table_fault}
use Rattle.terms.specs.Lent.{table_in}
use Rattle.lists.proofs.AnyBelow.{below-any}
use Rattle.pool_table.proofs.table_fault.Goals as goal

pub returns : goal.returns
unfolding table_fault
returns c =
    let slot = slot_at (table_in c.args.table) in
    let test = λ (i : ℕ). passes_end (slot i) || any_below i (λ j. overlap (slot i) (slot j)) in
    any_from_yields_List test _ _ _ c.any.ensures.ran (YieldsList-from_range 0 8 8 (search rules) (search rules)) (λ x b q k. search rules)
    ∙ below-any test 8
