use Rattle.std.proofs.Common.{ℕ, ◌∙◌, rules}
use Rattle.std.proofs.lemmas.Iterator.{YieldsList-from_range}
use Rattle.std.proofs.lemmas.Iterator.Search.{any_from_yields_List}
use Rattle.model.specs.Pool.{slot_at, holds, covered}
use Rattle.terms.specs.Lent.{table_in}
use Rattle.lists.proofs.AnyBelow.{below-any}
use Rattle.packing.proofs.is_covered.Goals as goal

pub returns : goal.returns
unfolding covered
returns c =
    let test = λ (i : ℕ). holds (slot_at (table_in c.args.table) i) c.args.s in
    any_from_yields_List test _ _ _ c.any.ensures.ran (YieldsList-from_range 0 8 8 (search rules) (search rules)) (λ x b q k. search rules)
    ∙ below-any test 8
