use mathlib.Core.Path.{◌∙◌}
use Rattle.std.proofs.Common.{rules, nat_lt}
use Rattle.std.proofs.lemmas.Iterator.{YieldsList-from_slice}
use Rattle.std.proofs.lemmas.Iterator.Search.{any_from_yields_List}
use Rattle.lists.proofs.Shorter.{under_list_any}
use Rattle.lists.proofs.any_short.Goals as goal

pub returns : goal.returns
returns c =
    any_from_yields_List (λ x. nat_lt x c.args.n) _ _ _ c.any.ensures.ran (YieldsList-from_slice c.args.lengths.now cc) (λ x b q k. search rules)
    ∙ under_list_any c.args.n c.args.lengths.now
