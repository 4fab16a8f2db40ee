use mathlib.Core.Path.{sym, ap, ◌∙◌}
use Rattle.lists.specs.Lists.{any_under}
use Rattle.lists.proofs.Shorter.{under-lengths}
use Rattle.model.specs.State.{column_lists}
use Rattle.model.specs.Load.{list_tests}
use Rattle.assembly.proofs.TestsInTurn.{last}
use Rattle.assembly.proofs.lengths_test.Goals as goal

pub returns : goal.returns
unfolding list_tests
returns c =
    λ x e.
    let short = c.any_short-short.ensures ∙ ap (any_under _) (sym e) ∙ under-lengths _ (column_lists x) in
    last (c.test.ensures ∙ rw (c.flow_row_count.ensures, short, c.segment_count.ensures, c.reach_count.ensures))
