use mathlib.Core.Path.{◌∙◌}
use Rattle.lists.proofs.Shorter.{under-lengths}
use Rattle.model.specs.State.{set_lists}
use Rattle.terms.specs.Lent.{set_of}
use Rattle.terms.proofs.Set.is_shorter.Goals as goal

pub returns : goal.returns
returns c = c.any_short.ensures ∙ under-lengths c.args.n (set_lists (set_of c.args.self))
