-- `segments::river_fault` meets its contract: the count, the set, the other lists.
use mathlib.Core.Path.{sym, ◌∙◌}
use mathlib.Core.List.{[], ◌∷◌}
use Rattle.lists.proofs.Shorter.{under-lengths}
use Rattle.model.specs.Calls.{river_fault}
use Rattle.calltests.proofs.RiverLaws.{river-set, river-others}
use Rattle.calltests.proofs.segments.river_fault.Goals as goal

pub returns-then-outside : goal.returns-then-outside
unfolding river_fault
returns-then-outside c = rw (sym (rw c.from.ensures at c.outside.ensures) ∙ c.if-outside.true)

pub returns-then-is_shorter : goal.returns-then-is_shorter
returns-then-is_shorter c = sym (river-set _ _ _ (sym (rw c.from.ensures at c.outside.ensures) ∙ c.if-outside.false) (sym c.is_shorter.ensures ∙ c.if-is_shorter.true))

pub returns : goal.returns
returns c =
    c.any_short.ensures ∙ under-lengths _ (_ ∷ _ ∷ _ ∷ _ ∷ _ ∷ _ ∷ _ ∷ [])
    ∙ sym (river-others _ _ _ (sym (rw c.from.ensures at c.outside.ensures) ∙ c.if-outside.false) (sym c.is_shorter.ensures ∙ c.if-is_shorter.false))
