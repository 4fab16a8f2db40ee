-- `segments::set_at_fault` meets its contract.
use mathlib.Core.Path.{sym, ◌∙◌}
use native.Mathlib.Omega.{arith}
use borrow.Author.Tests.{le-ltb}
use Rattle.model.specs.Ranges.{◌to◌, most_segments}
use Rattle.model.specs.Calls.{river_fault}
use Rattle.model.proofs.Ranges.{inside}
use Rattle.terms.proofs.Lengths.{set_long}
use Rattle.calltests.proofs.segments.set_at_fault.Goals as goal

pub returns-then-outside : goal.returns-then-outside
unfolding river_fault
returns-then-outside c = rw (sym c.outside.ensures ∙ c.if-outside.true, le-ltb c.args.n c.args.n (omega arith))

pub returns-then-is_shorter : goal.returns-then-is_shorter
unfolding river_fault
returns-then-is_shorter c =
    rw (sym c.outside.ensures ∙ c.if-outside.false, sym c.is_shorter.ensures ∙ c.if-is_shorter.true, le-ltb c.args.n c.args.n (omega arith))

pub numbers_at_fault-requires : goal.numbers_at_fault-requires
numbers_at_fault-requires c =
    ((inside (1 to most_segments) _ (sym c.outside.ensures ∙ c.if-outside.false)).1, set_long _ _ (sym c.is_shorter.ensures ∙ c.if-is_shorter.false))

pub returns : goal.returns
unfolding river_fault
returns c =
    rw (sym c.outside.ensures ∙ c.if-outside.false, sym c.is_shorter.ensures ∙ c.if-is_shorter.false)
    c.numbers_at_fault.ensures
