-- `sweep::upward` meets its contract. The loop's invariant, `Up`: the new figures of the segments from i on are written, and the uncut C' of
-- segment i is in the local.
use Rattle.terms.specs.Lent.{set_of, columns_of, state_lent, working_lent, SameState}
use Rattle.sweep.proofs.UpPass.{Up}
use Rattle.sweep.proofs.upward.Given as goal

abbrev pub invariant-loop-i : goal.invariant-loop-i
invariant-loop-i l =
    Up l.n (set_of l.old) (columns_of l.new) (state_lent l.initial.state 0 0) (working_lent l.working) l.i l.below (state_lent l.state 0 0)
    × SameState l.initial.state l.state
