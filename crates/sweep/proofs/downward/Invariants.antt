-- `sweep::downward` meets its contract. The loop's invariant, `Down`: before segment i, p and y of the segments above are written, and what
-- stands above segment i is in the locals.
use Rattle.terms.specs.Lent.{set_of, columns_of, state_lent, working_lent, SameWorking}
use Rattle.segment.specs.Says.{passed_says}
use Rattle.sweep.proofs.DownPass.{Down}
use Rattle.sweep.proofs.downward.Given as goal

abbrev pub invariant-loop-i : goal.invariant-loop-i
invariant-loop-i l =
    Down l.n (set_of l.old) (columns_of l.new) (state_lent l.state l.u 0) (working_lent l.initial.working) l.next l.i l.above (passed_says l.d) (working_lent l.working)
    × SameWorking l.initial.working l.working
