-- The first i entries are written.
use Rattle.std.proofs.Common.{get_or}
use Rattle.lists.proofs.Over.{Filling}
use Rattle.lists.proofs.copy.Given as goal

abbrev pub invariant-loop-i : goal.invariant-loop-i
invariant-loop-i l = Filling (λ k. get_or l.from k 0) l.initial.to l.i l.to
