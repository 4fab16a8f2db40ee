-- `highest_from` meets its contract.
use mathlib.Core.Path.{◌≡◌}
use Prim.Native.Nat.{◌+◌}
use lib.ListN.{get_or}
use Rattle.lists.specs.Lists.{highest_below}
use Rattle.blocks.proofs.highest_from.Given as goal

abbrev pub invariant-loop-j : goal.invariant-loop-j
invariant-loop-j l = l.top ≡ highest_below l.j (λ i. get_or l.channel (l.from + i) 0)
