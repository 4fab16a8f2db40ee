-- `rows::last_started` meets its contract. The loop's invariant: `found` is that of the last row passed that has begun.
use mathlib.Core.Path.{◌≡◌}
use mathlib.Core.List.{◌∷◌}
use lib.ListN.{get_or}
use Rattle.model.specs.Flow.{last_begun}
use Rattle.boundary.proofs.rows.last_started.Given as goal

abbrev pub invariant-loop-i : goal.invariant-loop-i
invariant-loop-i l = l.found ≡ get_or (0 ∷ l.concentrations) (last_begun l.j (λ k. get_or l.starts k 0) l.i) 0
