-- `Bands::hydraulics_at` meets its contract: none of the bands before j holds the flow. Assumes nothing.
use Rattle.lists.proofs.Lowest.{Searching}
use Rattle.model.specs.Bands.{holds}
use Rattle.bands.specs.Bands.{bands_say}
use Rattle.bands.proofs.place.Bands.hydraulics_at.Given as goal

abbrev pub invariant-loop-j : goal.invariant-loop-j
invariant-loop-j l = Searching (λ k. holds ((bands_say l.sheet l.fn.self).band k) l.q) l.fn.self.count l.j
