-- `bands_test` meets its contract: no reach before reach i is at fault, whose bands are at hand. Assumes nothing.
use Rattle.lists.proofs.Lowest.{Searching}
use Rattle.model.specs.Sheet.{reach_count, bands_on}
use Rattle.model.specs.Bands.{bands_fault}
use Rattle.bands.specs.Bands.{Standing}
use Rattle.bands.proofs.bands_test.Given as goal

abbrev pub invariant-loop-i : goal.invariant-loop-i
invariant-loop-i l = Searching (λ k. bands_fault (bands_on l.sheet k)) (reach_count l.sheet) l.i × Standing l.sheet l.i l.bands
