-- `Bands::gap_behind` meets its contract. Assumes nothing.
use mathlib.Core.Path.{ap}
use mathlib.Core.Bool.{not}
use native.Mathlib.Numerals.{add-one}
use borrow.Author.Tests.{lt-ltb, le-ltb}
use Rattle.model.specs.Ranges.{flows}
use Rattle.model.specs.Bands.{gap_behind}
use Rattle.bands.proofs.place.Bands.gap_behind.Goals as goal

pub returns-then-band : goal.returns-then-band
unfolding gap_behind
returns-then-band c =
    let band = c.args.band in
    rw (lt-ltb band.highest flows.high c.if-band.true, ← add-one band.highest) (ap not c.begins.ensures)

pub returns-else-band : goal.returns-else-band
unfolding gap_behind
returns-else-band c = rw (le-ltb c.args.band.highest flows.high c.if-band.false)
