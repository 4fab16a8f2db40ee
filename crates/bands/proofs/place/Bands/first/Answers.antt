-- `Bands::first` meets its contract. Assumes nothing.
use Rattle.bands.proofs.Banded.{standing-first}
use Rattle.bands.proofs.place.Bands.first.Goals as goal

pub returns : goal.returns
returns c = standing-first c.band_count_at-at.ensures.0 c.count_at.ensures
