-- `Descent::first` meets its contract. Assumes nothing.
use mathlib.Core.Path.{refl}
use Rattle.course.proofs.Descending.{read_all, first-arrives, first-at, stands-first}
use Rattle.course.proofs.descent.Descent.first.Goals as goal

pub arrive-here-requires : goal.arrive-here-requires
arrive-here-requires c = rw c.dx.ensures (first-arrives (read_all c.requires) c.reach-own.ensures c.first-bands.ensures)

pub returns : goal.returns
returns c =
    let at = first-at (read_all c.requires) (rw c.dx.ensures at c.arrive-here.ensures) c.reach-own.ensures c.first-bands.ensures in
    record {
      descends = record {
        read = c.requires;
        time = c.dt.ensures;
        length = c.dx.ensures;
        stands = λ h. stands-first c.requires at c.first-bands.ensures c.ad.ensures;
      };
      sheet_is = refl;
      top_is = c.top_of.ensures;
      count_is = refl;
      place_is = refl;
    }
