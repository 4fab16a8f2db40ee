-- `Descent::next_site` meets its contract: one turn of the descent. Assumes nothing.
use mathlib.Core.Path.{refl}
use native.Mathlib.Omega.{arith}
use Rattle.halfstep.proofs.Signed.{back}
use Rattle.sheet.proofs.Passed.{passed}
use Rattle.course.proofs.Descending.{passed-less, stood, goes_on}
use Rattle.course.proofs.descent.Descent.next_site.Goals as goal

pub bands_below-bands-requires : goal.bands_below-bands-requires
bands_below-bands-requires c =
    let d = c.requires.0 in
    let s = d.stands c.requires.1 in
    ((passed c.args.self.now.course.sheet.now d.read.passed).walked, passed-less d.read c.requires.1 s, s.bands, s.at.known)

pub returns-clause-segment : goal.returns-clause-segment
returns-clause-segment c =
    let d = c.requires.0 in
    stood d.read c.requires.1 (d.stands c.requires.1) c.below-below.ensures (rw (back c.args.self.now.here.flow (omega arith), d.length)) d.time c.ad.ensures

pub returns-clause-below : goal.returns-clause-below
returns-clause-below c =
    let d = c.requires.0 in
    record {
      descends = record {
        read = d.read;
        time = d.time;
        length = d.length;
        stands = λ h. goes_on d.read c.requires.1 (d.stands c.requires.1) c.below-below.ensures c.ad-self.ensures h;
      };
      sheet_is = refl;
      top_is = refl;
      count_is = refl;
      place_is = refl;
    }
