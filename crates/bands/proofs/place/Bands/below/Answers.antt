-- `Bands::below` meets its contract: the walk has passed the section of every reach. Assumes nothing.
use native.Mathlib.Omega.{arith}
use Rattle.sheet.specs.declared.editions.Mark.TheVariants.{Otr3}
use Rattle.sheet.proofs.Marked.{since-mark}
use Rattle.bands.proofs.Banded.{band-end, standing-still, standing-next, next-near}
use Rattle.bands.proofs.place.Bands.below.Goals as goal

pub returns-then-lt : goal.returns-then-lt
returns-then-lt c = standing-still c.requires.1 (since-mark c.edition.result c.edition.ensures Otr3 c.lt.ensures c.if-lt.true)

pub invariant_of-result : goal.invariant_of-result
invariant_of-result c =
    let p = c.requires in
    let end = next-near p.1 (since-mark c.edition.result c.edition.ensures Otr3 c.lt.ensures c.if-lt.false) p.2 p.0 in
    record { near = omega (arith, band-end c.args.sheet.now c.args.self.at c.field.ensures, end) }

pub returns : goal.returns
returns c =
    let p = c.requires in
    standing-next p.1 (since-mark c.edition.result c.edition.ensures Otr3 c.lt.ensures c.if-lt.false) p.2
    (band-end c.args.sheet.now c.args.self.at c.field.ensures) c.field-2.ensures
