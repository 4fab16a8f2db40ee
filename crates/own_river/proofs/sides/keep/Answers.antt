-- `keep` meets its contract: the ten parts of the new set are copied over those of the old one.
use Rattle.own_river.proofs.Parts.{set-kept}
use Rattle.own_river.proofs.sides.keep.Goals as goal

pub returns : goal.returns
returns c = set-kept c.args.sides.now _ c.copy_within.ensures.len c.copy_within.ensures.after
