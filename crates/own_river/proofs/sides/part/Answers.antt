-- `part` meets its contract: a part ends within the list.
use native.Mathlib.Omega.{arith}
use Rattle.std.proofs.lemmas.List.{take-take}
use Rattle.own_river.specs.Sides.{parts, width, part_of}
use Rattle.own_river.proofs.Parts.{part-ends}
use Rattle.own_river.proofs.sides.part.Goals as goal

pub returns : goal.returns
unfolding part_of
returns c = take-take _ _ _ (omega (arith, part-ends c.args.k parts (width c.args.sides.now) c.requires))
