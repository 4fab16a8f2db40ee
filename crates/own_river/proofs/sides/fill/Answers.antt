-- `fill` meets its contract: the new side is lent as fourteen lists.
use mathlib.Core.Path.{refl}
use borrow.Author.Rules.{rules}
use Rattle.model.specs.State.{loaded_segments, write_segments}
use Rattle.assembly.proofs.LoadTests.{behind-12}
use Rattle.own_river.proofs.Parts.{changed}
use Rattle.own_river.proofs.sides.fill.Goals as goal

pub load-requires : goal.load-requires
load-requires c =
    let both = behind-12 c.args.sheet.now c.requires.0.count c.requires.0.passed in
    (both.0, both.1.each c.args.row c.requires.1, search rules)

pub returns : goal.returns
returns c =
    changed (write_segments (loaded_segments c.args.sheet.now c.args.row)) c.split_at_mut-new.result.0.now c.split_at_mut-start.result.1.now
    c.args.sides.now _ _ _ c.split_at_mut-new.ensures.front_len (search rules) (search rules) (cc) refl c.load.ensures
