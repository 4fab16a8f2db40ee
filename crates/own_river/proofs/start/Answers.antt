-- `start` meets its contract: both sides are filled off the sheet, and the start figures copied.
use native.Mathlib.Omega.{arith}
use Rattle.own_river.proofs.Stepping.{copied, starts-long, begun}
use Rattle.own_river.proofs.start.Goals as goal

pub copy-requires : goal.copy-requires
copy-requires c = (starts-long _ _ _ (omega (arith, c.hold.ensures.sides_are.long, c.requires.1)) c.starts-starts.ensures, c.requires.2.channel)

pub copy-requires-2 : goal.copy-requires-2
copy-requires-2 c = (starts-long _ _ _ (omega (arith, c.hold.ensures.sides_are.long, c.requires.1)) c.starts-starts.ensures, c.requires.2.storage)

pub copy-requires-3 : goal.copy-requires-3
copy-requires-3 c = (starts-long _ _ _ (omega (arith, c.hold.ensures.sides_are.long, c.requires.1)) c.starts-starts.ensures, c.requires.2.sediment)

pub returns-clause-begun : goal.returns-clause-begun
returns-clause-begun c =
    begun _ _ _ _ _ _ c.requires.0 c.requires.2 c.requires.3 c.hold.ensures _ _ _
    (copied c.args.n c.args.state.now.channel.now c.starts-starts.ensures c.copy.ensures)
    (copied c.args.n c.args.state.now.storage.now c.starts-starts.ensures c.copy-2.ensures)
    (copied c.args.n c.args.state.now.sediment.now c.starts-starts.ensures c.copy-3.ensures)
