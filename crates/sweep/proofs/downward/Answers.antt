use Rattle.sweep.proofs.DownPass.{down-ready, down_turn, down-end}
use Rattle.sweep.proofs.downward.Goals as goal

pub passed_down-d-requires : goal.passed_down-d-requires
passed_down-d-requires c =
    down-ready c.requires c.loop-i-test.true c.loop-i.invariant.0 c.pair_at-x.ensures c.channel_or_0-below.ensures

pub loop-i-preserved : goal.loop-i-preserved
loop-i-preserved c = (
  down_turn c.requires c.loop-i-test.true c.loop-i.invariant.0 c.pair_at-x.ensures c.channel_or_0-below.ensures c.passed_down-d.ensures.0,
  record { p = c.loop-i.invariant.1.p; y = c.loop-i.invariant.1.y },
)

pub returns : goal.returns
returns c = record { same = c.loop-i.invariant.1; lists = down-end c.requires c.loop-i-test.false c.loop-i.invariant.0 }
