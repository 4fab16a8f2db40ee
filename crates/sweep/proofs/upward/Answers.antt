use Rattle.sweep.proofs.UpPass.{figures-ready, up_turn, up-end}
use Rattle.sweep.proofs.upward.Goals as goal

pub new_figures-f-requires : goal.new_figures-f-requires
new_figures-f-requires c = figures-ready c.requires c.loop-i-test.true c.loop-i.invariant.0 c.pair_at-x.ensures

pub loop-i-preserved : goal.loop-i-preserved
loop-i-preserved c =
    let r = c.raised-below.ensures in
    let same = c.loop-i.invariant.1 in (
      up_turn c.requires c.loop-i-test.true c.loop-i.invariant.0 c.pair_at-x.ensures r.0 r.1 c.new_figures-f.ensures,
      record { channel = same.channel; storage = same.storage; sediment = same.sediment },
    )

pub returns : goal.returns
returns c = record { same = c.loop-i.invariant.1; lists = up-end c.requires c.loop-i-test.false c.loop-i.invariant.0 }
