use native.Mathlib.Omega.{arith}
use borrow.Author.Rules.{rules}
use borrow.Author.Tests.{lt-ltb, le-ltb}
use Rattle.own_river_laws.proofs.Sheets.{rows-most}
use Rattle.forecast.proofs.Going.{going_start, below-most, going-above, going-turn, going_end}
use Rattle.forecast.proofs.run.Goals as goal

pub loop-init : goal.loop-init
loop-init c = record { same_state = search rules; same_working = search rules; going = going_start c.requires.0 c.requires.1 }

pub bounds-state-at : goal.bounds-state-at
bounds-state-at c = omega (arith, c.requires.2, c.loop.invariant.going.ready.in_range.long.channel)

pub returns-then-asked-state-clause-ran : goal.returns-then-asked-state-clause-ran
returns-then-asked-state-clause-ran c = going-above c.loop.invariant.going c.loop-test.true (lt-ltb _ _ c.if-asked-state.true)

pub overflow_add-river : goal.overflow_add-river
overflow_add-river c = omega (arith, below-most c.loop.invariant.going c.loop-test.true)

pub step-river-requires : goal.step-river-requires
step-river-requires c =
    let g = c.loop.invariant.going in
    (g.ready, below-most g c.loop-test.true, rw c.upstream_at-u.ensures (rows-most _ g.ready.of_sheet.passed _))

pub loop-preserved : goal.loop-preserved
loop-preserved c = record {
  same_state = search rules;
  same_working = search rules;
  going = going-turn c.loop.invariant.going c.loop-test.true (le-ltb _ _ c.if-asked-state.false) c.upstream_at-u.ensures c.step-river.ensures.stepped;
}

pub returns-clause-ran : goal.returns-clause-ran
returns-clause-ran c = going_end c.loop.invariant.going (omega arith)
