use mathlib.Core.Path.{sym, ◌∙◌}
use mathlib.Core.Bool.{true≢false}
use Prim.Native.Nat.{◌+◌}
use native.Mathlib.Omega.{arith}
use Rattle.terms.specs.Lent.{state_lent, working_lent}
use Rattle.own_river_laws.proofs.Sheets.{rows-most}
use Rattle.river.proofs.Running.{Ending, going_start, below-most, going-turn, going_end, shown}
use Rattle.river.proofs.run.Goals as goal
use Rattle.river.proofs.run.Goals.{else-loop-done-test, then-loop-done-test+then-out}

pub loop-done-init : goal.loop-done-init
loop-done-init c = going_start c.requires.0

pub step-river-requires : goal.step-river-requires
step-river-requires c =
    let going = c.loop-done.invariant in
    (going.ready, below-most going (omega (arith, c.steps-most.ensures, c.loop-done-test.true)), rw c.upstream_at-u.ensures (rows-most _ going.ready.of_sheet.passed _))

pub put_lines-requires : goal.put_lines-requires
put_lines-requires c =
    let read = c.read.ensures in
    rw (read.channel, read.storage, read.sediment) (shown c.step-river.ensures.stepped.ready c.kd.result.now c.kd.ensures)

pub loop-done-preserved : goal.loop-done-preserved
loop-done-preserved c =
    let read = c.read.ensures in
    let lines = rw (read.channel, read.storage, read.sediment) at c.put_lines.ensures in
    going-turn c.loop-done.invariant c.upstream_at-u.ensures c.step-river.ensures.stepped lines

pub returns : goal.returns
returns c =
    let end = c.loop-done-test in
    let a = c.args in
    let l = c.loop-done in
    let ending : Ending a.sheet.now a.n a.sides.now (state_lent a.state.now a.river.upstream a.river.steps) (working_lent a.working.now) a.out.now
    end.sides (state_lent end.state end.river.upstream end.river.steps) (working_lent end.working) end.out =
    elim end.branch [
      | else-loop-done-test w ↦
          rw (w.river-is, w.sides-is, w.state-is, w.working-is, w.out-is)
          (record {
            steps = l.done;
            going = l.invariant;
            few = omega (arith, c.steps-most.ensures, l.auto.done-end);
            all = λ q. omega (arith, c.steps-most.ensures, w.loop-done-test.false);
          })
      | then-loop-done-test+then-out w ↦
          let read = w.read.ensures in
          let lines = rw (read.channel, read.storage, read.sediment) at w.put_lines.ensures in
          rw (w.river-is, w.sides-is, w.state-is, w.working-is, w.out-is)
          (record {
            steps = l.done + 1;
            going = going-turn l.invariant w.upstream_at-u.ensures w.step-river.ensures.stepped lines;
            few = omega (arith, c.steps-most.ensures, w.loop-done-test.true);
            all = λ q. absurd (true≢false (sym w.if-out.true ∙ q));
          })
    ] in
    going_end ending c.put_done.ensures
