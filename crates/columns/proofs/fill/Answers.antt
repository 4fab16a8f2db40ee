use native.Mathlib.Omega.{arith}
use borrow.Author.Rules.{rules}
use Rattle.course.proofs.River.{clear-site, passes-site, numbers-are, own_is}
use Rattle.course.proofs.Walking.{goes-down, site-of}
use Rattle.columns.proofs.Writing.{writing-turn, writing-end, segment-is}
use Rattle.columns.proofs.fill.Goals as goal

pub numbers-numbers-requires : goal.numbers-numbers-requires
numbers-numbers-requires c =
    passes-site (clear-site (site-of _ c.loop-i.invariant.stands c.next_site-site.ensures.segment) (omega arith) c.requires.1 c.loop-i-test.true) (omega arith)

pub loop-i-preserved : goal.loop-i-preserved
loop-i-preserved c =
    let i = c.loop-i.invariant in
    let here = site-of _ i.stands c.next_site-site.ensures.segment in
    record {
      stands = goes-down i.stands c.next_site-site.ensures.below;
      same = search (rules, i.same);
      written = writing-turn i.written c.requires.2 c.loop-i-test.true
          (segment-is _ _ c.numbers-numbers.result c.next_site-site.result.own (numbers-are here c.requires.1 c.loop-i-test.true c.numbers-numbers.ensures) (own_is here));
    }

pub returns-clause-lists : goal.returns-clause-lists
returns-clause-lists c =
    writing-end c.args.sheet.now c.args.row c.loop-i.invariant.written (omega (arith, c.loop-i-test.false, c.loop-i.auto.i-end, c.requires.0.count))
