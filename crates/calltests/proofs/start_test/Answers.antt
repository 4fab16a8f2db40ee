-- `start_test` meets its contract: the tests of a start, in their order.
use mathlib.Core.Path.{sym, ◌∙◌}
use native.Mathlib.Numerals.{add-one}
use native.Mathlib.Omega.{arith}
use borrow.Author.Tests.{lt-ltb, le-ltb}
use Rattle.std.proofs.lemmas.Result.{err_from_is_err_and}
use Rattle.blocks.proofs.Fault.{blocks-tested}
use Rattle.model.specs.Calls.{start_tests}
use Rattle.model.proofs.Refusals.{test-clear}
use Rattle.calltests.proofs.Found.{failed, first_one, below-some, below-none}
use Rattle.calltests.proofs.RiverLaws.{counted, columns-long}
use Rattle.calltests.proofs.start_test.Goals as goal

pub returns-in_err-test : goal.returns-in_err-test
unfolding start_tests
returns-in_err-test c =
    let p = err_from_is_err_and c.from_residual.result c.from_residual.ensures.1 in
    let f = failed c.in_err-test.ensures in
    rw (p.1, p.2, f.1, sym c.river_fault.ensures ∙ f.0)

pub returns-in_err-test-2 : goal.returns-in_err-test-2
unfolding start_tests
returns-in_err-test-2 c =
    let p = err_from_is_err_and c.from_residual-in_err-test-2.result c.from_residual-in_err-test-2.ensures.1 in
    let f = failed c.in_err-test-2.ensures in
    rw (p.1, p.2, f.1, sym c.river_fault.ensures ∙ test-clear 13 _ (sym c.in_ok-test.ensures), blocks-tested _ _ c.count.ensures f.0)

pub segment_at_fault-requires : goal.segment_at_fault-requires
segment_at_fault-requires c =
    let r = sym c.river_fault.ensures ∙ test-clear 13 _ (sym c.in_ok-test.ensures) in
    ((counted _ _ r).1, columns-long _ _ _ r)

pub place_of-requires : goal.place_of-requires
place_of-requires c =
    omega (arith, counted _ _ (sym c.river_fault.ensures ∙ test-clear 13 _ (sym c.in_ok-test.ensures)), below-some c.in-Some.ensures)

pub returns-in-Some : goal.returns-in-Some
unfolding start_tests
returns-in-Some c =
    let found = below-some c.in-Some.ensures in
    rw (
      c.at.ensures,
      c.place_of.ensures,
      sym c.river_fault.ensures ∙ test-clear 13 _ (sym c.in_ok-test.ensures),
      blocks-tested _ _ c.count.ensures (test-clear 13 _ (sym c.in_ok-test-2.ensures)),
      ← found.1,
      lt-ltb _ _ found.0,
      add-one c.in-Some.i,
    )

pub returns : goal.returns
unfolding start_tests
returns c =
    rw (
      c.test-3.ensures,
      c.outside.ensures,
      c.from.ensures,
      sym c.river_fault.ensures ∙ test-clear 13 _ (sym c.in_ok-test.ensures),
      blocks-tested _ _ c.count.ensures (test-clear 13 _ (sym c.in_ok-test-2.ensures)),
      le-ltb _ _ (below-none c.in_default.ensures),
    )
    (first_one _)
