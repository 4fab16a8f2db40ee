use mathlib.Core.Path.{sym, ap, ◌∙◌}
use Prim.Native.Nat.{◌<◌}
use native.Mathlib.Omega.{arith}
use borrow.Author.Tests.{ltb-true, ltb-false}
use lib.ListN.{length}
use Rattle.std.proofs.lemmas.Result.{err_from_is_err_and}
use Rattle.model.specs.Ranges.{outside, band_section}
use Rattle.model.specs.Sheet.{sections}
use Rattle.model.proofs.Refusals.{test-clear}
use Rattle.limits.specs.Says.{section_says}
use Rattle.sheet.proofs.Tests.{failed}
use Rattle.sheet.proofs.Walking.{walking-end, walking-short, walking-count, walking-cut, walking_on}
use Rattle.sheet.proofs.walks.walk.Goals as goal

pub returns-in_err-test : goal.returns-in_err-test
returns-in_err-test c =
    let p = err_from_is_err_and c.from_residual.result c.from_residual.ensures.1 in
    let f = failed c.in_err-test.ensures in
    rw (p.1, p.2, f.1)
    (walking-short c.loop-k.invariant.0 band_section (omega (arith, c.section_count-k-end.ensures.0)) (ltb-true _ _ f.0))

pub returns-in_err-test-2 : goal.returns-in_err-test-2
returns-in_err-test-2 c =
    let less : c.loop-k.k < length (sections c.args.sheet.now) = omega (arith, c.section_count-k-end.ensures.0) in
    let p = err_from_is_err_and c.from_residual-in_err-test-2.result c.from_residual-in_err-test-2.ensures.1 in
    let f = failed c.in_err-test-2.ensures in
    let entry = c.section_of-section.ensures.0 c.args.sheet.now less in
    let long = ltb-false _ _ (test-clear 2 _ (sym c.in_ok-test.ensures)) in
    let asked = sym (c.outside.ensures ∙ ap (outside _) (c.from.ensures ∙ c.field.ensures)) in
    rw (p.1, p.2, f.1)
    (walking-count c.loop-k.invariant.0 band_section less (section_says c.section_of-section.result) entry long (asked ∙ f.0))

pub returns-in_err-test-3 : goal.returns-in_err-test-3
returns-in_err-test-3 c =
    let less : c.loop-k.k < length (sections c.args.sheet.now) = omega (arith, c.section_count-k-end.ensures.0) in
    let p = err_from_is_err_and c.from_residual-in_err-test-3.result c.from_residual-in_err-test-3.ensures.1 in
    let f = failed c.in_err-test-3.ensures in
    let entry = c.section_of-section.ensures.0 c.args.sheet.now less in
    let long = ltb-false _ _ (test-clear 2 _ (sym c.in_ok-test.ensures)) in
    let right = sym (c.outside.ensures ∙ ap (outside _) (c.from.ensures ∙ c.field.ensures)) ∙ test-clear 3 _ (sym c.in_ok-test-2.ensures) in
    rw (p.1, p.2, f.1)
    (walking-cut c.loop-k.invariant.0 band_section less (section_says c.section_of-section.result) entry long right
    (rw (← c.section_end-at.ensures.0) (ltb-true _ _ f.0)))

pub loop-k-preserved : goal.loop-k-preserved
loop-k-preserved c =
    let less : c.loop-k.k < length (sections c.args.sheet.now) = omega (arith, c.section_count-k-end.ensures.0) in
    let entry = c.section_of-section.ensures.0 c.args.sheet.now less in
    let long = ltb-false _ _ (test-clear 2 _ (sym c.in_ok-test.ensures)) in
    let right = sym (c.outside.ensures ∙ ap (outside _) (c.from.ensures ∙ c.field.ensures)) ∙ test-clear 3 _ (sym c.in_ok-test-2.ensures) in
    let fits = ltb-false _ _ (test-clear 2 _ (sym c.in_ok-test-3.ensures)) in
    let end = c.section_end-at.ensures.0 in (
      rw end
          (walking_on c.loop-k.invariant.0 band_section less (section_says c.section_of-section.result) entry long right (rw (← end) fits)),
      omega arith,
    )

pub returns : goal.returns
returns c = walking-end c.loop-k.invariant.0 (omega (arith, c.section_count-k-end.ensures.0))
