use Rattle.std.proofs.Common.{◌≡◌, Err, sym, ap, ◌∙◌, rules}
use Rattle.model.specs.Refusals.{test}
use Rattle.model.proofs.Refusals.{test-clear}
use Rattle.search.proofs.Answers.{searches-refused, searches-found, alone-tests, lists-long}
use Rattle.search.proofs.alone.Goals as goal

pub returns-in_err-test : goal.returns-in_err-test
returns-in_err-test c =
    let e : c.from_residual.result ≡ Err c.in_err-test.field-0.0 = search rules in
    rw e (searches-refused _ _ _ _ _ _ (alone-tests _ _ _ ∙ ap (test 13) (sym c.fault.ensures) ∙ sym c.in_err-test.ensures))

pub find-requires : goal.find-requires
find-requires c = lists-long _ _ _ (sym c.fault.ensures ∙ test-clear 13 _ (sym c.in_ok-test.ensures))

pub returns : goal.returns
returns c = searches-found _ _ _ _ _ _ (alone-tests _ _ _ ∙ ap (test 13) (sym c.fault.ensures) ∙ sym c.in_ok-test.ensures) c.find.ensures
