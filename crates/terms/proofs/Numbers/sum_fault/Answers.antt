-- `Numbers::sum_fault` meets its contract. Assumes nothing.
use borrow.Author.Tests.{lt-ltb, le-ltb}
use Rattle.model.specs.Load.{sum_fault}
use Rattle.terms.proofs.Numbers.sum_fault.Goals as goal

pub returns-then-sum_t-gt-WHOLE : goal.returns-then-sum_t-gt-WHOLE
unfolding sum_fault
returns-then-sum_t-gt-WHOLE c = rw (lt-ltb _ _ (rw c.sum_t.ensures at c.if-sum_t-gt-WHOLE.true))

pub returns-then-sum_v-gt-WHOLE : goal.returns-then-sum_v-gt-WHOLE
unfolding sum_fault
returns-then-sum_v-gt-WHOLE c =
    rw (le-ltb _ _ (rw c.sum_t.ensures at c.if-sum_t-gt-WHOLE.false), lt-ltb _ _ (rw c.sum_v.ensures at c.if-sum_v-gt-WHOLE.true))

pub returns : goal.returns
unfolding sum_fault
returns c =
    rw (le-ltb _ _ (rw c.sum_t.ensures at c.if-sum_t-gt-WHOLE.false), le-ltb _ _ (rw c.sum_v.ensures at c.if-sum_v-gt-WHOLE.false))
