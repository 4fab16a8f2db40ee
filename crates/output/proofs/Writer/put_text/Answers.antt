-- `Writer::put_text` meets its contract: what has room is copied, and past the end nothing would be stored.
use mathlib.Core.Path.{refl, sym}
use native.Mathlib.Omega.{arith}
use Rattle.output.proofs.Putting.{copied, sets-out}
use Rattle.output.proofs.Writer.put_text.Goals as goal

pub returns-then-used-size : goal.returns-then-used-size
returns-then-used-size c = record {
  used = omega (arith, c.min-count.ensures);
  failed = refl;
  bytes = rw c.copy_from_slice.ensures.after (copied _ _ _ c.min-count.ensures c.if-used-size.true);
  reference = refl;
}

pub returns-else-used-size : goal.returns-else-used-size
returns-else-used-size c = record {
  used = omega (arith, c.if-used-size.false);
  failed = refl;
  bytes = sym (sets-out c.args.text.now _ _ c.if-used-size.false);
  reference = refl;
}
