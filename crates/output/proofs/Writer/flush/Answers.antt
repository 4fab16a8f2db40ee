-- `Writer::flush` meets its contract: the write that is due lies within the buffer.
use mathlib.Core.Path.{refl, ◌∙◌}
use Rattle.output.proofs.Putting.{due-within, due-not_all, flushed}
use Rattle.output.proofs.Writer.flush.Goals as goal
use Rattle.output.proofs.Writer.flush.Goals.{then-written, else-written}

pub write-written-requires : goal.write-written-requires
write-written-requires c = rw c.due-due.ensures (due-within _)

pub returns : goal.returns
returns c =
    let after = c.after_write-self.ensures in
    flushed c.if-written.all after.0 after.1 refl
    (λ h. elim c.if-written.branch [
      | then-written w ↦ w.all-is ∙ rw c.due-due.ensures (due-not_all c.args.self.now h)
      | else-written w ↦ w.all-is ∙ w.if-written.false
    ])
