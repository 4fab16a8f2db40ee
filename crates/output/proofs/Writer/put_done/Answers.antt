-- `Writer::put_done` meets its contract: a word and a number.
use native.Mathlib.Omega.{arith}
use Rattle.output.specs.Text.{done}
use Rattle.output.proofs.Putting.{put_then, put-line}
use Rattle.output.proofs.Lengths.{length-done}
use Rattle.output.proofs.Writer.put_done.Goals as goal

pub returns : goal.returns
unfolding done
returns c =
    put-line (length-done _ (omega (arith, c.ranges.steps))) c.room.ensures (put_then c.put_text.ensures (rw c.from.ensures at c.put_number.ensures))
