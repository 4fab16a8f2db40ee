-- `Writer::put_refused` meets its contract: a word and a number.
use native.Mathlib.Omega.{arith}
use Rattle.output.specs.Text.{refused}
use Rattle.output.proofs.Putting.{put_then, put-line}
use Rattle.output.proofs.Lengths.{length-refused}
use Rattle.output.proofs.Writer.put_refused.Goals as goal

pub returns : goal.returns
unfolding refused
returns c =
    put-line (length-refused _ (omega (arith, c.ranges.number))) c.room.ensures (put_then c.put_text.ensures (rw c.from.ensures at c.put_number.ensures))
