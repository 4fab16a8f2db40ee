-- `Writer::put_heading` meets its contract.
use native.Mathlib.Omega.{arith}
use Rattle.output.specs.Text.{heading}
use Rattle.output.proofs.Putting.{put-line}
use Rattle.output.proofs.Writer.put_heading.Goals as goal

pub returns : goal.returns
unfolding heading
returns c = put-line (omega arith) c.room.ensures c.put_text.ensures
