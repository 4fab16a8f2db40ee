-- `Writer::put_number` meets its contract: the digits, and the byte behind them.
use mathlib.Core.Path.{◌∙◌}
use Rattle.output.specs.Text.{ended}
use Rattle.output.proofs.Putting.{put_then}
use Rattle.output.proofs.Decimal.{fewest-decimal}
use Rattle.output.proofs.Writer.put_number.Goals as goal

pub returns : goal.returns
unfolding ended
returns c =
    let d = c.decimal-count.ensures in
    put_then (rw (d.digits ∙ fewest-decimal _ _ d.len) at c.put_text.ensures) c.put_text-2.ensures
