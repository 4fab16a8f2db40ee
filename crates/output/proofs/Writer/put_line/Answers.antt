-- `Writer::put_line` meets its contract: five numbers of at most 20 digits, one behind another.
use native.Mathlib.Omega.{arith}
use Rattle.output.specs.Text.{line}
use Rattle.output.proofs.Putting.{put_then, put-line}
use Rattle.output.proofs.Lengths.{length-line}
use Rattle.output.proofs.Writer.put_line.Goals as goal

pub returns : goal.returns
unfolding line
returns c =
    let fits = c.ranges in
    let two = put_then (rw c.from.ensures at c.put_number.ensures) (rw c.from-2.ensures at c.put_number-2.ensures) in
    let four = put_then (put_then two (rw c.from-3.ensures at c.put_number-3.ensures)) (rw c.from-4.ensures at c.put_number-4.ensures) in
    put-line
    (length-line _ _ _ _ _
    (omega (arith, fits.step))
    (omega (arith, fits.segment))
    (omega (arith, fits.channel))
    (omega (arith, fits.storage))
    (omega (arith, fits.sediment)))
    c.room.ensures
    (put_then four c.put_number-5.ensures)
