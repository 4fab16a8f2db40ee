use Rattle.std.proofs.Common.{arith}
use Rattle.pool.proofs.Opened.{within}
use Rattle.pool.proofs.open_test.Goals as goal

pub overflow_cast-n : goal.overflow_cast-n
overflow_cast-n c = omega (arith, within c.args.sheet.now c.in_ok-river_test.ensures, c.segment_count-n.ensures)
