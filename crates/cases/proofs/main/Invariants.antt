-- Each case leads further on: the measure is what is left of the input.
use Rattle.std.proofs.Common.{length}
use Rattle.cases.proofs.main.Given as goal

abbrev pub decreases-loop-input : goal.decreases-loop-input
decreases-loop-input l = length l.input
