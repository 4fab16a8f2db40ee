-- `Split::doubled` meets its contract.
use mathlib.Core.Path.{refl}
use native.Mathlib.Omega.{arith}
use Rattle.rounding.proofs.Split.doubled.Goals.{then-self-short, else-self-short}
use Rattle.rounding.proofs.Split.doubled.Goals as goal

pub returns : goal.returns
returns c = elim c.if-self-short.branch [
  | then-self-short w ↦ rw w.result-is (omega arith, refl, omega arith)
  | else-self-short w ↦ rw w.result-is (omega arith, refl, omega arith)
]
