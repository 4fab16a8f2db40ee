-- `section_end` meets its contract: at most 31 fields of 4 bytes for each of at most 2^32 records. Assumes nothing.
use Prim.Native.Nat.{ℕ, ◌*◌, ◌^◌, ◌<◌, ◌≤◌}
use native.Mathlib.Nat.{mul-le-mul}
use native.Mathlib.Omega.{arith}
use Rattle.model.specs.Sheet.{section_end}
use Rattle.sheet.proofs.layout.section_end.Goals as goal

-- the fields of the section
few : (w n : ℕ) → w < 32 → n < 2 ^ 32 → w * n ≤ 31 * 2 ^ 32
few w n narrow short = mul-le-mul (let h : w ≤ 31 = omega arith in h) (let h : n ≤ 2 ^ 32 = omega arith in h)

pub returns : goal.returns
unfolding section_end
returns c = (rw c.field.ensures, omega (arith, few c.args.section.width c.field.result (omega arith) (omega arith)))
