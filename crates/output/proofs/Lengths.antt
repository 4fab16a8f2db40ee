-- No line is longer than `longest`.
use mathlib.Core.List.{[], ◌∷◌}
use Prim.Native.Nat.{ℕ, ◌^◌, ◌<◌, ◌≤◌}
use native.Mathlib.Omega.{arith}
use lib.ListN.{length, length-append}
use Rattle.output.specs.Text.{decimal, ended, line, done, refused}
use Rattle.output.specs.Outcomes.{longest}
use Rattle.output.proofs.Decimal.{length-decimal}

length-ended : (end n : ℕ) → n < 2 ^ 64 → length (ended end n) ≤ 21
unfolding ended
length-ended end n h = omega (arith, length-append (decimal n) (end ∷ []), length-decimal n h)

pub length-line : (t i c z w : ℕ) → t < 2 ^ 64 → i < 2 ^ 64 → c < 2 ^ 64 → z < 2 ^ 64 → w < 2 ^ 64 → length (line t i c z w) ≤ longest
unfolding line
length-line t i c z w ht hi hc hz hw =
    simp length-append (omega (arith, length-ended 32 t ht, length-ended 32 i hi, length-ended 32 c hc, length-ended 32 z hz, length-ended 10 w hw))

pub length-done : (n : ℕ) → n < 2 ^ 64 → length (done n) ≤ longest
unfolding done
length-done n h = omega (arith, length-ended 10 n h)

pub length-refused : (n : ℕ) → n < 2 ^ 64 → length (refused n) ≤ longest
unfolding refused
length-refused n h = omega (arith, length-ended 10 n h)
