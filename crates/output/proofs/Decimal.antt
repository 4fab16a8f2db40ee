-- `decimal` is what `io::decimal` puts: the fewest digits that hold a number.
use mathlib.Core.Path.{◌≡◌, refl, ap, ◌∙◌}
use Prim.Native.Nat.{ℕ, zero, suc, ◌/◌, ◌^◌, ◌<◌, ◌≤◌}
use native.Mathlib.Nat.{pow-succ', pow-le-pow_right, lt_of_not-le}
use native.Mathlib.Numerals.{unary_clauses}
use native.Mathlib.Omega.{arith}
use borrow.Author.Tests.{ltb-true, ltb-false}
use lib.Dec.{ltb}
use lib.ListN.{length, length-append}
use Rattle.io.specs.Digits.{last_digits, IsDigitCount}
use Rattle.lists.proofs.Lowest.{Lowest, lowest-is}
use Rattle.lists.specs.Lists.{lowest}
use Rattle.output.specs.Text.{places, decimal}

below-pow : (k : ℕ) → k < 10 ^ k
below-pow zero = omega arith
below-pow (suc k) = omega (arith, pow-succ' 10 k, below-pow k)

fewest-places : (n k : ℕ) → IsDigitCount 10 1 n k → k ≡ places n
unfolding places
fewest-places n zero f = absurd (omega (arith, f.0))
fewest-places n (suc k) f =
    ap suc (cases (lowest n (λ i. ltb n (10 ^ suc i))) (lowest-is _ n))
  where
    cases : (low : ℕ) → Lowest (λ i. ltb n (10 ^ suc i)) 0 n low → k ≡ low
    cases low r =
        let not-above : low < suc k = lt_of_not-le (λ h. omega (arith, f.1, ltb-false n (10 ^ suc k) (r.none k (omega arith) h))) in
        let not-below : k < suc low =
        lt_of_not-le
        (λ h.
        let most : 10 ^ k ≤ n = simp unary_clauses at (f.2 (omega arith)) in
        omega
        (arith, most, ltb-true n (10 ^ suc low) (r.at_fault (omega (arith, most, below-pow k))), pow-le-pow_right {n = 10} (omega arith) h)) in
        omega arith

pub fewest-decimal : (n k : ℕ) → IsDigitCount 10 1 n k → last_digits 10 k n ≡ decimal n
unfolding decimal
fewest-decimal n k f = ap (λ i. last_digits 10 i n) (fewest-places n k f)

length_digits : (b k n : ℕ) → length (last_digits b k n) ≡ k
length_digits b zero n = refl
length_digits b (suc k) n = length-append (last_digits b k (n / b)) _ ∙ omega (arith, length_digits b k (n / b))

pub length-decimal : (n : ℕ) → n < 2 ^ 64 → length (decimal n) ≤ 20
unfolding decimal places
length-decimal n h =
    let low = lowest-is (λ k. ltb n (10 ^ suc k)) n in
    let few : lowest n (λ k. ltb n (10 ^ suc k)) < 20 =
    lt_of_not-le (λ l. omega (arith, h, ltb-false n (10 ^ 20) (low.none 19 (omega arith) l))) in
    omega (arith, few, length_digits 10 (places n) n)
