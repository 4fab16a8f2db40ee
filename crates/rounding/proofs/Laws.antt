-- What the other crates know of `nearest` and `floor_div`. Beside this file only the proof of `rounded` unfolds `nearest`, and, at
-- literals, model/proofs/Bench and Clamp.
use mathlib.Core.Path.{◌≡◌, refl}
use Prim.Native.Nat.{ℕ, zero, suc, ◌+◌, ◌-◌, ◌*◌, ◌/◌, ◌^◌, ◌<◌, ◌≤◌}
use native.Mathlib.Nat.{mul-le-mul_left, lt_of_mul-lt-mul_left, mul-div-le, lt-mul-div-succ, le-div_iff_mul-le, div-eq_of_lt-le}
use native.Mathlib.Omega.{arith}
use borrow.Author.Tests.{lt-ltb}
use lib.Dec.{le→leb, lt→ltb}
use lib.IntN.{ℤ, pos, negsuc, neg_ℤ, ◌+ℤ◌, ◌*ℤ◌}
use lib.Signed.{◌≤ℤ◌, ◌<ℤ◌, le_z_yes, lt_z_yes}
use Rattle.rounding.specs.Nearest.{nearest, parts}
use Rattle.rounding.specs.Floor.{floor_div}

-- T2: the fraction 1/2^31 is half a part, and goes up
pub half-a-part : parts 1 (2 ^ 31) ≡ 1
unfolding nearest
half-a-part = refl

-- a half goes up
pub half_up : (q : ℕ) → nearest (2 * q + 1) 2 ≡ suc q
unfolding nearest
half_up q = div-eq_of_lt-le 4 (omega arith) (omega arith)

-- q is n / d to the nearest: at most half a unit too high (N1), at most half a unit too low (N2)
pub record Rounds (n d q : ℕ) : Type 0 where
  pub low : 2 * (d * q) ≤ 2 * n + d
  pub high : 2 * n + d ≤ 2 * (d * q) + 2 * d

-- `nearest` is to the nearest
pub rounds : (n d : ℕ) → 0 < d → Rounds n d (nearest n d)
unfolding nearest
rounds n d h =
    record {
      low = omega (arith, mul-div-le (2 * n + d) (2 * d));
      high = omega (arith, lt-mul-div-succ (2 * n + d) {b = 2 * d} (omega arith));
    }

-- N1 and N2, k times
pub by : {n d q : ℕ} (k : ℕ) → Rounds n d q → (k * (2 * (d * q)) ≤ k * (2 * n + d)) × (k * (2 * n + d) ≤ k * (2 * (d * q) + 2 * d))
by k r = (mul-le-mul_left k r.low, mul-le-mul_left k r.high)

-- N3: a whole bound from above survives with no loss
pub nearest-le : (n d q : ℕ) → 0 < d → n ≤ d * q → nearest n d ≤ q
nearest-le n d q h k =
    let l : nearest n d < suc q = lt_of_mul-lt-mul_left d (omega (arith, rounds n d h)) in
    omega arith

-- a whole bound from below survives too
pub nearest-ge : (n d q : ℕ) → 0 < d → d * q ≤ n → q ≤ nearest n d
nearest-ge n d q h k =
    let l : q < suc (nearest n d) = lt_of_mul-lt-mul_left d (omega (arith, rounds n d h)) in
    omega arith

-- a whole quotient is left as it is
pub nearest-whole : (d q : ℕ) → 0 < d → nearest (d * q) d ≡ q
nearest-whole d q h = omega (arith, nearest-le (d * q) d q h (omega arith), nearest-ge (d * q) d q h (omega arith))

-- nothing divided is nothing, also where it is divided by 0
pub nearest-none : (d : ℕ) → nearest 0 d ≡ 0
unfolding nearest
nearest-none zero = refl
nearest-none (suc d) = omega (arith, nearest-le 0 (suc d) 0 (omega arith) (omega arith))

-- monotony: what is larger rounds to no less
pub nearest-mono : (m n d : ℕ) → 0 < d → m ≤ n → nearest m d ≤ nearest n d
unfolding nearest
nearest-mono m n d h k =
    (le-div_iff_mul-le {k = 2 * d} (omega arith)).1 (omega (arith, mul-div-le (2 * m + d) (2 * d)))

-- −k ≤ −(n + 1) where n < k
neg-le : (k n : ℕ) → n < k → neg_ℤ (pos k) ≤ℤ negsuc n
neg-le zero n h = absurd (omega arith)
neg-le (suc k) n h = le_z_yes (le→leb n k (omega arith))

-- −(n + 1) < −k where k ≤ n
neg-lt : (k n : ℕ) → k ≤ n → negsuc n <ℤ neg_ℤ (pos k)
neg-lt zero n h = lt_z_yes tt
neg-lt (suc k) n h = lt_z_yes (lt→ltb k n (omega arith))

-- `neg-lt` at k = d · q, with −q as the sum of −(q + 1) and 1
next-lt : (n d q : ℕ) → d * q ≤ n → negsuc n <ℤ (pos d *ℤ (negsuc q +ℤ pos 1))
next-lt n d zero h = lt_z_yes tt
next-lt n d (suc q) h =
    let e : suc (suc q) - 2 ≡ q = omega arith in
    rw (lt-ltb 1 (suc (suc q)) (omega arith), e) (neg-lt (d * suc q) n h)

-- rounded down: d · q ≤ x for q = x / d
pub floor-le : (x : ℤ) (d : ℕ) → 0 < d → (pos d *ℤ floor_div x d) ≤ℤ x
unfolding floor_div
floor-le (pos n) d h = le_z_yes (le→leb (d * (n / d)) n (mul-div-le n d))
floor-le (negsuc n) d h = neg-le (d * suc (n / d)) n (omega (arith, lt-mul-div-succ n h))

-- rounded down by less than one: x < d · (q + 1) for q = x / d
pub floor-lt : (x : ℤ) (d : ℕ) → 0 < d → x <ℤ (pos d *ℤ (floor_div x d +ℤ pos 1))
unfolding floor_div
floor-lt (pos n) d h = lt_z_yes (lt→ltb n (d * (n / d + 1)) (lt-mul-div-succ n h))
floor-lt (negsuc n) d h = next-lt n d (n / d) (mul-div-le n d)
