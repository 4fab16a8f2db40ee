-- Differences of natural numbers, and their order: what a figure comes to over a common denominator. Sums, differences and multiples
-- compute, so that every law of them is one of natural numbers.
use Prim.Native.Nat.{ℕ, ◌+◌, ◌*◌, ◌≤◌}
use native.Mathlib.Nat.{mul-le-mul_left}
use native.Mathlib.Omega.{arith}

-- plus − minus
pub record Difference : Type 0 where
  pub plus : ℕ
  pub minus : ℕ

-- a natural number
abbrev pub natural : ℕ → Difference
natural n = record { plus = n; minus = 0 }

infixl 6 ◌⊞◌ ◌⊟◌
infixl 7 ◌⊡◌
-- d + e
abbrev pub ◌⊞◌ : Difference → Difference → Difference
d ⊞ e = record { plus = d.plus + e.plus; minus = d.minus + e.minus }

-- d − e
abbrev pub ◌⊟◌ : Difference → Difference → Difference
d ⊟ e = record { plus = d.plus + e.minus; minus = d.minus + e.plus }

-- k times d
abbrev pub ◌⊡◌ : ℕ → Difference → Difference
k ⊡ d = record { plus = k * d.plus; minus = k * d.minus }

-- d is at most e, up to k: d ≤ e + k
pub record UpTo (k : ℕ) (d e : Difference) : Type 0 where
  pub most : d.plus + e.minus ≤ e.plus + d.minus + k

-- d is at most d
pub up-to-self : (k : ℕ) (d : Difference) → UpTo k d d
up-to-self k d = omega arith

-- up to j and then up to k, which is no more than l
pub up-to-trans : {j k : ℕ} (l : ℕ) {d e f : Difference} → UpTo j d e → UpTo k e f → j + k ≤ l → UpTo l d f
up-to-trans l x y h = omega arith

-- four in a row
pub up-to-chain : {i j k l : ℕ} (m : ℕ) {a b c d e : Difference} → UpTo i a b → UpTo j b c → UpTo k c d → UpTo l d e →
    i + j + k + l ≤ m → UpTo m a e
up-to-chain m x y z w h = omega arith

-- up to no less
pub up-to-weaker : {j k : ℕ} {d e : Difference} → UpTo j d e → j ≤ k → UpTo k d e
up-to-weaker x h = omega arith

-- sums and multiples
pub up_to_sum : {j k : ℕ} {d e d' e' : Difference} → UpTo j d e → UpTo k d' e' → UpTo (j + k) (d ⊞ d') (e ⊞ e')
up_to_sum x y = omega arith

pub up-to-multiple : {k : ℕ} {d e : Difference} (m : ℕ) → UpTo k d e → UpTo (m * k) (m ⊡ d) (m ⊡ e)
up-to-multiple m x = omega (arith, mul-le-mul_left m x.most)
