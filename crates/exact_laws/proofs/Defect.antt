-- The defect of a row of the sweep. The channel figure c that the passes leave, not yet cut at the highest concentration, and the storage
-- and sediment figures that it gives solve the three equations of their segment, storage and sediment not eliminated, each up to 6 × S.
use mathlib.Core.Path.{◌≡◌}
use Prim.Native.Nat.{ℕ, ◌+◌, ◌-◌, ◌*◌, ◌<◌, ◌≤◌}
use native.Mathlib.Nat.{le_of_mul-le-mul_left, mul-le-mul_right}
use native.Mathlib.Omega.{arith}
use Rattle.fractions.proofs.Differences.{Difference, natural, ◌⊞◌, ◌⊟◌, ◌⊡◌, UpTo, up-to-weaker}
use Rattle.fractions.proofs.Over.{times}
use Rattle.rounding.specs.Nearest.{S}
use Rattle.rounding.proofs.Laws.{Rounds, rounds, by}
use Rattle.model.specs.HalfStep.{Numbers}
use Rattle.model.specs.Equations.{Figures, Pair, sum_t, sum_v, channel_right, storage_right, sediment_right}
use Rattle.model.specs.Sweep.{P, N, F, R, row_of, new_storage, new_sediment, new_figures}
use Rattle.sweep_laws.specs.Accepted.{Sums}
use Rattle.sweep_laws.proofs.Accepted.{storage-quotient, sediment-quotient}
use Rattle.sweep_laws.proofs.Solves.{Solves}
use Rattle.exact_laws.specs.Close.{defect}
use Rattle.exact_laws.proofs.Sides.{Differences, EachUpTo, left, right}

-- What the channel gives to a store: the quotient q of F and the store's P against the store's new figure z. r is the store's right
-- side, t its divisor, b the part of t that comes from the channel.
module _ (t b o a r c q P z : ℕ) (split : t ≡ b + o) (pos : 0 < t) (hq : Rounds (a * o) t q) (hP : Rounds r t P)
    (hz : Rounds (r + b * c) t z) where
  -- 2(ac + aP) = 2(qc + az), up to c + 2a either way
  exchange-high : 2 * (a * c + a * P) ≤ 2 * (q * c + a * z) + c + 2 * a
  exchange-high = le_of_mul-le-mul_left (omega (arith, by c hq, by a hP, by a hz, times (a * c) split)) pos

  exchange-low : 2 * (q * c + a * z) ≤ 2 * (a * c + a * P) + c + 2 * a
  exchange-low = le_of_mul-le-mul_left (omega (arith, by c hq, by a hP, by a hz, times (a * c) split)) pos

-- The channel's equation: c with xa above and xb below, and the stores' figures z and w. The quotients of F are q₁ and q₂, r is the
-- channel's right side.
module _ (n : Numbers) (xa c xb z w P N q₁ q₂ r : ℕ) (sums : Sums n) (most : c ≤ S) (hq₁ : q₁ ≤ n.a) (hq₂ : q₂ ≤ n.s) where
  -- (S+T)c = e·xa + g·xb + az + sw + r, up to the defect either way
  channel-high : let f = S + n.e + n.g + n.l + n.k + q₁ + q₂ in
      2 * (f * c) ≤ 2 * (r + n.a * P + n.s * N) + 2 * (n.e * xa) + 2 * (n.g * xb) + (3 * f + c + n.e) →
      2 * (n.a * c + n.a * P) ≤ 2 * (q₁ * c + n.a * z) + c + 2 * n.a →
      2 * (n.s * c + n.s * N) ≤ 2 * (q₂ * c + n.s * w) + c + 2 * n.s →
      (S + sum_t n) * c ≤ n.e * xa + n.g * xb + n.a * z + n.s * w + r + defect
  channel-high row storage sediment = omega (arith, sums.t)

  channel-low : let f = S + n.e + n.g + n.l + n.k + q₁ + q₂ in
      2 * (r + n.a * P + n.s * N) + 2 * (n.e * xa) + 2 * (n.g * xb) ≤ 2 * (f * c) + (3 * f + c + n.e) →
      2 * (q₁ * c + n.a * z) ≤ 2 * (n.a * c + n.a * P) + c + 2 * n.a →
      2 * (q₂ * c + n.s * w) ≤ 2 * (n.s * c + n.s * N) + c + 2 * n.s →
      n.e * xa + n.g * xb + n.a * z + n.s * w + r ≤ (S + sum_t n) * c + defect
  channel-low row storage sediment = omega (arith, sums.t)

-- ---- over a common denominator

-- the figures of a segment times D
abbrev pub wholes : (D : ℕ) → Figures → Differences
wholes D f = record { c = natural (f.c * D); z = natural (f.z * D); w = natural (f.w * D) }

-- the three right sides of a segment
abbrev pub rights : Pair → (above below : ℕ) → Figures → Figures
rights x above below f = record { c = channel_right x above below f; z = storage_right x f; w = sediment_right x f }

module _ (D t e g a s xa c xb z w r k : ℕ) where
  abbrev side : Difference
  side = t ⊡ natural (c * D) ⊟ e ⊡ natural (xa * D) ⊟ g ⊡ natural (xb * D) ⊟ a ⊡ natural (z * D) ⊟ s ⊡ natural (w * D)

  -- the channel's equation times D
  channel-over : t * c ≤ e * xa + g * xb + a * z + s * w + r + k → e * xa + g * xb + a * z + s * w + r ≤ t * c + k →
      (UpTo (k * D) side (natural (r * D))) × (UpTo (k * D) (natural (r * D)) side)
  channel-over high low = (record { most = omega (arith, mul-le-mul_right D high) }, record { most = omega (arith, mul-le-mul_right D low) })

-- a store's equation, with its new figure z rounded once: up to S, since its divisor t is at most 2 × S
store-over : (D t b c z r : ℕ) → t ≤ 2 * S → Rounds (r + b * c) t z →
    let side = t ⊡ natural (z * D) ⊟ b ⊡ natural (c * D) in (UpTo (S * D) side (natural (r * D))) × (UpTo (S * D) (natural (r * D)) side)
store-over D t b c z r small hz =
    let high : t * z ≤ r + b * c + S = omega (arith, hz) in
    let low : r + b * c ≤ t * z + S = omega (arith, hz) in
    (record { most = omega (arith, mul-le-mul_right D high) }, record { most = omega (arith, mul-le-mul_right D low) })

module _ (D : ℕ) (x : Pair) (f : Figures) (sums : Sums x.new) where
  -- storage and sediment, for any channel figure c
  pub storage-over : (c : ℕ) →
      let side = (S + sum_v x.new) ⊡ natural ((new_figures x f c).z * D) ⊟ x.new.b ⊡ natural (c * D) in
      (UpTo (S * D) side (natural (storage_right x f * D))) × (UpTo (S * D) (natural (storage_right x f * D)) side)
  unfolding new_figures new_storage
  storage-over c = store-over D (S + sum_v x.new) x.new.b c _ (storage_right x f) (omega (arith, sums.v)) (rounds _ _ (omega arith))

  pub sediment-over : (c : ℕ) →
      let side = (S + x.new.h) ⊡ natural ((new_figures x f c).w * D) ⊟ x.new.h ⊡ natural (c * D) in
      (UpTo (S * D) side (natural (sediment_right x f * D))) × (UpTo (S * D) (natural (sediment_right x f * D)) side)
  unfolding new_figures new_sediment
  sediment-over c = store-over D (S + x.new.h) x.new.h c _ (sediment_right x f) (omega (arith, sums.h)) (rounds _ _ (omega arith))

  -- all three, for what the passes leave
  pub row-over : (above below xa c xb : ℕ) → Solves (row_of x above below f) xa c xb →
      let l = left x.new (natural (xa * D)) (natural (xb * D)) (wholes D (new_figures x f c)) in
      let r = wholes D (rights x above below f) in
      (EachUpTo (defect * D) l r) × (EachUpTo (defect * D) r l)
  unfolding row_of R P N new_figures new_storage new_sediment F
  row-over above below xa c xb row =
      let n = x.new in
      let r = channel_right x above below f in
      let v : 0 < S + sum_v n = omega arith in
      let h : 0 < S + n.h = omega arith in
      let q₁ = rounds (n.a * (S + n.ks + n.m)) (S + sum_v n) v in
      let q₂ = rounds (n.s * S) (S + n.h) h in
      let P = rounds (storage_right x f) (S + sum_v n) v in
      let N = rounds (sediment_right x f) (S + n.h) h in
      let z = rounds (storage_right x f + n.b * c) (S + sum_v n) v in
      let w = rounds (sediment_right x f + n.h * c) (S + n.h) h in
      let channel = channel-over D (S + sum_t n) n.e n.g n.a n.s xa c xb _ _ r defect
      (channel-high n xa c xb _ _ _ _ _ _ r sums row.most (storage-quotient n) (sediment-quotient n) row.high
      (exchange-high _ n.b (S + n.ks + n.m) n.a _ c _ _ _ (omega arith) v q₁ P z)
      (exchange-high _ n.h S n.s _ c _ _ _ (omega arith) h q₂ N w))
      (channel-low n xa c xb _ _ _ _ _ _ r sums row.most (storage-quotient n) (sediment-quotient n) row.low
      (exchange-low _ n.b (S + n.ks + n.m) n.a _ c _ _ _ (omega arith) v q₁ P z)
      (exchange-low _ n.h S n.s _ c _ _ _ (omega arith) h q₂ N w)) in
      let storage = storage-over c in
      let sediment = sediment-over c in (
        record { c = channel.0; z = up-to-weaker storage.0 (omega arith); w = up-to-weaker sediment.0 (omega arith) },
        record { c = channel.1; z = up-to-weaker storage.1 (omega arith); w = up-to-weaker sediment.1 (omega arith) },
      )

-- ---- the right sides of figures times D are D times the right sides, either way

module _ (D r e g a s m A B c z w k : ℕ) where
  abbrev sum : Difference
  sum = r ⊡ natural (c * D) ⊞ e ⊡ natural (A * D) ⊞ g ⊡ natural (B * D) ⊞ a ⊡ natural (z * D) ⊞ s ⊡ natural (w * D) ⊞ natural (m * k * D)

  channel-wholes : let R = (r * c + e * A + g * B + a * z + s * w + m * k) * D in (UpTo 0 (natural R) sum) × (UpTo 0 sum (natural R))
  channel-wholes = (record { most = omega arith }, record { most = omega arith })

module _ (D : ℕ) (x : Pair) (above below : ℕ) (f : Figures) where
  pub rights-over : let r = wholes D (rights x above below f) in
      let R = right D x (natural (above * D)) (natural (below * D)) (wholes D f) in
      (EachUpTo 0 r R) × (EachUpTo 0 R r)
  rights-over =
      let n = x.old in
      let c = channel-wholes D (S - sum_t n) n.e n.g n.a n.s (n.l + x.new.l) above below f.c f.z f.w x.cl in
      (record { c = c.0; z = omega arith; w = omega arith }, record { c = c.1; z = omega arith; w = omega arith })
