-- The three equations of all segments solved in natural numbers, from the last segment up and with no division: the unknowns come out
-- over a common denominator. For the rest of a river from one segment down there are P, α and β such that under any figure X/Q its
-- first channel figure is (αX + βQ)/(QP); α is at most P, so that the segment on top can be solved in its turn.
use mathlib.Core.Path.{◌≡◌, refl, sym, ap, ◌∙◌}
use mathlib.Core.List.{List, [], ◌∷◌}
use Prim.Native.Nat.{ℕ, ◌+◌, ◌-◌, ◌*◌, ◌<◌, ◌≤◌}
use native.Mathlib.Nat.{mul-le-mul_left, mul-le-mul_right, mul-pos, mul-add, add-mul, mul_assoc, mul_comm, mul_left_comm, add_assoc, add_comm, add_left_comm}
use native.Mathlib.Omega.{arith}
use Rattle.fractions.proofs.Differences.{Difference}
use Rattle.fractions.proofs.Over.{times}
use Rattle.rounding.specs.Nearest.{S}
use Rattle.model.specs.HalfStep.{Numbers}
use Rattle.model.specs.Equations.{Figures, sum_t, sum_v}
use Rattle.model.specs.Sweep.{below}
use Rattle.exact_laws.proofs.Sides.{Differences}

-- what is given of a segment: its numbers and its three right sides
pub record Given : Type 0 where
  pub numbers : Numbers
  pub right : Differences

-- the three equations of a segment, for one part of the right sides, plus or minus, times q
pub record Solved (part : Difference → ℕ) (q : ℕ) (x : Given) (above below : ℕ) (f : Figures) : Type 0 where
  pub channel : let n = x.numbers in
      (S + sum_t n) * f.c ≡ n.e * above + n.g * below + n.a * f.z + n.s * f.w + q * part x.right.c
  pub storage : let n = x.numbers in (S + sum_v n) * f.z ≡ n.b * f.c + q * part x.right.z
  pub sediment : let n = x.numbers in (S + n.h) * f.w ≡ n.h * f.c + q * part x.right.w

-- of all segments
pub data AllSolved (part : Difference → ℕ) (q : ℕ) : (above : ℕ) → List Given → List Figures → Type 0 where
  last : {above : ℕ} → AllSolved part q above [] []
  next : {above : ℕ} {x : Given} {xs : List Given} {f : Figures} {fs : List Figures} → Solved part q x above (below fs) f →
      AllSolved part q f.c xs fs → AllSolved part q above (x ∷ xs) (f ∷ fs)

-- the rest of a river, solved under the figure X/Q
abbrev Found : (part : Difference → ℕ) → (P α β X Q : ℕ) → List Given → Type 0
Found part P α β X Q xs = (fs : List Figures) × (AllSolved part (Q * P) (X * P) xs fs) × (below fs ≡ α * X + β * Q)

-- under any figure
pub record Rest (xs : List Given) : Type 0 where
  pub P : ℕ
  pub α : ℕ
  pub β : (Difference → ℕ) → ℕ
  pub above : 0 < P
  pub most : α ≤ P
  pub solve : (part : Difference → ℕ) (X Q : ℕ) → Found part P α (β part) X Q xs

ruleset ring = (mul-add, add-mul, mul_assoc, mul_comm, mul_left_comm, add_assoc, add_comm, add_left_comm)

-- ---- one segment on top: v is S+V, u is S+h, t is S+T and G is v × u

-- what is left of tG once storage and sediment are eliminated
left_over : (t₀ a s v u b c h : ℕ) → v ≡ b + c → u ≡ h + S →
    (t₀ + a + s) * (v * u) ≡ v * u * t₀ + a * c * u + s * S * v + (a * b * u + s * h * v)
left_over t₀ a s v u b c h hv hu = omega (arith, times (a * u) hv, times (s * v) hu)

-- the two sides of the channel's equation, multiplied out
channel-left : (t G A P d o p Y : ℕ) → t * G ≡ A + o → A * P ≡ d + p → t * (Y * P * G) ≡ Y * d + p * Y + o * (Y * P)
channel-left t G A P d o p Y hA hd = omega (arith, times (Y * P) hA, times Y hd)

channel-right : (v u G e g a s b h P α β d rc rz rw X Q Y : ℕ) →
    (G * e * P * X + (G * rc + a * u * rz + s * v * rw) * P * Q + G * g * β * Q) * d + G * g * α * Y
    + (a * b * u + s * h * v) * (Y * P)
    ≡ e * (X * (d * P * G)) + g * (α * (Y * G) + β * (Q * d * G)) + a * ((b * Y + rz * (Q * d)) * P * u)
    + s * ((h * Y + rw * (Q * d)) * P * v) + Q * (d * P * G) * rc
channel-right v u G e g a s b h P α β d rc rz rw X Q Y = simp ring

module _ (x : Given) (v u G A P α d : ℕ) (hv : v ≡ S + sum_v x.numbers) (hu : u ≡ S + x.numbers.h) (hG : G ≡ v * u)
    (hA : (S + sum_t x.numbers) * G ≡ A + (x.numbers.a * x.numbers.b * u + x.numbers.s * x.numbers.h * v))
    (hd : A * P ≡ d + G * x.numbers.g * α) where
  -- the right side with storage and sediment eliminated
  abbrev R : (Difference → ℕ) → ℕ
  R part = G * part x.right.c + x.numbers.a * u * part x.right.z + x.numbers.s * v * part x.right.w

  -- the segment's channel figure is Y × P × G
  abbrev Y : (Difference → ℕ) → (β X Q : ℕ) → ℕ
  Y part β X Q = G * x.numbers.e * P * X + R part * P * Q + G * x.numbers.g * β * Q

  -- the segment's three figures
  abbrev figures : (Difference → ℕ) → (β X Q : ℕ) → Figures
  figures part β X Q = record {
    c = Y part β X Q * P * G;
    z = (x.numbers.b * Y part β X Q + part x.right.z * (Q * d)) * P * u;
    w = (x.numbers.h * Y part β X Q + part x.right.w * (Q * d)) * P * v;
  }

  -- they solve its equations over dPG
  figures-solve : (part : Difference → ℕ) (β X Q below : ℕ) → below ≡ α * (Y part β X Q * G) + β * (Q * d * G) →
      Solved part (Q * (d * P * G)) x (X * (d * P * G)) below (figures part β X Q)
  figures-solve part β X Q below e =
      let n = x.numbers in
      let y = Y part β X Q in
      let f = figures part β X Q in
      record {
        channel = channel-left (S + sum_t n) G A P d _ (G * n.g * α) y hA hd
            ∙ channel-right v u G n.e n.g n.a n.s n.b n.h P α β d (part x.right.c) (part x.right.z) _ X Q y
            ∙ ap (λ (b : ℕ). n.e * (X * (d * P * G)) + n.g * b + n.a * f.z + n.s * f.w + Q * (d * P * G) * part x.right.c) (sym e);
        storage = rw (← hv) (store n.b (part x.right.z) y v u hG);
        sediment = rw (← hu) (store n.h (part x.right.w) y u v (hG ∙ mul_comm v u));
      }
    where
      store : (b r y v u : ℕ) → G ≡ v * u → v * ((b * y + r * (Q * d)) * P * u) ≡ b * (y * P * G) + Q * (d * P * G) * r
      store b r y v u h = rw h (simp ring)

  -- the rest of the river with the segment on top of it
  on-top : {xs : List Given} (β : (Difference → ℕ) → ℕ) → 0 < G → 0 < P → 0 < d → G * x.numbers.e * P ≤ d →
      ((part : Difference → ℕ) (X Q : ℕ) → Found part P α (β part) X Q xs) → Rest (x ∷ xs)
  on-top {xs} β g p d' le solve = record {
    P = d * P * G;
    α = G * x.numbers.e * P * (P * G);
    β = λ part. (R part * P + G * x.numbers.g * β part) * (P * G);
    above = mul-pos (mul-pos d' p) g;
    most = scaled (G * x.numbers.e * P) le;
    solve = λ part X Q. go part X Q (solve part (Y part (β part) X Q * G) (Q * d * G));
  }
    where
      scaled : (a : ℕ) → a ≤ d → a * (P * G) ≤ d * P * G
      scaled a h = omega (arith, mul-le-mul_right (P * G) h)

      same-Q : (Q : ℕ) → Q * d * G * P ≡ Q * (d * P * G)
      same-Q Q = omega arith

      same-Y : (y : ℕ) → y * G * P ≡ y * P * G
      same-Y y = omega arith

      first : (X Q a b c : ℕ) → (a * X + b * Q + c * Q) * P * G ≡ a * (P * G) * X + (b + c) * (P * G) * Q
      first X Q a b c = omega arith

      go : (part : Difference → ℕ) (X Q : ℕ) → Found part P α (β part) (Y part (β part) X Q * G) (Q * d * G) xs →
          Found part (d * P * G) (G * x.numbers.e * P * (P * G)) ((R part * P + G * x.numbers.g * β part) * (P * G)) X Q (x ∷ xs)
      go part X Q (fs, solved, e) = (
        figures part (β part) X Q ∷ fs,
        next (figures-solve part (β part) X Q (below fs) e) (rw (same-Q Q, same-Y (Y part (β part) X Q)) at solved),
        first X Q (G * x.numbers.e * P) (R part * P) (G * x.numbers.g * β part),
      )

-- what is left of a segment's own figure is more than what the one below takes: G(S+e+g) ≤ A and α ≤ P
pivot : (G A o base e g α P : ℕ) → A ≡ G * base + o → S + e + g ≤ base → α ≤ P → 0 < P → 0 < G → G * e * P + G * g * α < A * P
pivot G A o base e g α P hA wide most p g' =
    omega (arith, times P hA, mul-le-mul_left (G * P) wide, mul-le-mul_left (G * g) most, mul-pos g' p)

-- every segment can be put on top
add : (x : Given) {xs : List Given} → Rest xs → Rest (x ∷ xs)
add x rest =
    let n = x.numbers in
    let v = S + sum_v n in
    let u = S + n.h in
    let base = S + n.e + n.g + n.l + n.k in
    let o = n.a * (S + n.ks + n.m) * u + n.s * S * v in
    let A = v * u * base + n.a * (S + n.ks + n.m) * u + n.s * S * v in
    let g : 0 < v * u = mul-pos {m = v} {n = u} (omega arith) (omega arith) in
    let less = pivot (v * u) A o base n.e n.g rest.α rest.P (assoc _ _ _) (omega arith) rest.most rest.above g in
    on-top x v u (v * u) A rest.P rest.α (A * rest.P - v * u * n.g * rest.α) refl refl refl
    (ap (λ (t : ℕ). t * (v * u)) (sum n) ∙ left_over base n.a n.s v u n.b (S + n.ks + n.m) n.h (omega arith) (omega arith))
    (difference (A * rest.P) _ _ less) rest.β g rest.above (positive (A * rest.P) _ _ less) (low (A * rest.P) _ _ less) rest.solve
  where
    assoc : (a b c : ℕ) → a + b + c ≡ a + (b + c)
    assoc a b c = omega arith

    sum : (n : Numbers) → S + sum_t n ≡ S + n.e + n.g + n.l + n.k + n.a + n.s
    sum n = omega arith

    difference : (y a b : ℕ) → a + b < y → y ≡ y - b + b
    difference y a b h = omega arith

    low : (y a b : ℕ) → a + b < y → a ≤ y - b
    low y a b h = omega arith

    positive : (y a b : ℕ) → a + b < y → 0 < y - b
    positive y a b h = omega arith

-- every river can be solved so
pub rest : (xs : List Given) → Rest xs
rest [] = record { P = 1; α = 0; β = λ part. 0; above = omega arith; most = omega arith; solve = λ part X Q. ([], last, zero X Q) }
  where
    zero : (X Q : ℕ) → 0 ≡ 0 * X + 0 * Q
    zero X Q = omega arith
rest (x ∷ xs) = add x (rest xs)
