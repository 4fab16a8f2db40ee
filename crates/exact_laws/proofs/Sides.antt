-- The two sides of a segment's three equations, for figures that are differences over a common denominator D, and their order.
use mathlib.Core.List.{List, [], ◌∷◌}
use Prim.Native.Nat.{ℕ, ◌+◌, ◌-◌, ◌*◌, ◌≤◌}
use native.Mathlib.Nat.{mul-le-mul_right}
use native.Mathlib.Omega.{arith}
use Rattle.fractions.proofs.Differences.{Difference, natural, ◌⊞◌, ◌⊟◌, ◌⊡◌, UpTo, up-to-self, up-to-trans, up-to-weaker, up_to_sum, up-to-multiple}
use Rattle.rounding.specs.Nearest.{S}
use Rattle.model.specs.HalfStep.{Numbers}
use Rattle.model.specs.Equations.{Pair, sum_t, sum_v}
use Rattle.sweep_laws.specs.Accepted.{Sums}

-- channel, storage and sediment; also the three left sides, and the three right sides
pub record Differences : Type 0 where
  pub c : Difference
  pub z : Difference
  pub w : Difference

-- each of the three is at most the other's, up to k
pub record EachUpTo (k : ℕ) (f g : Differences) : Type 0 where
  pub c : UpTo k f.c g.c
  pub z : UpTo k f.z g.z
  pub w : UpTo k f.w g.w

-- in every segment
pub data AllUpTo (k : ℕ) : List Differences → List Differences → Type 0 where
  none : AllUpTo k [] []
  cons : {f g : Differences} {fs gs : List Differences} → EachUpTo k f g → AllUpTo k fs gs → AllUpTo k (f ∷ fs) (g ∷ gs)

-- the channel figure of the segment below, 0 below the last
abbrev pub below : List Differences → Difference
below [] = natural 0
below (f ∷ fs) = f.c

-- the figures below are in the same order
pub below-up-to : {k : ℕ} {fs gs : List Differences} → AllUpTo k fs gs → UpTo k (below fs) (below gs)
below-up-to none = omega arith
below-up-to (cons x xs) = x.c

-- up to j and then up to k, which is no more than l
pub each-trans : {j k : ℕ} (l : ℕ) {f g h : Differences} → EachUpTo j f g → EachUpTo k g h → j + k ≤ l → EachUpTo l f h
each-trans l x y m = record {
  c = up-to-trans l x.c y.c m;
  z = up-to-trans l x.z y.z m;
  w = up-to-trans l x.w y.w m;
}

-- (S+T)C − eCabove − gCbelow − aZ − sW, (S+V)Z − bC and (S+h)W − hC
abbrev pub left : Numbers → (above below : Difference) → Differences → Differences
left n above below f = record {
  c = (S + sum_t n) ⊡ f.c ⊟ n.e ⊡ above ⊟ n.g ⊡ below ⊟ n.a ⊡ f.z ⊟ n.s ⊡ f.w;
  z = (S + sum_v n) ⊡ f.z ⊟ n.b ⊡ f.c;
  w = (S + n.h) ⊡ f.w ⊟ n.h ⊡ f.c;
}

-- (S−T)C + eCabove + gCbelow + aZ + sW + (l+l')CL, (S−V)Z + bC + (m+m')CB and (S−h)W + hC
abbrev pub right : (D : ℕ) → Pair → (above below : Difference) → Differences → Differences
right D x above below f =
    let n = x.old in
    record {
      c = (S - sum_t n) ⊡ f.c ⊞ n.e ⊡ above ⊞ n.g ⊡ below ⊞ n.a ⊡ f.z ⊞ n.s ⊡ f.w ⊞ natural ((n.l + x.new.l) * x.cl * D);
      z = (S - sum_v n) ⊡ f.z ⊞ n.b ⊡ f.c ⊞ natural ((n.m + x.new.m) * x.cb * D);
      w = (S - n.h) ⊡ f.w ⊞ n.h ⊡ f.c;
    }

-- figures up to k give right sides up to S × k
pub record Steady (k : ℕ) (n : Numbers) : Type 0 where
  pub t : (S - sum_t n + n.e + n.g + n.a + n.s) * k ≤ S * k
  pub v : (S - sum_v n + n.b) * k ≤ S * k
  pub h : (S - n.h + n.h) * k ≤ S * k

-- since T, V and h are at most one whole
pub steady : (k : ℕ) {n : Numbers} → Sums n → Steady k n
steady k {n} sums = record {
  t = mul-le-mul_right k (omega (arith, sums.t));
  v = mul-le-mul_right k (omega (arith, sums.v));
  h = mul-le-mul_right k (omega (arith, sums.h));
}

-- or since k is 0
pub steady-zero : (n : Numbers) → Steady 0 n
steady-zero n = omega arith

-- the right sides of two rivers
pub right-up-to : (D : ℕ) (x : Pair) {k : ℕ} {above above* below below* : Difference} {f f* : Differences} → Steady k x.old →
    UpTo k above above* → UpTo k below below* → EachUpTo k f f* → EachUpTo (S * k) (right D x above below f) (right D x above* below* f*)
right-up-to D x s a b f = record {
  c = up-to-weaker
      (up_to_sum (up_to_sum (up_to_sum (up_to_sum (up_to_sum
      (up-to-multiple _ f.c) (up-to-multiple _ a)) (up-to-multiple _ b)) (up-to-multiple _ f.z)) (up-to-multiple _ f.w)) (up-to-self 0 _))
      (omega (arith, s.t));
  z = up-to-weaker (up_to_sum (up_to_sum (up-to-multiple _ f.z) (up-to-multiple _ f.c)) (up-to-self 0 _)) (omega (arith, s.v));
  w = up-to-weaker (up_to_sum (up-to-multiple _ f.w) (up-to-multiple _ f.c)) (omega (arith, s.h));
}
