-- Numbers cut off one part above one whole decide test 12 as the exact ones do, and are the exact ones where it passes.
use mathlib.Core.Bool.{Bool, true, false, ◌||◌}
use mathlib.Core.Path.{◌≡◌, refl}
use Prim.Native.Nat.{ℕ, ◌+◌, ◌≤◌}
use native.Mathlib.Omega.{arith}
use borrow.Author.Tests.{lt-ltb, le-ltb, ltb-true, ltb-false}
use lib.Dec.{ltb}
use Rattle.rounding.specs.Nearest.{S}
use Rattle.model.specs.HalfStep.{Numbers}
use Rattle.model.specs.Equations.{sum_t, sum_v}
use Rattle.model.specs.Load.{sum_fault}
use Rattle.halfstep.specs.Site.{cut, StandFor}
use Rattle.lists.proofs.Shorter.{neither}

-- the same, or both above one whole
pub record Alike (x y : ℕ) : Type 0 where
  pub alike : cut x ≡ cut y

-- a number and what the code gives for it
pub alike-cut : {x y : ℕ} → x ≡ cut y → Alike x y
alike-cut e = record { alike = omega arith }

-- sums of such numbers
alike-sum : {x y z w : ℕ} → Alike x y → Alike z w → Alike (x + z) (y + w)
alike-sum a b = record { alike = omega arith }

-- up to one whole they are the same
alike_same : {x y : ℕ} → Alike x y → y ≤ S → x ≡ y
alike_same a h = omega arith

-- both exceed one whole, or neither does
alike-test : {x y : ℕ} → Alike x y → ltb S x ≡ ltb S y
alike-test {x} {y} a = test (ltb S y) refl
  where
    test : (t : Bool) → ltb S y ≡ t → ltb S x ≡ ltb S y
    test true e = rw (e, lt-ltb S x (omega (arith, ltb-true S y e)))
    test false e = rw (e, le-ltb S x (omega (arith, ltb-false S y e)))

-- a test whose last part finds a fault
or-true : (a : Bool) → a || true ≡ true
or-true true = refl
or-true false = refl

-- what test 12 leaves: T, V and h are at most one whole
pub record Sums (n : Numbers) : Type 0 where
  pub channel : sum_t n ≤ S
  pub storage : sum_v n ≤ S
  pub sediment : n.h ≤ S

pub sums : (n : Numbers) → sum_fault n ≡ false → Sums n
unfolding sum_fault
sums n e =
    let h = neither _ _ e in
    let v = neither _ _ h.0 in
    record { channel = ltb-false _ _ v.0; storage = ltb-false _ _ v.1; sediment = ltb-false _ _ h.1 }

-- the ten numbers as the code cuts them off; s only where h is at most one whole
pub record Cut (given exact : Numbers) : Type 0 where
  pub e : Alike given.e exact.e
  pub g : Alike given.g exact.g
  pub l : Alike given.l exact.l
  pub a : Alike given.a exact.a
  pub b : Alike given.b exact.b
  pub k : Alike given.k exact.k
  pub ks : Alike given.ks exact.ks
  pub h : Alike given.h exact.h
  pub m : Alike given.m exact.m
  pub s : exact.h ≤ S → Alike given.s exact.s

module _ {given exact : Numbers} (c : Cut given exact) where
  -- T, V, test 12, and the ten numbers where it passes
  cut-T : exact.h ≤ S → Alike (sum_t given) (sum_t exact)
  cut-T small = alike-sum (alike-sum (alike-sum (alike-sum (alike-sum c.e c.g) c.l) c.a) c.k) (c.s small)

  cut-V : Alike (sum_v given) (sum_v exact)
  cut-V = alike-sum (alike-sum c.b c.ks) c.m

  cut-fault : (t : Bool) → ltb S exact.h ≡ t → sum_fault given ≡ sum_fault exact
  unfolding sum_fault
  cut-fault true e = rw (alike-test c.h, e, or-true, or-true)
  cut-fault false e = rw (alike-test c.h, alike-test cut-V, alike-test (cut-T (ltb-false S exact.h e)))

  cut-same : Sums exact → given ≡ exact
  cut-same sums =
      λ i. record {
        e = alike_same c.e (omega arith) i;
        g = alike_same c.g (omega arith) i;
        l = alike_same c.l (omega arith) i;
        a = alike_same c.a (omega arith) i;
        b = alike_same c.b (omega arith) i;
        k = alike_same c.k (omega arith) i;
        ks = alike_same c.ks (omega arith) i;
        h = alike_same c.h (omega arith) i;
        m = alike_same c.m (omega arith) i;
        s = alike_same (c.s sums.sediment) (omega arith) i;
      }

  -- they stand for the exact ones
  pub stand-for : StandFor given exact
  stand-for = record { fault = cut-fault (ltb S exact.h) refl; same = λ e. cut-same (sums exact e) }
