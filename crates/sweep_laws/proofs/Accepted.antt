-- A segment that a step accepts: the bounds of its right sides, quotients and new figures, and its fit row.
use mathlib.Core.Path.{◌≡◌}
use mathlib.Core.Bool.{Bool, false}
use mathlib.Core.List.{List, [], ◌∷◌}
use mathlib.Core.Logic.{⊎_elim}
use Prim.Native.Nat.{ℕ, zero, suc, ◌+◌, ◌-◌, ◌*◌, ◌<◌, ◌≤◌, zero-le}
use native.Mathlib.Nat.{eq-or-lt_of_le, mul-le-mul_left, mul-le-mul_right, le_of_mul-le-mul_left, min-le_right}
use native.Mathlib.Omega.{arith}
use borrow.Author.Tests.{ltb-false}
use Rattle.lists.specs.Lists.{tab}
use Rattle.lists.proofs.Shorter.{neither}
use Rattle.rounding.specs.Nearest.{S}
use Rattle.rounding.proofs.Laws.{Rounds, rounds, by, nearest-le}
use Rattle.model.specs.Ranges.{highest}
use Rattle.model.specs.HalfStep.{Numbers}
use Rattle.model.specs.Equations.{Figures, Pair, sum_t, sum_v, channel_right, storage_right, sediment_right}
use Rattle.model.specs.Sweep.{P, N, storage_quotient, sediment_quotient, F, R, row_of, rows, below, clamp, new_storage, new_sediment, new_figures, finish, stepped}
use Rattle.model.specs.Load.{sum_fault}
use Rattle.model.specs.Calls.{numbers_fault}
use Rattle.sweep_laws.specs.Accepted.{Sums, Accepted, AtMost}
use Rattle.sweep_laws.specs.Stable.{Fit}

-- every entry of a list has the property
pub data All {A : Type 0} (P : A → Type 0) : List A → Type 0 where
  none : All P []
  cons : {x : A} {xs : List A} → P x → All P xs → All P (x ∷ xs)

-- what holds of every entry of a table holds of the table
pub all-tab : {A : Type 0} {P : A → Type 0} (j n : ℕ) (f : ℕ → A) → ((i : ℕ) → j ≤ i → i < j + n → P (f i)) → All P (tab j n f)
all-tab j zero f holds = none
all-tab j (suc n) f holds = cons (holds j (omega arith) (omega arith)) (all-tab (suc j) n f (λ i a b. holds i (omega arith) (omega arith)))

-- and what holds of the table holds of every entry
pub all-at : {A : Type 0} {P : A → Type 0} (j n : ℕ) (f : ℕ → A) → All P (tab j n f) → (i : ℕ) → j ≤ i → i < j + n → P (f i)
all-at j zero f all i a b = absurd (omega arith)
all-at {P = P} j (suc n) f (cons p ps) i a b =
    ⊎_elim (λ e. rw (← e) p) (λ h. all-at (suc j) n f ps i (omega arith) (omega arith)) (eq-or-lt_of_le a)

-- numbers that a call accepts, of either set
pub sums : (is_last : Bool) (n : Numbers) → numbers_fault is_last n ≡ false → Sums n
unfolding numbers_fault sum_fault
sums is_last n e =
    let most = neither _ _ (neither _ _ e).0 in
    let tv = neither _ _ most.0 in
    record { t = ltb-false _ _ tv.0; v = ltb-false _ _ tv.1; h = ltb-false _ _ most.1 }

-- ---- the three right sides

module _ (x : Pair) (B : ℕ) (f : Figures) (most : AtMost B f) where
  pub channel-most : (above below : ℕ) → sum_t x.old ≤ S → x.cl ≤ B → above ≤ B → below ≤ B → channel_right x above below f ≤ (S + x.new.l) * B
  channel-most above below t l ha hb =
      let sum : S - sum_t x.old + x.old.e + x.old.g + x.old.a + x.old.s + (x.old.l + x.new.l) ≤ S + x.new.l = omega arith in
      omega (
        arith,
        mul-le-mul_left (S - sum_t x.old) most.c,
        mul-le-mul_left x.old.e ha,
        mul-le-mul_left x.old.g hb,
        mul-le-mul_left x.old.a most.z,
        mul-le-mul_left x.old.s most.w,
        mul-le-mul_left (x.old.l + x.new.l) l,
        mul-le-mul_right B sum,
      )

  pub storage-most : sum_v x.old ≤ S → x.cb ≤ B → storage_right x f ≤ (S + x.new.ks + x.new.m) * B
  storage-most v b =
      let sum : S - sum_v x.old + x.old.b + (x.old.m + x.new.m) ≤ S + x.new.ks + x.new.m = omega arith in
      omega (
        arith,
        mul-le-mul_left (S - sum_v x.old) most.z,
        mul-le-mul_left x.old.b most.c,
        mul-le-mul_left (x.old.m + x.new.m) b,
        mul-le-mul_right B sum,
      )

  pub sediment-most : x.old.h ≤ S → sediment_right x f ≤ S * B
  sediment-most h =
      let sum : S - x.old.h + x.old.h ≤ S = omega arith in
      omega (arith, mul-le-mul_left (S - x.old.h) most.w, mul-le-mul_left x.old.h most.c, mul-le-mul_right B sum)

-- ---- the two quotients of F

pub storage-quotient : (n : Numbers) → storage_quotient n ≤ n.a
storage-quotient n = nearest-le _ _ n.a (omega arith) (omega arith)

pub sediment-quotient : (n : Numbers) → sediment_quotient n ≤ n.s
sediment-quotient n = nearest-le _ _ n.s (omega arith) (omega arith)

pub F-most : (n : Numbers) → F n ≤ S + sum_t n
unfolding F
F-most n = omega (arith, storage-quotient n, sediment-quotient n)

-- ---- P, N and the new figures

module _ (x : Pair) (f : Figures) (ok : Accepted x) (most : AtMost highest f) where
  pub P-most : P x f ≤ highest
  unfolding P
  P-most =
      nearest-le (storage_right x f) (S + sum_v x.new) highest (omega arith)
      (omega (arith, storage-most x highest f most ok.old.v ok.cb))

  pub N-most : N x f ≤ highest
  unfolding N
  N-most =
      nearest-le (sediment_right x f) (S + x.new.h) highest (omega arith)
      (omega (arith, sediment-most x highest f most ok.old.h))

  pub figures-most : (c' : ℕ) → c' ≤ highest → AtMost highest (new_figures x f c')
  unfolding new_figures new_storage new_sediment
  figures-most c' h = record {
    c = h;
    z =
        nearest-le (storage_right x f + x.new.b * c') (S + sum_v x.new) highest (omega arith)
        (omega (arith, storage-most x highest f most ok.old.v ok.cb, mul-le-mul_left x.new.b h));
    w =
        nearest-le (sediment_right x f + x.new.h * c') (S + x.new.h) highest (omega arith)
        (omega (arith, sediment-most x highest f most ok.old.h, mul-le-mul_left x.new.h h));
  }

-- ---- the row of a segment

-- P = num/n and q = a·c/n, both rounded
quotient-room : (n c a num q P : ℕ) → 0 < n → Rounds (a * c) n q → Rounds num n P → num ≤ c * highest → a ≤ S → a * P ≤ S * q + S
quotient-room n c a num q P pos hq hP most small =
    le_of_mul-le-mul_left (omega (arith, hq, by a hP, mul-le-mul_left a most, mul-le-mul_left n small)) pos

module _ (x : Pair) (f : Figures) (ok : Accepted x) (most : AtMost highest f) where
  -- aP and sN are at most S times the quotients of F, and S each
  storage-room : x.new.a * P x f ≤ S * storage_quotient x.new + S
  unfolding P
  storage-room =
      quotient-room (S + sum_v x.new) (S + x.new.ks + x.new.m) x.new.a (storage_right x f) _ _ (omega arith)
      (rounds _ _ (omega arith)) (rounds _ _ (omega arith)) (storage-most x highest f most ok.old.v ok.cb) (omega (arith, ok.new.t))

  sediment-room : x.new.s * N x f ≤ S * sediment_quotient x.new + S
  unfolding N
  sediment-room =
      quotient-room (S + x.new.h) S x.new.s (sediment_right x f) _ _ (omega arith)
      (rounds _ _ (omega arith)) (rounds _ _ (omega arith)) (sediment-most x highest f most ok.old.h) (omega (arith, ok.new.t))

  pub row-fit : (above below : ℕ) → above ≤ highest → below ≤ highest → Fit (row_of x above below f)
  unfolding row_of R F
  row-fit above below ha hb = record {
    small = omega (arith, ok.new.t);
    wide = omega arith;
    most = omega (arith, F-most x.new, ok.new.t);
    room = omega (arith, channel-most x highest f most above below ok.old.t ok.cl ha hb, storage-room, sediment-room);
  }

-- the rows of a river
pub rows_fit : (above : ℕ) {xs : List Pair} {fs : List Figures} → above ≤ highest → All Accepted xs → All (AtMost highest) fs →
    All Fit (rows above xs fs)
rows_fit above ha none fs = none
rows_fit above ha (cons ok oks) none = none
rows_fit above ha (cons {x} {xs} ok oks) (cons {x = f} {xs = fs} most mosts) =
    cons (row-fit x f ok most above (below fs) ha (below-most mosts)) (rows_fit f.c most.c oks mosts)
  where
    below-most : {fs : List Figures} → All (AtMost highest) fs → below fs ≤ highest
    below-most none = zero-le
    below-most (cons most mosts) = most.c

-- the new figures of a river
finish-most : {xs : List Pair} {fs : List Figures} (cs : List ℕ) → All Accepted xs → All (AtMost highest) fs → All (AtMost highest) (finish xs fs cs)
finish-most cs none mosts = none
finish-most cs (cons ok oks) none = none
finish-most [] (cons ok oks) (cons most mosts) = none
finish-most (c ∷ cs) (cons {x} ok oks) (cons {x = f} most mosts) =
    cons (figures-most x f ok most (clamp c) (min-le_right c highest)) (finish-most cs oks mosts)

pub stepped-most : (u u' : ℕ) {xs : List Pair} {fs : List Figures} → All Accepted xs → All (AtMost highest) fs → All (AtMost highest) (stepped u u' xs fs)
unfolding stepped
stepped-most u u' oks mosts = finish-most _ oks mosts
