-- Laws of `outside` and `any_outside`: a loop over fields and their ranges, and what is known of fields that are all in range.
use mathlib.Core.Path.{◌≡◌, sym, ◌∙◌}
use mathlib.Core.Bool.{true, false}
use mathlib.Core.List.{List, [], ◌∷◌}
use Prim.Native.Nat.{ℕ, zero, suc, ◌+◌, ◌<◌, ◌≤◌}
use native.Mathlib.Numerals.{add-one}
use native.Mathlib.Omega.{arith}
use borrow.Author.Tests.{ltb-false}
use lib.ListN.{length, get_or, drop, drop_of_length-le}
use lib.Seq.{drop-cons}
use Rattle.lists.proofs.Shorter.{neither}
use Rattle.model.specs.Ranges.{Range, outside, any_outside}

-- the first k fields are in range
pub record Checking (ranges : List Range) (fields : List ℕ) (k : ℕ) : Type 0 where
  pub rest : any_outside (drop k ranges) (drop k fields) ≡ any_outside ranges fields

module _ {ranges : List Range} {fields : List ℕ} {k : ℕ} (r : Checking ranges fields k) where
  pub checking-end : length ranges ≤ k → false ≡ any_outside ranges fields
  unfolding any_outside
  checking-end h = sym (rw (drop_of_length-le ranges {i = k} h)) ∙ r.rest

  module _ (range : Range) (h : k < length ranges) (l : k < length fields) where
    pub checking-hit : outside (get_or ranges k range) (get_or fields k 0) ≡ true → true ≡ any_outside ranges fields
    unfolding any_outside
    checking-hit o = sym (rw (drop-cons ranges k range h, drop-cons fields k 0 l, o)) ∙ r.rest

    pub checking-miss : outside (get_or ranges k range) (get_or fields k 0) ≡ false → Checking ranges fields (k + 1)
    unfolding any_outside
    checking-miss o = record { rest = sym (rw (drop-cons ranges k range h, drop-cons fields k 0 l, o, add-one)) ∙ r.rest }

-- x is in its range
pub record Within (range : Range) (x : ℕ) : Type 0 where
  pub low : range.low ≤ x
  pub high : x ≤ range.high

pub within : (range : Range) (x : ℕ) → outside range x ≡ false → Within range x
unfolding outside
within range x e = let both = neither _ _ e in record { low = ltb-false _ _ both.0; high = ltb-false _ _ both.1 }

-- field k of fields that are all in range
pub all-within : (range : Range) (ranges : List Range) (fields : List ℕ) (k : ℕ) → any_outside ranges fields ≡ false →
    k < length ranges → k < length fields → Within (get_or ranges k range) (get_or fields k 0)
unfolding any_outside
all-within range [] fields k e h l = absurd (omega arith)
all-within range (r ∷ ranges) [] k e h l = absurd (omega arith)
all-within range (r ∷ ranges) (x ∷ fields) zero e h l = within r x (neither (outside r x) (any_outside ranges fields) e).0
all-within range (r ∷ ranges) (x ∷ fields) (suc k) e h l =
    all-within range ranges fields k (neither (outside r x) (any_outside ranges fields) e).1 (omega arith) (omega arith)
