-- What test 19 leaves of the bands of a reach.
use mathlib.Core.Path.{◌≡◌}
use mathlib.Core.Bool.{Bool, true, false, not, ◌||◌}
use Prim.Native.Nat.{ℕ, ◌<◌}
use native.Mathlib.Omega.{arith}
use borrow.Author.Tests.{lt-ltb, not-false}
use Rattle.lists.specs.Lists.{any_below}
use Rattle.lists.proofs.Below.{any_none}
use Rattle.lists.proofs.Shorter.{neither}
use Rattle.model.specs.Sheet.{Bands}
use Rattle.model.specs.Bands.{band_fault, overlap, begins, gap_behind, broken_at, bands_fault}

-- a band that is not at fault
pub record Unbroken (bands : Bands) (i : ℕ) : Type 0 where
  pub alone : band_fault (bands.band i) ≡ false
  pub apart : (j : ℕ) → j < i → overlap (bands.band i) (bands.band j) ≡ false
  pub behind : gap_behind bands (bands.band i) ≡ false

module _ (bands : Bands) (e : bands_fault bands ≡ false) where
  -- where there is a band, one begins with flow 0
  pub first-begins : 0 < bands.count → begins bands 0 ≡ true
  unfolding bands_fault
  first-begins h = not-false _ (neither (not (begins bands 0)) _ (rw (lt-ltb 0 bands.count h) at e)).0

  -- band i
  pub unbroken : (i : ℕ) → i < bands.count → Unbroken bands i
  unfolding bands_fault broken_at
  unbroken i h =
      let all = (neither (not (begins bands 0)) _ (rw (lt-ltb 0 bands.count (omega arith)) at e)).1 in
      let overlaps : ℕ → Bool = λ j. overlap (bands.band i) (bands.band j) in
      let three = neither (band_fault (bands.band i) || any_below i overlaps) _ (any_none (broken_at bands) bands.count all i h) in
      let two = neither (band_fault (bands.band i)) _ three.0 in
      record { alone = two.0; apart = any_none overlaps i two.1; behind = three.1 }
