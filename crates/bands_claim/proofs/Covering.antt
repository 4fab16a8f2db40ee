-- Bands pass test 19 exactly where every flow is in one of them.
use mathlib.Core.Path.{◌≡◌, refl, sym, ap, ◌∙◌}
use mathlib.Core.Bool.{Bool, true, false, true≢false, false≢true, not, ◌&&◌, ◌||◌}
use Prim.Native.Nat.{ℕ, zero, suc, ◌<◌, ◌≤◌}
use native.Mathlib.Decide.{dec_le}
use native.Mathlib.Omega.{arith}
use borrow.Author.Tests.{le-leb, leb-true, lt-ltb, le-ltb, ltb-false, eq-eqb, eqb-true, not-true, not-false}
use lib.Dec.{eqb}
use Rattle.lists.specs.Lists.{any_below}
use Rattle.lists.proofs.Below.{any-hit, any_some, none_any}
use Rattle.lists.proofs.Shorter.{neither}
use Rattle.model.specs.Ranges.{◌to◌, outside, flows, areas, dispersions}
use Rattle.model.specs.Sheet.{Band, Bands}
use Rattle.model.specs.Bands.{holds, band_fault, overlap, begins, gap_behind, broken_at, bands_fault}
use Rattle.model.specs.BandClaim.{Covering, BandsCover}
use Rattle.model.proofs.Bands.{first-begins, unbroken}
use Rattle.model.proofs.Ranges.{inside}

-- ---- one band

-- it holds a flow between its ends
pub held : (band : Band) (Q : ℕ) → holds band Q ≡ true → (band.lowest ≤ Q) × (Q ≤ band.highest)
unfolding holds
held band Q e = inside (band.lowest to band.highest) Q (not-true _ e)

holding : (band : Band) (Q : ℕ) → band.lowest ≤ Q → Q ≤ band.highest → holds band Q ≡ true
unfolding holds outside
holding band Q l h = rw (le-ltb Q band.lowest l, le-ltb band.highest Q h)

-- what is known of one that is not at fault by itself
record Sound (band : Band) : Type 0 where
  most : band.highest ≤ flows.high
  ordered : band.lowest ≤ band.highest

sound : (band : Band) → band_fault band ≡ false → Sound band
unfolding band_fault
sound band e =
    let x = band.hydraulics in
    let two = outside flows band.lowest || outside flows band.highest in
    let three = two || outside areas x.area in
    let four = three || outside dispersions x.dispersion in
    let five = four || outside areas x.area2 in
    let a = neither five _ e in
    let ends = neither (outside flows band.lowest) _ (neither two _ (neither three _ (neither four _ a.0).0).0).0 in
    record { most = (inside flows band.highest ends.1).1; ordered = ltb-false _ _ a.1 }

-- ---- two bands

-- a flow that both hold: they overlap
shared : (x y : Band) (Q : ℕ) → holds x Q ≡ true → holds y Q ≡ true → overlap x y ≡ true
unfolding overlap
shared x y Q a b =
    let h = held x Q a in
    let k = held y Q b in
    rw (le-leb x.lowest y.highest (omega arith), le-leb y.lowest x.highest (omega arith))

both_true : (a b : Bool) → (a && b) ≡ true → (a ≡ true) × (b ≡ true)
both_true true true e = (refl, refl)
both_true true false e = absurd (false≢true e)
both_true false b e = absurd (false≢true e)

-- where they overlap, there is one
common : (x y : Band) → Sound x → Sound y → overlap x y ≡ true → (Q : ℕ) × (Q ≤ flows.high) × (holds x Q ≡ true) × (holds y Q ≡ true)
unfolding overlap
common x y a b e =
    let both = both_true _ _ e in
    let l = leb-true x.lowest y.highest both.0 in
    let h = leb-true y.lowest x.highest both.1 in
    elim (dec_le x.lowest y.lowest) [
      | yes q ↦ (y.lowest, omega arith, holding x y.lowest q h, holding y y.lowest (omega arith) b.ordered)
      | no q ↦ (x.lowest, omega arith, holding x x.lowest (omega arith) a.ordered, holding y x.lowest (omega arith) l)
    ]

-- ---- bands that pass 19

module _ (bands : Bands) (some : 0 < bands.count) (e : bands_fault bands ≡ false) where
  fine : (i : ℕ) → i < bands.count → Sound (bands.band i)
  fine i h = sound (bands.band i) (unbroken bands e i h).alone

  -- a band that begins with this flow holds it
  begun : (Q : ℕ) → begins bands Q ≡ true → (k : ℕ) × (k < bands.count) × (holds (bands.band k) Q ≡ true)
  unfolding begins
  begun Q b =
      let x = any_some (λ j. eqb (bands.band j).lowest Q) bands.count b in
      let is : (bands.band x.0).lowest ≡ Q = eqb-true _ _ x.2 in
      let f = (fine x.0 x.1).ordered in
      (x.0, x.1, holding (bands.band x.0) Q (omega arith) (omega arith))

  -- behind the band that holds a flow the next one is held, by the same or by one that begins there
  behind : (Q k : ℕ) → suc Q ≤ flows.high → k < bands.count → holds (bands.band k) Q ≡ true → (j : ℕ) × (j < bands.count) × (holds (bands.band j) (suc Q) ≡ true)
  unfolding gap_behind
  behind Q k most h hold =
      let band = bands.band k in
      let ends = held band Q hold in
      elim (dec_le (suc Q) band.highest) [
        | yes q ↦ (k, h, holding band (suc Q) (omega arith) q)
        | no q ↦
            let last : band.highest ≡ Q = omega arith in
            let gap : (true && not (begins bands (suc band.highest))) ≡ false = rw (lt-ltb band.highest flows.high (omega arith)) at (unbroken bands e k h).behind in
            begun (suc Q) (rw last at (not-false (begins bands (suc band.highest)) gap))
      ]

  -- every flow is held
  covered : (Q : ℕ) → Q ≤ flows.high → (k : ℕ) × (k < bands.count) × (holds (bands.band k) Q ≡ true)
  covered zero h = begun 0 (first-begins bands e some)
  covered (suc Q) h = let x = covered Q (omega arith) in behind Q x.0 h x.1 x.2

  -- and by no two bands
  no-two : (Q i j : ℕ) → i < bands.count → j < i → holds (bands.band i) Q ≡ true → holds (bands.band j) Q ≡ true → ⊥
  no-two Q i j h l a b = true≢false (sym (shared (bands.band i) (bands.band j) Q a b) ∙ (unbroken bands e i h).apart j l)

  only_one : (Q i j : ℕ) → i < bands.count → j < bands.count → holds (bands.band i) Q ≡ true → holds (bands.band j) Q ≡ true → j ≡ i
  only_one Q i j h l a b =
      elim (dec_le i j) [
        | yes p ↦ elim (dec_le j i) [
          | yes q ↦ omega arith
          | no q ↦ absurd (no-two Q j i l (omega arith) b a)
        ]
        | no p ↦ absurd (no-two Q i j h (omega arith) a b)
      ]

  pub covering : Covering bands
  covering = record {
    sound = λ j h. (unbroken bands e j h).alone;
    each = λ Q h.
        let x = covered Q h in
        record { number = x.0; known = x.1; held = x.2; only = λ j l b. only_one Q x.0 j x.1 l x.2 b };
  }

-- ---- bands that hold every flow once

module _ (bands : Bands) (some : 0 < bands.count) (c : Covering bands) where
  right : (i : ℕ) → i < bands.count → Sound (bands.band i)
  right i h = sound (bands.band i) (c.sound i h)

  -- two that hold a flow are one
  same : (Q i j : ℕ) → Q ≤ flows.high → i < bands.count → j < bands.count → holds (bands.band i) Q ≡ true → holds (bands.band j) Q ≡ true → i ≡ j
  same Q i j h k l a b = let x = c.each Q h in x.only i k a ∙ sym (x.only j l b)

  begins-first : begins bands 0 ≡ true
  unfolding begins
  begins-first =
      let x = c.each 0 (omega arith) in
      let l = (held (bands.band x.number) 0 x.held).0 in
      let z : (bands.band x.number).lowest ≡ 0 = omega arith in
      any-hit (λ j. eqb (bands.band j).lowest 0) bands.count x.number x.known (eq-eqb _ _ z)

  none-overlaps : (i : ℕ) → i < bands.count → any_below i (λ j. overlap (bands.band i) (bands.band j)) ≡ false
  none-overlaps i h = none_any (λ j. overlap (bands.band i) (bands.band j)) i (λ j l. go j l (overlap (bands.band i) (bands.band j)) refl)
    where
      go : (j : ℕ) → j < i → (t : Bool) → overlap (bands.band i) (bands.band j) ≡ t → t ≡ false
      go j l true q =
          let k : j < bands.count = omega arith in
          let x = common (bands.band i) (bands.band j) (right i h) (right j k) q in
          let z : i ≡ j = same x.0 i j x.1 h k x.2 x.3 in
          absurd (omega arith)
      go j l false q = refl

  begins-behind : (i : ℕ) → i < bands.count → suc (bands.band i).highest ≤ flows.high → begins bands (suc (bands.band i).highest) ≡ true
  unfolding begins
  begins-behind i h most =
      let end = (bands.band i).highest in
      let x = c.each (suc end) most in
      let next = bands.band x.number in
      let ends = held next (suc end) x.held in
      let from : next.lowest ≡ suc end =
      elim (dec_le next.lowest end) [
        | yes l ↦
            let own = holding (bands.band i) end (right i h).ordered (omega arith) in
            let other = holding next end l (omega arith) in
            let z : i ≡ x.number = same end i x.number (omega arith) h x.known own other in
            let w : next.highest ≡ end = ap (λ k. (bands.band k).highest) (sym z) in
            absurd (omega arith)
        | no l ↦ omega arith
      ] in
      any-hit (λ j. eqb (bands.band j).lowest (suc end)) bands.count x.number x.known (eq-eqb _ _ from)

  no_gap : (i : ℕ) → i < bands.count → gap_behind bands (bands.band i) ≡ false
  unfolding gap_behind
  no_gap i h =
      elim (dec_le flows.high (bands.band i).highest) [
        | yes q ↦ rw (le-ltb (bands.band i).highest flows.high q)
        | no q ↦ rw (lt-ltb (bands.band i).highest flows.high (omega arith), begins-behind i h (omega arith))
      ]

  pub passing : bands_fault bands ≡ false
  unfolding bands_fault broken_at
  passing =
      rw (lt-ltb 0 bands.count some, begins-first)
      (none_any (broken_at bands) bands.count (λ i h. rw (c.sound i h, none-overlaps i h, no_gap i h)))

pub bands-cover : BandsCover
bands-cover bands some = (covering bands some, passing bands some)
