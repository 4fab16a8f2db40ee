-- The order of the bands moves no number.
use mathlib.Core.Path.{◌≡◌, refl, sym, ap, subst, ◌∙◌}
use mathlib.Core.Bool.{Bool, true, false, true≢false, cond}
use mathlib.Core.List.{List, [], ◌∷◌, ◌++◌}
use Prim.Native.Nat.{ℕ, zero, suc, ◌+◌, ◌-◌, ◌<◌, ◌≤◌}
use native.Mathlib.Decide.{dec_le}
use native.Mathlib.Omega.{arith}
use borrow.Author.Tests.{lt-ltb, eqb-false}
use lib.Dec.{eqb}
use lib.ListN.{length, get_or, replicate}
use Rattle.lists.specs.Lists.{tab, lowest_from, lowest}
use Rattle.lists.proofs.Lowest.{lowest-is}
use Rattle.lists.proofs.Tab.{length-tab, get_or-tab, tab-cong}
use Rattle.model.specs.Ranges.{flows}
use Rattle.model.specs.Sheet.{Reach, Hydraulics, Band, Bands, BandedReach, reach_count, reach_on, reaches, bands_on, banded_on, banded_reaches, flow_row_count, total_segments, segment_count, along_river}
use Rattle.model.specs.Flow.{Course, no_reach, course_of, reach_at, bands_at, gain, flow, flow_at}
use Rattle.model.specs.Bands.{holds, own_hydraulics, hydraulics_at, bands_fault}
use Rattle.model.specs.HalfStep.{natural, hydraulics_of, site_at, loaded_segment}
use Rattle.model.specs.State.{loaded_segments}
use Rattle.model.specs.Refusals.{reach, segment, passes, test_each, first}
use Rattle.model.specs.Load.{flow_fault, sheet_tests, course_tests, river_tests}
use Rattle.model.specs.BandClaim.{SameBands, Reordered, OrderFree}
use Rattle.model.proofs.Along.{river-length, total-segments}
use Rattle.model.proofs.Ranges.{flow-range}
use Rattle.model.proofs.Refusals.{all_pass, first-both, flows-clear, each-clear}
use Rattle.bands_claim.proofs.Covering.{covering}

-- ---- A, D and AS at a flow

-- where a band holds the flow and all that do have the same A, D and AS, these are the segment's
hydraulics-are : (bands : Bands) (own : Reach) (Q : ℕ) (x : Hydraulics) (k : ℕ) → k < bands.count → holds (bands.band k) Q ≡ true →
    ((j : ℕ) → j < bands.count → holds (bands.band j) Q ≡ true → (bands.band j).hydraulics ≡ x) → hydraulics_at bands own Q ≡ x
unfolding hydraulics_at
hydraulics-are bands own Q x k h held all =
    let fault : ℕ → Bool = λ j. holds (bands.band j) Q in
    let low = lowest-is fault bands.count in
    let j = lowest bands.count fault in
    let less : j < bands.count =
    elim (dec_le bands.count j) [
      | yes q ↦ absurd (true≢false (sym held ∙ low.none k (omega arith) (omega arith)))
      | no q ↦ omega arith
    ] in
    rw (lt-ltb j bands.count less) (all j less (low.at_fault (omega arith)))

-- without bands they are the reach's own
hydraulics-own : (bands : Bands) (own : Reach) (Q : ℕ) → bands.count ≡ 0 → hydraulics_at bands own Q ≡ own_hydraulics own
unfolding hydraulics_at lowest lowest_from
hydraulics-own bands own Q e = rw e

-- the same bands in another order
hydraulics-same : (x y : Bands) (own : Reach) (Q : ℕ) → SameBands x y → bands_fault x ≡ false → Q ≤ flows.high → hydraulics_at x own Q ≡ hydraulics_at y own Q
hydraulics-same x y own Q same right most =
    elim (dec_le x.count 0) [
      | yes q ↦
          let none : y.count ≡ 0 =
          elim (dec_le y.count 0) [
            | yes p ↦ omega arith
            | no p ↦ let a = (same.back 0 (omega arith)).known in absurd (omega arith)
          ] in
          hydraulics-own x own Q (omega arith) ∙ sym (hydraulics-own y own Q none)
      | no q ↦
          let one = (covering x (omega arith) right).each Q most in
          let k = one.number in
          let there = same.there k one.known in
          hydraulics-are x own Q (x.band k).hydraulics k one.known one.held (λ j l b. ap (λ i. (x.band i).hydraulics) (one.only j l b))
          ∙ sym (hydraulics-are y own Q (x.band k).hydraulics there.number there.known (ap (λ b. holds b Q) there.is ∙ one.held)
          (λ j l b.
          let back = same.back j l in
          let n = one.only back.number back.known (ap (λ z. holds z Q) back.is ∙ b) in
          ap (λ (z : Band). z.hydraulics) (sym back.is) ∙ ap (λ i. (x.band i).hydraulics) n))
    ]

-- ---- reaches that are alike but for the order of their bands

record Alike (x y : BandedReach) : Type 0 where
  reach : x.reach ≡ y.reach
  bands : SameBands x.bands y.bands
  right : bands_fault x.bands ≡ false

abbrev AllAlike : List BandedReach → List BandedReach → Type 0
AllAlike [] [] = Unit {0}
AllAlike [] (y ∷ ys) = ⊥
AllAlike (x ∷ xs) [] = ⊥
AllAlike (x ∷ xs) (y ∷ ys) = Alike x y × AllAlike xs ys

-- in tables, and along the river
alike-tab : (f g : ℕ → BandedReach) (j n : ℕ) → ((i : ℕ) → j ≤ i → i < j + n → Alike (f i) (g i)) → AllAlike (tab j n f) (tab j n g)
alike-tab f g j zero all = tt
alike-tab f g j (suc n) all = (all j (omega arith) (omega arith), alike-tab f g (suc j) n (λ i h l. all i (omega arith) (omega arith)))

alike-front : (n : ℕ) (x y : BandedReach) (xs ys : List BandedReach) → Alike x y → AllAlike xs ys → AllAlike (replicate n x ++ xs) (replicate n y ++ ys)
alike-front zero x y xs ys a all = all
alike-front (suc n) x y xs ys a all = (a, alike-front n x y xs ys a all)

alike-along : (xs ys : List BandedReach) → AllAlike xs ys → AllAlike (along_river xs) (along_river ys)
unfolding along_river
alike-along [] [] all = tt
alike-along [] (y ∷ ys) all = absurd all
alike-along (x ∷ xs) [] all = absurd all
alike-along (x ∷ xs) (y ∷ ys) all =
    let same = ap (λ (r : Reach). r.segments) all.0.reach in
    subst (λ k. AllAlike (replicate x.reach.segments x ++ along_river xs) (replicate k y ++ along_river ys)) same
    (alike-front x.reach.segments x y (along_river xs) (along_river ys) all.0 (alike-along xs ys all.1))

alike_at : (xs ys : List BandedReach) (d : BandedReach) → AllAlike xs ys → (i : ℕ) → i < length xs → Alike (get_or xs i d) (get_or ys i d)
alike_at [] ys d all i h = absurd (omega arith)
alike_at (x ∷ xs) [] d all i h = absurd all
alike_at (x ∷ xs) (y ∷ ys) d all zero h = all.0
alike_at (x ∷ xs) (y ∷ ys) d all (suc i) h = alike_at xs ys d all.1 i (omega arith)

-- ---- the two sheets

module _ (s t : List ℕ) (same : Reordered s t) (passed : first (river_tests s) ≡ passes) (r : ℕ) (known : r ≤ flow_row_count s) where
  abbrev n : ℕ
  n = segment_count s

  abbrev one : Course
  one = course_of s r

  abbrev other : Course
  other = course_of t r

  -- as many reaches and segments
  count_same : reach_count s ≡ reach_count t
  unfolding reaches
  count_same = sym (length-tab (reach_on s) 0 (reach_count s)) ∙ ap length same.fields ∙ length-tab (reach_on t) 0 (reach_count t)

  segments-same : segment_count s ≡ segment_count t
  unfolding segment_count
  segments-same = ap total_segments same.fields

  -- reach i
  reach-same : (i : ℕ) → i < reach_count s → reach_on s i ≡ reach_on t i
  unfolding reaches
  reach-same i h =
      sym (get_or-tab (reach_on s) (reach_count s) i no_reach.reach h)
      ∙ ap (λ rs. get_or rs i no_reach.reach) same.fields
      ∙ get_or-tab (reach_on t) (reach_count t) i no_reach.reach (rw (← count_same) h)

  -- 19 passes
  bands-right : (i : ℕ) → i < reach_count s → bands_fault (bands_on s i) ≡ false
  unfolding sheet_tests
  bands-right =
      let tests = all_pass (sheet_tests s) (first-both (sheet_tests s) (course_tests n (flow_row_count s) (course_of s)) passed).0 in
      each-clear 19 reach (reach_count s) (λ i. bands_fault (bands_on s i)) tests.1.1.1.1.1.1.1.1.1.0

  -- 10 passes with this flow
  flow-most : (i : ℕ) → i < n → natural (flow_at one i) ≤ flows.high
  unfolding course_tests site_at flow_fault
  flow-most i h =
      let tests = all_pass (course_tests n (flow_row_count s) (course_of s)) (first-both (sheet_tests s) (course_tests n (flow_row_count s) (course_of s)) passed).1 in
      let clear = flows-clear (flow_row_count s) (λ k. test_each 10 segment n (λ j. flow_fault (site_at (course_of s k) j))) tests.0 r known in
      (flow-range (flow_at one i) (each-clear 10 segment n (λ j. flow_fault (site_at (course_of s r) j)) clear i h)).high

  -- the rivers
  rivers-alike : AllAlike one.river other.river
  unfolding course_of banded_reaches
  rivers-alike =
      rw (← count_same)
      (alike-along (tab 0 (reach_count s) (banded_on s)) (tab 0 (reach_count s) (banded_on t))
      (alike-tab (banded_on s) (banded_on t) 0 (reach_count s)
      (λ i l h. let k : i < reach_count s = omega arith in record { reach = reach-same i k; bands = same.bands i k; right = bands-right i k })))

  long : length one.river ≡ n
  unfolding course_of
  long = river-length (banded_reaches s) ∙ total-segments s

  long-other : length other.river ≡ n
  unfolding course_of
  long-other = river-length (banded_reaches t) ∙ total-segments t ∙ sym segments-same

  alike : (i : ℕ) → i < n → Alike (get_or one.river i no_reach) (get_or other.river i no_reach)
  alike i h = alike_at one.river other.river no_reach rivers-alike i (rw long h)

  -- their segments: reach, flow, A, D and AS, and all that the numbers are worked out from
  reach-at : (i : ℕ) → i < n → reach_at one i ≡ reach_at other i
  unfolding reach_at
  reach-at i h = (alike i h).reach

  gain-at : (i : ℕ) → i ≤ n → gain one i ≡ gain other i
  unfolding gain course_of
  gain-at zero h = refl
  gain-at (suc i) h = rw (gain-at i (omega arith), reach-at i (omega arith), same.length)

  flow-at : (i : ℕ) → i < n → flow_at one i ≡ flow_at other i
  unfolding flow_at course_of
  flow-at i h = rw (gain-at i (omega arith), reach-at i h, same.length, same.flow r known)

  hydraulics-at : (i : ℕ) → i < n → hydraulics_of one i ≡ hydraulics_of other i
  unfolding hydraulics_of bands_at
  hydraulics-at i h =
      hydraulics-same (bands_at one i) (bands_at other i) (reach_at one i) (natural (flow_at one i)) (alike i h).bands (alike i h).right (flow-most i h)
      ∙ rw (reach-at i h, flow-at i h)

  below_less : (i : ℕ) → i < n → (b : Bool) → eqb (suc i) n ≡ b → cond b i (suc i) < n
  below_less i h true e = h
  below_less i h false e = omega (arith, eqb-false (suc i) n e)

  site-at : (i : ℕ) → i < n → site_at one i ≡ site_at other i
  unfolding site_at course_of
  site-at i h =
      rw (
        reach-at i h,
        hydraulics-at i h,
        hydraulics-at (i - 1) (omega arith),
        long,
        long-other,
        hydraulics-at (cond (eqb (suc i) n) i (suc i)) (below_less i h (eqb (suc i) n) refl),
        flow-at i h,
        same.time,
        same.length,
      )

  segment-at : (i : ℕ) → i < n → loaded_segment one i ≡ loaded_segment other i
  unfolding loaded_segment
  segment-at i h = rw (site-at i h, reach-at i h)

  all_same : loaded_segments s r ≡ loaded_segments t r
  all_same = tab-cong (loaded_segment one) (loaded_segment other) 0 n (λ i l h. segment-at i (omega arith)) ∙ ap (λ k. tab 0 k (loaded_segment other)) segments-same

pub order-free : OrderFree
order-free s t same passed r known = all_same s t same passed r known
