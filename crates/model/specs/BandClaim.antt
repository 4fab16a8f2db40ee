-- Document 02, 6, what test 19 means: "bands must cover 0 to 100,000,000 with no flow in two bands and none left out; their order on the sheet is free."
use Rattle.std.specs.Prelude.{◌≡◌, true, false, List, ℕ, ◌<◌, ◌≤◌}
use Rattle.model.specs.Ranges.{flows}
use Rattle.model.specs.Sheet.{dt, dx, reach_count, reaches, flow_row_count, Band, Bands, bands_on}
use Rattle.model.specs.Flow.{top_of}
use Rattle.model.specs.Bands.{holds, band_fault, bands_fault}
use Rattle.model.specs.State.{loaded_segments}
use Rattle.model.specs.Refusals.{passes, first}
use Rattle.model.specs.Load.{river_tests}

-- one band holds the flow, and no other does
pub record InOne (bands : Bands) (Q : ℕ) : Type 0 where
  pub number : ℕ
  pub known : number < bands.count
  pub held : holds (bands.band number) Q ≡ true
  pub only : (j : ℕ) → j < bands.count → holds (bands.band j) Q ≡ true → j ≡ number

-- no band is out of range or reversed, and every flow of 0 to 100,000,000 is in exactly one
pub record Covering (bands : Bands) : Type 0 where
  pub sound : (j : ℕ) → j < bands.count → band_fault (bands.band j) ≡ false
  pub each : (Q : ℕ) → Q ≤ flows.high → InOne bands Q

-- bands, one or more, pass 19 exactly where they are such
abbrev pub BandsCover : Type 0
BandsCover = (bands : Bands) → 0 < bands.count → (bands_fault bands ≡ false → Covering bands) × (Covering bands → bands_fault bands ≡ false)

-- the band is one of these
pub record Among (bands : Bands) (band : Band) : Type 0 where
  pub number : ℕ
  pub known : number < bands.count
  pub is : bands.band number ≡ band

-- the same bands, in whatever order
pub record SameBands (x y : Bands) : Type 0 where
  pub there : (i : ℕ) → i < x.count → Among y (x.band i)
  pub back : (i : ℕ) → i < y.count → Among x (y.band i)

-- two sheets with the same dt, dx, reaches and flows, and with the same bands of each reach
pub record Reordered (s t : List ℕ) : Type 0 where
  pub time : dt s ≡ dt t
  pub length : dx s ≡ dx t
  pub flow : (r : ℕ) → r ≤ flow_row_count s → top_of s r ≡ top_of t r
  pub fields : reaches s ≡ reaches t
  pub bands : (i : ℕ) → i < reach_count s → SameBands (bands_on s i) (bands_on t i)

-- "their order on the sheet is free": where one of them passes its tests, a loading of the other gives the same numbers, for every flow
abbrev pub OrderFree : Type 0
OrderFree =
    (s t : List ℕ) → Reordered s t → first (river_tests s) ≡ passes → (r : ℕ) → r ≤ flow_row_count s → loaded_segments s r ≡ loaded_segments t r
