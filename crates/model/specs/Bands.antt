-- Document 02, 6: A, D and AS by flow band, and what test 19 asks of the bands of a reach.
use Rattle.std.specs.Prelude.{Bool, not, cond, ◌&&◌, ◌||◌, ℕ, suc, eqb, ltb, leb}
use Rattle.lists.specs.Lists.{lowest, any_below}
use Rattle.model.specs.Ranges.{◌to◌, outside, flows, areas, dispersions}
use Rattle.model.specs.Sheet.{Reach, Hydraulics, Band, Bands}

-- the band holds this flow; both its ends belong to it
unfoldable pub holds : Band → (Q : ℕ) → Bool
holds band Q = not (outside (band.lowest to band.highest) Q)

-- "the reach's own A, D and AS"
abbrev pub own_hydraulics : Reach → Hydraulics
own_hydraulics reach = record { area = reach.area; dispersion = reach.dispersion; area2 = reach.area2 }

-- those of "the band that holds" a flow; where none does the reach's own, which "A count of 0 keeps"
unfoldable pub hydraulics_at : Bands → Reach → (Q : ℕ) → Hydraulics
hydraulics_at bands reach Q =
    let j = lowest bands.count (λ j. holds (bands.band j) Q) in
    cond (ltb j bands.count) (bands.band j).hydraulics (own_hydraulics reach)

-- "a band is out of range or reversed"; "the lowest at most the highest, ranges as in document 01"
unfoldable pub band_fault : Band → Bool
band_fault band =
    let x = band.hydraulics in
    outside flows band.lowest || outside flows band.highest || outside areas x.area || outside dispersions x.dispersion
    || outside areas x.area2 || ltb band.highest band.lowest

-- "two bands overlap": a flow is in both
unfoldable pub overlap : Band → Band → Bool
overlap x y = leb x.lowest y.highest && leb y.lowest x.highest

-- a band begins with this flow
unfoldable pub begins : Bands → (Q : ℕ) → Bool
begins bands Q = any_below bands.count (λ j. eqb (bands.band j).lowest Q)

-- the flow behind a band is left out: it has to be covered, and no band begins with it
unfoldable pub gap_behind : Bands → Band → Bool
gap_behind bands band = ltb band.highest flows.high && not (begins bands (suc band.highest))

-- band i is at fault, by itself, with a band before it, or for the flow behind it
unfoldable pub broken_at : Bands → (i : ℕ) → Bool
broken_at bands i =
    let band = bands.band i in
    band_fault band || any_below i (λ j. overlap band (bands.band j)) || gap_behind bands band

-- 19. "a band is out of range or reversed, two bands overlap or a flow has none": flow 0, or one behind a band. Of a count of 0 nothing is asked.
-- That these three are what the request means is a claim (BandClaim).
unfoldable pub bands_fault : Bands → Bool
bands_fault bands = ltb 0 bands.count && (not (begins bands 0) || any_below bands.count (broken_at bands))
