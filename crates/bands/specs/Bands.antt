-- The bands of a reach as the code has them: where their count stands, and the count.
use Rattle.std.specs.Prelude.{◌≡◌, true, List, ℕ, leb}
use Rattle.model.specs.Ranges.{since}
use Rattle.model.specs.Sheet as Sheet
use Rattle.model.specs.Sheet.{edition, field, band_count_at, band_count, bands_from}
use Rattle.terms.specs.Says.{hydraulics_say}
use Rattle.bands.specs.declared.Band as Code
use Rattle.bands.specs.declared.place.Bands.{Bands}

-- the count of bands that stands at `at`
abbrev pub count_on : List ℕ → (at : ℕ) → ℕ
count_on sheet at = since 3 (edition sheet) (field sheet at) 0

abbrev pub band_says : Code.Band → Sheet.Band
band_says band = record { lowest = band.lowest; highest = band.highest; hydraulics = hydraulics_say band.hydraulics }

abbrev pub bands_say : List ℕ → Bands → Sheet.Bands
bands_say sheet bands = bands_from sheet bands.count bands.at

-- these are the bands of reach i
pub record Standing (sheet : List ℕ) (i : ℕ) (bands : Bands) : Type 0 where
  pub count : bands.count ≡ band_count sheet i
  pub at : leb 3 (edition sheet) ≡ true → bands.at ≡ band_count_at sheet i
