-- Document 01, "The river sheet", and document 02, 1 and 6: where each field stands on a sheet marked OTR1, OTR2 or OTR3, and what is read there.
-- A sheet is its list of bytes. Reaches, rows and gauges count from 1 in document 01 and from 0 here; places count from 1.
use Rattle.std.specs.Prelude.{Bool, true, false, cond, ◌&&◌, List, [], ◌∷◌, ◌++◌, ℕ, ◌+◌, ◌*◌, eqb, get_or, take, replicate}
use Rattle.lists.specs.Lists.{tab}
use Rattle.model.specs.Ranges.{since, Section, reach_section, row_section, gauge_section, flow_section, band_section}

-- "A sheet starts with the four bytes OTR1"
abbrev pub otr1 : List ℕ
otr1 = 79 ∷ 84 ∷ 82 ∷ 49 ∷ []

-- Document 02, 1: "A sheet marked OTR2"
abbrev pub otr2 : List ℕ
otr2 = 79 ∷ 84 ∷ 82 ∷ 50 ∷ []

-- Document 02, 6: "A sheet marked OTR3"
abbrev pub otr3 : List ℕ
otr3 = 79 ∷ 84 ∷ 82 ∷ 51 ∷ []

-- the sheet starts with these bytes
unfoldable pub starts_with : List ℕ → List ℕ → Bool
starts_with [] sheet = true
starts_with (byte ∷ bytes) [] = false
starts_with (byte ∷ bytes) (b ∷ sheet) = eqb b byte && starts_with bytes sheet

-- the edition of a sheet: the number of the mark that it starts with, or 0 for "Fewer than four bytes, or another mark."
unfoldable pub edition : List ℕ → ℕ
edition sheet =
    cond (starts_with otr1 sheet) 1
    (cond (starts_with otr2 sheet) 2
    (cond (starts_with otr3 sheet) 3
    0))

-- "All fields are unsigned 32-bit, little-endian": the field whose first byte is byte number `at`, from 0 at the mark
unfoldable pub field : List ℕ → ℕ → ℕ
field sheet at = get_or sheet at 0 + 256 * get_or sheet (at + 1) 0 + 65536 * get_or sheet (at + 2) 0 + 16777216 * get_or sheet (at + 3) 0

-- field k of the header, which follows the mark and has five fields
unfoldable pub header_field : List ℕ → ℕ → ℕ
header_field sheet k = field sheet (4 + 4 * k)

-- its fields, in order: "step dt .., segment length dx .., steps M .., print interval .., flow at the top"
abbrev pub header_width : ℕ
header_width = 5

-- dt
abbrev pub dt : List ℕ → ℕ
dt sheet = header_field sheet 0

-- dx
abbrev pub dx : List ℕ → ℕ
dx sheet = header_field sheet 1

-- M
abbrev pub steps_m : List ℕ → ℕ
steps_m sheet = header_field sheet 2

-- the print interval
abbrev pub interval : List ℕ → ℕ
interval sheet = header_field sheet 3

-- the flow at the top
abbrev pub top_flow : List ℕ → ℕ
top_flow sheet = header_field sheet 4

-- the five of them
abbrev pub header : List ℕ → List ℕ
header sheet = tab 0 header_width (header_field sheet)

-- "Count of reaches", behind the header
abbrev pub reach_count_at : ℕ
reach_count_at = 4 + 4 * header_width

-- and what stands there
abbrev pub reach_count : List ℕ → ℕ
reach_count sheet = field sheet reach_count_at

-- Document 02, 6: "an OTR2 sheet with a fifth section: for each reach a count", so that it is one section for each reach
abbrev pub band_sections : List ℕ → List Section
band_sections sheet = since 3 (edition sheet) (replicate (reach_count sheet) band_section) []

-- the sections behind the header, in the sheet's order. Document 02, 1: "A sheet marked OTR2 has a fourth section after the gauges"
unfoldable pub sections : List ℕ → List Section
sections sheet =
    reach_section (edition sheet) ∷ row_section ∷ gauge_section ∷ since 2 (edition sheet) (flow_section ∷ band_sections sheet) []

-- where a section whose count stands at `at` ends
unfoldable pub section_end : List ℕ → ℕ → Section → ℕ
section_end sheet at section = at + 4 + 4 * (section.width * field sheet at)

-- where sections end that stand one behind the other, the first one's count at `at`
unfoldable pub sections_end : List ℕ → ℕ → List Section → ℕ
sections_end sheet at [] = at
sections_end sheet at (section ∷ more) = sections_end sheet (section_end sheet at section) more

-- the end of "whichever section is last"
unfoldable pub sheet_end : List ℕ → ℕ
sheet_end sheet = sections_end sheet reach_count_at (sections sheet)

-- where the count of section k stands, from 0: behind the k sections before it, whether the sheet has it or not
unfoldable pub count_at : List ℕ → ℕ → ℕ
count_at sheet k = sections_end sheet reach_count_at (take k (sections sheet))

-- that of boundary rows
abbrev pub row_count_at : List ℕ → ℕ
row_count_at sheet = count_at sheet 1

-- that of gauges
abbrev pub gauge_count_at : List ℕ → ℕ
gauge_count_at sheet = count_at sheet 2

-- that of flow rows
abbrev pub flow_row_count_at : List ℕ → ℕ
flow_row_count_at sheet = count_at sheet 3

-- that of the bands of reach i
abbrev pub band_count_at : List ℕ → (i : ℕ) → ℕ
band_count_at sheet i = count_at sheet (4 + i)

-- "Count of boundary rows"
abbrev pub row_count : List ℕ → ℕ
row_count sheet = field sheet (row_count_at sheet)

-- "Count of gauges"
abbrev pub gauge_count : List ℕ → ℕ
gauge_count sheet = field sheet (gauge_count_at sheet)

-- the count of flow rows, "0 in OTR1"
unfoldable pub flow_row_count : List ℕ → ℕ
flow_row_count sheet = since 2 (edition sheet) (field sheet (flow_row_count_at sheet)) 0

-- the count of bands of reach i; a sheet without the section has none
unfoldable pub band_count : List ℕ → (i : ℕ) → ℕ
band_count sheet i = since 3 (edition sheet) (field sheet (band_count_at sheet i)) 0

-- field k of record i of a section whose count stands at `at`
unfoldable pub record_field : List ℕ → ℕ → Section → ℕ → ℕ → ℕ
record_field sheet at section i k = field sheet (at + 4 + 4 * (section.width * i + k))

-- a reach record, its 16 fields in the sheet's order: D is `dispersion`, A `area`, AS `area2` (the report's AREA2), CL `cl`, CB `cb`
pub record Reach : Type 0 where
  pub segments : ℕ
  pub dispersion : ℕ
  pub area : ℕ
  pub area2 : ℕ
  pub alpha : ℕ
  pub qin : ℕ
  pub qout : ℕ
  pub cl : ℕ
  pub lambda : ℕ
  pub lambda2 : ℕ
  pub lamhat : ℕ
  pub lamhat2 : ℕ
  pub rho : ℕ
  pub kd : ℕ
  pub cb : ℕ
  pub start : ℕ

-- the fields of reach i, which counts from 0
unfoldable pub reach_fields : List ℕ → ℕ → List ℕ
reach_fields sheet i = tab 0 (reach_section (edition sheet)).width (record_field sheet reach_count_at (reach_section (edition sheet)) i)

-- the record that sixteen fields make
unfoldable pub reach_of : (ℕ → ℕ) → Reach
reach_of f = record {
  segments = f 0;
  dispersion = f 1;
  area = f 2;
  area2 = f 3;
  alpha = f 4;
  qin = f 5;
  qout = f 6;
  cl = f 7;
  lambda = f 8;
  lambda2 = f 9;
  lamhat = f 10;
  lamhat2 = f 11;
  rho = f 12;
  kd = f 13;
  cb = f 14;
  start = f 15;
}

-- reach i of a sheet
unfoldable pub reach_on : List ℕ → ℕ → Reach
reach_on sheet i = reach_of (record_field sheet reach_count_at (reach_section (edition sheet)) i)

-- the reaches, in the sheet's order
unfoldable pub reaches : List ℕ → List Reach
reaches sheet = tab 0 (reach_count sheet) (reach_on sheet)

-- A, D and AS: a reach's own, or a band's
pub record Hydraulics : Type 0 where
  pub area : ℕ
  pub dispersion : ℕ
  pub area2 : ℕ

-- a band: "lowest flow, highest flow, A, D and AS"
pub record Band : Type 0 where
  pub lowest : ℕ
  pub highest : ℕ
  pub hydraulics : Hydraulics

-- the band that five fields make
abbrev pub band_of : (ℕ → ℕ) → Band
band_of f = record { lowest = f 0; highest = f 1; hydraulics = record { area = f 2; dispersion = f 3; area2 = f 4 } }

-- "a table of bands for each reach": how many there are, and band j, from 0 in the sheet's order
pub record Bands : Type 0 where
  pub count : ℕ
  pub band : ℕ → Band

-- the bands whose count stands at `at`
abbrev pub bands_from : List ℕ → (count at : ℕ) → Bands
bands_from sheet count at = record { count = count; band = λ j. band_of (record_field sheet at band_section j) }

-- those of reach i
unfoldable pub bands_on : List ℕ → (i : ℕ) → Bands
bands_on sheet i = bands_from sheet (band_count sheet i) (band_count_at sheet i)

-- boundary rows: start steps and concentrations
unfoldable pub row_starts : List ℕ → List ℕ
row_starts sheet = tab 0 (row_count sheet) (λ j. record_field sheet (row_count_at sheet) row_section j 0)

-- and their concentrations
unfoldable pub row_concentrations : List ℕ → List ℕ
row_concentrations sheet = tab 0 (row_count sheet) (λ j. record_field sheet (row_count_at sheet) row_section j 1)

-- gauges: segment numbers
unfoldable pub gauges : List ℕ → List ℕ
gauges sheet = tab 0 (gauge_count sheet) (λ j. record_field sheet (gauge_count_at sheet) gauge_section j 0)

-- flow rows: the start step of row r, which counts from 0
unfoldable pub flow_row_start : List ℕ → ℕ → ℕ
flow_row_start sheet r = record_field sheet (flow_row_count_at sheet) flow_section r 0

-- its top flow
unfoldable pub flow_row_top : List ℕ → ℕ → ℕ
flow_row_top sheet r = record_field sheet (flow_row_count_at sheet) flow_section r 1

-- the start steps of all flow rows
unfoldable pub flow_row_starts : List ℕ → List ℕ
flow_row_starts sheet = tab 0 (flow_row_count sheet) (flow_row_start sheet)

-- and their top flows
unfoldable pub flow_row_tops : List ℕ → List ℕ
flow_row_tops sheet = tab 0 (flow_row_count sheet) (flow_row_top sheet)

-- the segments of all reaches together
unfoldable pub total_segments : List Reach → ℕ
total_segments [] = 0
total_segments (r ∷ rs) = r.segments + total_segments rs

-- the river's segments
unfoldable pub segment_count : List ℕ → ℕ
segment_count sheet = total_segments (reaches sheet)

-- a reach with its bands
pub record BandedReach : Type 0 where
  pub reach : Reach
  pub bands : Bands

-- reach i of a sheet
abbrev pub banded_on : List ℕ → (i : ℕ) → BandedReach
banded_on sheet i = record { reach = reach_on sheet i; bands = bands_on sheet i }

-- all of them
unfoldable pub banded_reaches : List ℕ → List BandedReach
banded_reaches sheet = tab 0 (reach_count sheet) (banded_on sheet)

-- "Segments count from 1 at the top": the reach of each segment, from the top down
unfoldable pub along_river : List BandedReach → List BandedReach
along_river [] = []
along_river (r ∷ rs) = replicate r.reach.segments r ++ along_river rs
