-- Document 01, "The river sheet", with document 02: the range of every field and count, by the edition, and the limits of the calls, each written once.
use Rattle.std.specs.Prelude.{Bool, false, cond, ◌||◌, List, [], ◌∷◌, ℕ, ltb, leb, length}

-- a range: its lowest and its highest value
pub record Range : Type 0 where
  pub low : ℕ
  pub high : ℕ

-- as document 01 writes it: "1 to 3,600"
infix 5 ◌to◌
abbrev pub ◌to◌ : ℕ → ℕ → Range
low to high = record { low = low; high = high }

-- x is outside its range
unfoldable pub outside : Range → ℕ → Bool
outside range x = ltb x range.low || ltb range.high x

-- some field is outside the range at its place
unfoldable pub any_outside : List Range → List ℕ → Bool
any_outside [] fields = false
any_outside (range ∷ ranges) [] = false
any_outside (range ∷ ranges) (field ∷ fields) = outside range field || any_outside ranges fields

-- what sheets have from edition n on, and what stands for it in the editions before
abbrev pub since : {A : Type 0} → (n edition : ℕ) → A → A → A
since n edition x before = cond (leb n edition) x before

-- "Concentrations are 0 to 1,000,000,000 ng/L."
abbrev pub highest : ℕ
highest = 1000000000

-- and their range
abbrev pub concentration : Range
concentration = 0 to highest

-- a flow at the top, in a segment (refusal 10) or per km
abbrev pub flows : Range
flows = 0 to 100000000

-- "channel area A and storage area AS (each 1 to 1,000,000 cm²)"
abbrev pub areas : Range
areas = 1 to 1000000

-- "dispersion D (0 to 1,000,000 cm²/s)"
abbrev pub dispersions : Range
dispersions = 0 to 1000000

-- "The five rates are 0 to 1,000,000,000, in 10⁻⁹ per second."
abbrev pub rates : Range
rates = 0 to 1000000000

-- "Kd (0 to 1,000 millionths of m³/g)"
abbrev pub most_kd : ℕ
most_kd = 1000

-- "steps M (1 to 100,000)": also the highest count of steps (refusal 14)
abbrev pub most_steps : ℕ
most_steps = 100000

-- a river has 1 to 1,024 segments (refusals 7 and 13), and so has a reach
abbrev pub most_segments : ℕ
most_segments = 1024

-- Document 02, 3: "a number from 1 to 8", and "Up to eight rivers"
abbrev pub most_rivers : ℕ
most_rivers = 8

-- "Header: step dt (1 to 3,600 s), segment length dx (10 to 10,000 cm), steps M (1 to 100,000), print interval (1 to M),
-- flow at the top (0 to 100,000,000 mL/s)."
abbrev pub header_ranges : ℕ → List Range
header_ranges M =
    (1 to 3600) ∷
    (10 to 10000) ∷
    (1 to most_steps) ∷
    (1 to M) ∷
    flows ∷
    []

-- a reach's fields, in the sheet's order: sixteen in every edition so far
abbrev pub reach_ranges : (edition : ℕ) → List Range
reach_ranges edition =
    (1 to most_segments) ∷  -- segments
    dispersions ∷  -- dispersion D, cm²/s
    areas ∷  -- channel area A, cm²
    areas ∷  -- storage area AS, cm²
    rates ∷  -- exchange rate ALPHA
    flows ∷  -- lateral inflow qin, mL/s per km
    flows ∷  -- lateral outflow qout, mL/s per km
    concentration ∷  -- inflow concentration CL
    rates ∷  -- decay rate LAMBDA
    rates ∷  -- decay rate in storage LAMBDA2
    rates ∷  -- sorption rate LAMHAT
    rates ∷  -- sorption rate in storage LAMHAT2
    (0 to 1000000) ∷  -- sediment RHO, g/m³
    (0 to most_kd) ∷  -- Kd
    concentration ∷  -- storage background CB
    concentration ∷  -- start figure
    []

-- a section of the sheet: a count, and then that many records of `width` fields
pub record Section : Type 0 where
  pub counts : Range
  pub width : ℕ

-- "Count of reaches (1 to 64), then 16 fields each"
abbrev pub reach_section : (edition : ℕ) → Section
reach_section edition = record { counts = 1 to 64; width = length (reach_ranges edition) }

-- "Count of boundary rows (1 to 256), then start step and concentration."
abbrev pub row_section : Section
row_section = record { counts = 1 to 256; width = 2 }

-- "Count of gauges (1 to 32), then segment numbers"
abbrev pub gauge_section : Section
gauge_section = record { counts = 1 to 32; width = 1 }

-- Document 02, 1: "a count (1 to 64) of flow rows, each a start step and a top flow"
abbrev pub flow_section : Section
flow_section = record { counts = 1 to 64; width = 2 }

-- Document 02, 6: "for each reach a count (0 to 32), then that many bands of these five fields"
abbrev pub band_section : Section
band_section = record { counts = 0 to 32; width = 5 }
