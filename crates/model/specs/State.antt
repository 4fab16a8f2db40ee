-- Document 01, "The sweep", last paragraph: the lists that the calls are lent.
use Rattle.std.specs.Prelude.{List, [], ◌∷◌, ◌++◌, map, ℕ, get_or}
use Rattle.lists.specs.Lists.{tab, over}
use Rattle.model.specs.Sheet.{segment_count}
use Rattle.model.specs.Flow.{course_of}
use Rattle.model.specs.HalfStep.{Ten, ten_of, map_ten, site_at, Numbers, numbers, Segment, loaded_segment}
use Rattle.model.specs.Equations.{Figures, Pair}

-- a set: the ten lists of half-step numbers, which document 02, 1 calls a flow's set
abbrev pub NumberSet : Type 0
NumberSet = Ten (List ℕ)

-- its ten lists, for the test of their lengths
abbrev pub set_lists : NumberSet → List (List ℕ)
set_lists x = x.e ∷ x.g ∷ x.l ∷ x.a ∷ x.b ∷ x.k ∷ x.ks ∷ x.h ∷ x.m ∷ x.s ∷ []

-- entry i of each list
unfoldable pub numbers_at : NumberSet → ℕ → Numbers
numbers_at x i = map_ten (λ list. get_or list i 0) x

-- the first n entries, a record for each segment
abbrev pub numbers_of : ℕ → NumberSet → List Numbers
numbers_of n x = tab 0 n (numbers_at x)

-- the fourteen lists of a loading: "each segment's half-step numbers, CL, CB, Kd and start figure in lists"
pub record Columns : Type 0 where
  pub numbers : NumberSet
  pub cl : List ℕ
  pub cb : List ℕ
  pub kd : List ℕ
  pub start : List ℕ

-- the fourteen lists, for the test of their lengths
abbrev pub column_lists : Columns → List (List ℕ)
column_lists x = set_lists x.numbers ++ x.cl ∷ x.cb ∷ x.kd ∷ x.start ∷ []

-- entry i of each list
unfoldable pub segment_at : Columns → ℕ → Segment
segment_at x i = record {
  numbers = numbers_at x.numbers i;
  cl = get_or x.cl i 0;
  cb = get_or x.cb i 0;
  kd = get_or x.kd i 0;
  start = get_or x.start i 0;
}

-- the first n entries, a record for each segment
abbrev pub segments_of : ℕ → Columns → List Segment
segments_of n x = tab 0 n (segment_at x)

-- "A step is lent both sets": segment i, with its old numbers from one set and its new ones from the fourteen lists
unfoldable pub pair_at : (old : NumberSet) → (new : Columns) → ℕ → Pair
pair_at old new i = record { old = numbers_at old i; new = numbers_at new.numbers i; cl = get_or new.cl i 0; cb = get_or new.cb i 0 }

-- the first n
abbrev pub pairs_of : ℕ → (old : NumberSet) → (new : Columns) → List Pair
pairs_of n old new = tab 0 n (pair_at old new)

-- the lists with these segments over their first entries
unfoldable pub write_segments : List Segment → Columns → Columns
write_segments segments before = record {
  numbers = ten_of (λ part. over (map (λ x. part _ x.numbers) segments) (part _ before.numbers));
  cl = over (map (λ x. x.cl) segments) before.cl;
  cb = over (map (λ x. x.cb) segments) before.cb;
  kd = over (map (λ x. x.kd) segments) before.kd;
  start = over (map (λ x. x.start) segments) before.start;
}

-- the segments of an accepted sheet for flow r: "A loading gives each segment's half-step numbers, CL, CB, Kd and start figure in lists"
abbrev pub loaded_segments : List ℕ → (r : ℕ) → List Segment
loaded_segments sheet r = tab 0 (segment_count sheet) (loaded_segment (course_of sheet r))

-- the numbers alone: flow r's set
abbrev pub loaded_numbers : List ℕ → (r : ℕ) → List Numbers
loaded_numbers sheet r = tab 0 (segment_count sheet) (λ i. numbers (site_at (course_of sheet r) i))

-- "The state is three lists of 32-bit figures, one per segment, with U and the count of steps done."
pub record State : Type 0 where
  pub channel : List ℕ
  pub storage : List ℕ
  pub sediment : List ℕ
  pub upstream : ℕ
  pub steps : ℕ

-- its three lists, for the test of their lengths
abbrev pub state_lists : State → List (List ℕ)
state_lists x = x.channel ∷ x.storage ∷ x.sediment ∷ []

-- entry i of each list
unfoldable pub figures_at : State → ℕ → Figures
figures_at x i = record { c = get_or x.channel i 0; z = get_or x.storage i 0; w = get_or x.sediment i 0 }

-- the first n entries, a record for each segment
abbrev pub figures_of : ℕ → State → List Figures
figures_of n x = tab 0 n (figures_at x)

-- the state with these figures over the lists' first entries, and with this U and count
unfoldable pub write_figures : List Figures → (upstream steps : ℕ) → State → State
write_figures figures upstream steps before = record {
  channel = over (map (λ x. x.c) figures) before.channel;
  storage = over (map (λ x. x.z) figures) before.storage;
  sediment = over (map (λ x. x.w) figures) before.sediment;
  upstream = upstream;
  steps = steps;
}
