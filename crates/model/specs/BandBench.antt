-- Document 02, 6 in figures: sheets with bands. A line has what the definitions give and what was worked out apart from them; proofs/BandBench shows of
-- the whole table at once that they are the same.
use Rattle.std.specs.Prelude.{List, [], ◌∷◌, ◌++◌, map, ℕ, get_or, replicate}
use Rattle.model.specs.Sheet.{otr2, otr3}
use Rattle.model.specs.State.{Columns}
use Rattle.model.specs.Load.{load_answer, load_columns}
use Rattle.model.specs.Runs.{sheet_pair}
use Rattle.model.specs.Bench.{all_bytes, zeros, Line, line}
use Rattle.model.specs.FlowBench.{refused_at, loading_of}

-- the fields of a reach behind its segments: D, A and AS, which bands replace, ALPHA 0.1 per second, and lateral inflow
unfoldable pub fields_with : (A : ℕ) → List ℕ
fields_with A = 70 ∷ A ∷ 120 ∷ 100000000 ∷ 2000000 ∷ replicate 10 0

-- behind a mark: dt 1, dx 10, M 4, a flow at the top, reaches behind their count, one boundary row, gauge 1, and then flow rows and bands
unfoldable pub river : (Q : ℕ) → (reaches more : List ℕ) → List ℕ
river Q reaches more = all_bytes (1 ∷ 10 ∷ 4 ∷ 1 ∷ Q ∷ reaches ++ 1 ∷ 0 ∷ 0 ∷ 1 ∷ 1 ∷ more)

-- one reach of two segments, with A 300
unfoldable pub one_reach : List ℕ
one_reach = 1 ∷ 2 ∷ fields_with 300

-- below 300 mL/s, and below 500 from step 1 on: with their inflow the segments have 400 and 600 mL/s, and then 600 and 800
unfoldable pub rising : List ℕ
rising = 1 ∷ 1 ∷ 500 ∷ []

-- up to 499 mL/s, and from 500 on
unfoldable pub low : List ℕ
low = 0 ∷ 499 ∷ 100 ∷ 50 ∷ 100 ∷ []

unfoldable pub high : List ℕ
high = 500 ∷ 100000000 ∷ 200 ∷ 60 ∷ 150 ∷ []

-- that river with these bands behind their count
unfoldable pub valley : (bands : List ℕ) → List ℕ
valley bands = otr3 ++ river 300 one_reach (rising ++ bands)

-- the river with the two bands
unfoldable pub widening : List ℕ
widening = valley (2 ∷ low ++ high)

-- two reaches of one segment each, with bands of each behind their count
unfoldable pub two_reaches : (bands : List ℕ) → List ℕ
two_reaches bands = otr3 ++ river 300 (2 ∷ 1 ∷ fields_with 300 ++ 1 ∷ fields_with 300) (rising ++ bands)

-- what a loading of a sheet answers that has two reaches
unfoldable pub loading_of_two : List ℕ → List ℕ
loading_of_two sheet = refused_at (load_answer sheet 0 2 (zeros 2))

-- of flow r: e, g, l and b, one segment behind the other
abbrev pub shown : Columns → List ℕ
shown x = x.numbers.e ++ x.numbers.g ++ x.numbers.l ++ x.numbers.b

unfoldable pub numbers_of_flow : List ℕ → (r : ℕ) → List ℕ
numbers_of_flow sheet r = shown (load_columns sheet r 1 (zeros 2))

-- the first segment's l with the flow at the top
unfoldable pub first_l : List ℕ → ℕ
first_l sheet = get_or (load_columns sheet 0 1 (zeros 2)).numbers.l 0 0

-- what a loading answers with these bands
unfoldable pub with_bands : List ℕ → List ℕ
with_bands bands = loading_of (valley bands) 0

-- the table
unfoldable pub band_bench : List Line
band_bench =
    -- a segment in each band, "the band that holds its own flow": e (4,000 + 5,000 + 5,000)/40,000 and (6,000 + 5,000 + 12,000)/80,000 of one whole,
    -- g (5,000 + 12,000 − 4,000)/40,000 and 0, l 1/10 and 1/20, b 1/20 and 1/15
    line 1 (numbers_of_flow widening 0) (375809638 ∷ 308700774 ∷ 348966093 ∷ 0 ∷ 107374182 ∷ 53687091 ∷ 53687091 ∷ 71582788 ∷ []) ∷
    -- "and so may change band at a flow row": both in the second band
    line 2 (numbers_of_flow widening 1) (402653184 ∷ 429496730 ∷ 241591910 ∷ 0 ∷ 53687091 ∷ 53687091 ∷ 71582788 ∷ 71582788 ∷ []) ∷
    -- "on its own side of the step": l of the first segment in the pairs of steps 1 and 2, old and new
    line 3 (map (λ n. (sheet_pair widening n 0).old.l) (0 ∷ 1 ∷ [])) (107374182 ∷ 53687091 ∷ []) ∷
    line 4 (map (λ n. (sheet_pair widening n 0).new.l) (0 ∷ 1 ∷ [])) (53687091 ∷ 53687091 ∷ []) ∷
    -- "their order on the sheet is free"
    line 5 (numbers_of_flow (valley (2 ∷ high ++ low)) 0) (numbers_of_flow widening 0) ∷
    -- "A count of 0 keeps the reach's own A, D and AS", as a band does that has them, and as the sheet without bands has them
    line 6 (numbers_of_flow (valley (0 ∷ [])) 0) (411601033 ∷ 429496730 ∷ 340018244 ∷ 0 ∷ 35791394 ∷ 35791394 ∷ 134217728 ∷ 134217728 ∷ []) ∷
    line 7 (numbers_of_flow (valley (1 ∷ 0 ∷ 100000000 ∷ 300 ∷ 70 ∷ 120 ∷ [])) 0) (numbers_of_flow (valley (0 ∷ [])) 0) ∷
    line 8 (numbers_of_flow (otr2 ++ river 300 one_reach rising) 0) (numbers_of_flow (valley (0 ∷ [])) 0) ∷
    -- a reach without bands above one with them: AD of the neighbour by the neighbour's own
    line 9 (shown (load_columns (two_reaches (0 ∷ 2 ∷ low ++ high)) 0 2 (zeros 2)))
    (411601033 ∷ 523449139 ∷ 259487607 ∷ 0 ∷ 35791394 ∷ 53687091 ∷ 134217728 ∷ 71582788 ∷ []) ∷
    -- 2, 3 and 4: no section, a band cut short, a count of 33, a field too many
    line 10 (with_bands [] ++ with_bands (2 ∷ low ++ 500 ∷ 100000000 ∷ 200 ∷ 60 ∷ [])) (2 ∷ 0 ∷ 2 ∷ 0 ∷ []) ∷
    line 11 (with_bands (33 ∷ []) ++ with_bands (0 ∷ 0 ∷ [])) (3 ∷ 0 ∷ 4 ∷ 0 ∷ []) ∷
    -- 19: overlapping by one flow, and a gap of one; from 1 on, and up to 99,999,999
    line 12 (with_bands (2 ∷ 0 ∷ 500 ∷ 100 ∷ 50 ∷ 100 ∷ high) ++ with_bands (2 ∷ 0 ∷ 498 ∷ 100 ∷ 50 ∷ 100 ∷ high)) (19 ∷ 1 ∷ 19 ∷ 1 ∷ []) ∷
    line 13 (with_bands (2 ∷ 1 ∷ 499 ∷ 100 ∷ 50 ∷ 100 ∷ high) ++ with_bands (2 ∷ low ++ 500 ∷ 99999999 ∷ 200 ∷ 60 ∷ 150 ∷ [])) (19 ∷ 1 ∷ 19 ∷ 1 ∷ []) ∷
    -- a highest flow of 100,000,001, an A of 0, a D above its range, an AS of 0; a band reversed; a band twice
    line 14 (with_bands (2 ∷ low ++ 500 ∷ 100000001 ∷ 200 ∷ 60 ∷ 150 ∷ []) ++ with_bands (2 ∷ 0 ∷ 499 ∷ 0 ∷ 50 ∷ 100 ∷ high)) (19 ∷ 1 ∷ 19 ∷ 1 ∷ []) ∷
    line 15 (with_bands (2 ∷ 0 ∷ 499 ∷ 100 ∷ 1000001 ∷ 100 ∷ high) ++ with_bands (2 ∷ 0 ∷ 499 ∷ 100 ∷ 50 ∷ 0 ∷ high)) (19 ∷ 1 ∷ 19 ∷ 1 ∷ []) ∷
    line 16 (with_bands (3 ∷ low ++ high ++ 3 ∷ 2 ∷ 1 ∷ 1 ∷ 1 ∷ []) ++ with_bands (3 ∷ high ++ low ++ high)) (19 ∷ 1 ∷ 19 ∷ 1 ∷ []) ∷
    -- three bands in any order; "the lowest reach at fault": of two reaches the second, and both, the first for an overlap and the second for its range
    line 17 (with_bands (3 ∷ 200 ∷ 499 ∷ 100 ∷ 50 ∷ 100 ∷ high ++ 0 ∷ 199 ∷ 100 ∷ 50 ∷ 100 ∷ [])) (0 ∷ 0 ∷ []) ∷
    line 18 (loading_of_two (two_reaches (0 ∷ 1 ∷ low))) (19 ∷ 2 ∷ []) ∷
    line 19 (loading_of_two (two_reaches (2 ∷ low ++ 400 ∷ 100000000 ∷ 1 ∷ 1 ∷ 1 ∷ 1 ∷ 0 ∷ 100000000 ∷ 0 ∷ 0 ∷ 0 ∷ []))) (19 ∷ 1 ∷ []) ∷
    -- "19 .. after 16", and before 10; 6 looks at the reach's own A all the same; the band's A and D count for 11
    line 20 (loading_of (otr3 ++ river 300 one_reach (1 ∷ 5 ∷ 500 ∷ 1 ∷ low)) 0) (16 ∷ 1 ∷ []) ∷
    line 21 (loading_of (otr3 ++ river 100000000 one_reach (rising ++ 1 ∷ low)) 0) (19 ∷ 1 ∷ []) ∷
    line 22 (loading_of (otr3 ++ river 300 (1 ∷ 2 ∷ fields_with 0) (rising ++ 2 ∷ low ++ high)) 0) (6 ∷ 1 ∷ []) ∷
    line 23 (with_bands (1 ∷ 0 ∷ 100000000 ∷ 1 ∷ 0 ∷ 1 ∷ [])) (11 ∷ 1 ∷ []) ∷
    -- at the ends of the bands: the first segment with 499 and with 500 mL/s, its l
    line 24 (map (λ Q. first_l (otr3 ++ river Q one_reach (rising ++ 2 ∷ low ++ high))) (399 ∷ 400 ∷ [])) (107374182 ∷ 53687091 ∷ []) ∷
    []
