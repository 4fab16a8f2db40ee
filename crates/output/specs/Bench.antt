-- The document's listing in bytes, and a sheet whose listing rests on rows, gauges, Kd and interval.
use Rattle.std.specs.Prelude.{List, [], ◌∷◌, ◌++◌, ℕ, replicate}
use Rattle.model.specs.Sheet.{otr1}
use Rattle.model.specs.Bench.{all_bytes}

-- the document's listing
unfoldable pub documented : List ℕ
documented =
    -- `step segment channel storage sediment`
    115 ∷ 116 ∷ 101 ∷ 112 ∷ 32 ∷ 115 ∷ 101 ∷ 103 ∷ 109 ∷ 101 ∷ 110 ∷ 116 ∷ 32 ∷ 99 ∷ 104 ∷ 97 ∷ 110 ∷ 110 ∷ 101 ∷ 108 ∷
    32 ∷ 115 ∷ 116 ∷ 111 ∷ 114 ∷ 97 ∷ 103 ∷ 101 ∷ 32 ∷ 115 ∷ 101 ∷ 100 ∷ 105 ∷ 109 ∷ 101 ∷ 110 ∷ 116 ∷ 10 ∷
    -- `1 1 2000 400 1334`
    49 ∷ 32 ∷ 49 ∷ 32 ∷ 50 ∷ 48 ∷ 48 ∷ 48 ∷ 32 ∷ 52 ∷ 48 ∷ 48 ∷ 32 ∷ 49 ∷ 51 ∷ 51 ∷ 52 ∷ 10 ∷
    -- `2 1 2667 533 3556`
    50 ∷ 32 ∷ 49 ∷ 32 ∷ 50 ∷ 54 ∷ 54 ∷ 55 ∷ 32 ∷ 53 ∷ 51 ∷ 51 ∷ 32 ∷ 51 ∷ 53 ∷ 53 ∷ 54 ∷ 10 ∷
    -- `done 2`
    100 ∷ 111 ∷ 110 ∷ 101 ∷ 32 ∷ 50 ∷ 10 ∷ []

-- the one reach of the listing's river, with this Kd and start figure
unfoldable pub gauged_reach : (Kd start : ℕ) → List ℕ
gauged_reach Kd start = 1 ∷ 50 ∷ 100 ∷ 100 ∷ replicate 6 0 ++ 500000000 ∷ 500000000 ∷ 0 ∷ Kd ∷ 600 ∷ start ∷ []

-- two such reaches, M 5, interval 2, rows (0, 3,000) and (3, 0), gauges 1 and 2
unfoldable pub two_gauges : List ℕ
two_gauges =
    otr1 ++ all_bytes
    (2 ∷ 10 ∷ 5 ∷ 2 ∷ 0 ∷
    2 ∷ (gauged_reach 2 0 ++ gauged_reach 3 100 ++
    2 ∷ 0 ∷ 3000 ∷ 3 ∷ 0 ∷
    2 ∷ 1 ∷ 2 ∷ []))
