-- Document 02, 5: "Keep the highest channel figure of each sixteen segments beside the lists, true after every start and step." Sixteen
-- segments are a block; a river's last may have fewer.
use Rattle.std.specs.Prelude.{Bool, List, ℕ, ◌+◌, ◌-◌, ◌*◌, ◌/◌, min, ltb, length, get_or}
use Rattle.lists.specs.Lists.{tab, highest_below}

-- the blocks of n segments: "each sixteen segments begun"
abbrev pub block_count : (n : ℕ) → ℕ
block_count n = (n + 15) / 16

-- the block of segment i; both count from 0 here
abbrev pub block_of : (i : ℕ) → ℕ
block_of i = i / 16

-- "the highest channel figure" of block b in a river of n segments
unfoldable pub block_highest : (n : ℕ) → (channel : List ℕ) → (b : ℕ) → ℕ
block_highest n channel b = highest_below (min 16 (n - b * 16)) (λ j. get_or channel (b * 16 + j) 0)

-- those of all its blocks
abbrev pub highest_of : (n : ℕ) → (channel : List ℕ) → List ℕ
highest_of n channel = tab 0 (block_count n) (block_highest n channel)

-- 13. "want under 13 one highest figure for each sixteen segments begun"
unfoldable pub blocks_fault : (n : ℕ) → (highest : List ℕ) → Bool
blocks_fault n highest = ltb (length highest) (block_count n)
