-- 13 of the highest figures, from the length that was compared.
use mathlib.Core.Path.{◌≡◌}
use mathlib.Core.Bool.{Bool, false}
use mathlib.Core.List.{List}
use Prim.Native.Nat.{ℕ, ◌≤◌}
use borrow.Author.Tests.{ltb-false}
use lib.Dec.{ltb}
use lib.ListN.{length}
use Rattle.model.specs.Highest.{block_count, blocks_fault}

module _ (n : ℕ) (highest : List ℕ) where
  -- from the count of blocks
  pub blocks-tested : {count : ℕ} {t : Bool} → count ≡ block_count n → ltb (length highest) count ≡ t → blocks_fault n highest ≡ t
  unfolding blocks_fault
  blocks-tested e h = rw (← e) h

  -- where it is not short, every block has an entry
  pub blocks-long : blocks_fault n highest ≡ false → block_count n ≤ length highest
  unfolding blocks_fault
  blocks-long e = ltb-false _ _ e
