-- The highest figures rest on the river's own channel figures alone.
use mathlib.Core.Path.{◌≡◌, sym}
use mathlib.Core.List.{List}
use Prim.Native.Nat.{ℕ, ◌+◌, ◌-◌, ◌*◌, ◌<◌, min}
use native.Mathlib.Omega.{arith}
use lib.ListN.{get_or}
use Rattle.lists.specs.Lists.{tab}
use Rattle.lists.proofs.Below.{highest-cong}
use Rattle.lists.proofs.Tab.{get_or-tab, tab-cong}
use Rattle.model.specs.Highest.{block_count, block_highest, highest_of}

same_block : (n : ℕ) (channel list : List ℕ) → ((i : ℕ) → i < n → get_or channel i 0 ≡ get_or list i 0) → (b : ℕ) → block_highest n channel b ≡ block_highest n list b
unfolding block_highest
same_block n channel list same b =
    highest-cong (λ j. get_or channel (b * 16 + j) 0) (λ j. get_or list (b * 16 + j) 0) (min 16 (n - b * 16)) (λ j h. same (b * 16 + j) (omega arith))

-- so the first n entries do
pub highest-first : (n : ℕ) (channel : List ℕ) → highest_of n channel ≡ highest_of n (tab 0 n (λ i. get_or channel i 0))
highest-first n channel =
    let list = tab 0 n (λ i. get_or channel i 0) in
    tab-cong (block_highest n channel) (block_highest n list) 0 (block_count n)
    (λ b low less. same_block n channel list (λ i h. sym (get_or-tab (λ i. get_or channel i 0) n i 0 h)) b)
