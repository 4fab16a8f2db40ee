-- What calls on a river that is not open answer: 18.
use mathlib.Core.Path.{◌≡◌, refl, ap, ◌∙◌}
use mathlib.Core.Bool.{Bool, true, false, not, ◌||◌}
use mathlib.Core.List.{List}
use Prim.Native.Nat.{ℕ, ◌-◌, ◌≤◌}
use Rattle.model.specs.Ranges.{◌to◌, outside, most_rivers}
use Rattle.model.specs.Refusals.{nothing, fails, first}
use Rattle.model.specs.Pool.{Slot, is_open, slot_of, Pool, table_fault, number_fault, pool_tests, pool_search_tests, close_finding}
use Rattle.model.specs.PoolClaim.{NotOpen}
use Rattle.model.proofs.Ranges.{inside}
use Rattle.pool_laws.proofs.Answers.{front_tests, refused-in-front}

-- ---- the number of a call

-- 18 finds a river that is not open, or a number that none has
pub number-shut : (table : List Slot) (number : ℕ) → (1 ≤ number → number ≤ most_rivers → is_open (slot_of table number) ≡ false) → number_fault table number ≡ true
unfolding number_fault
number-shut table number closed = go (outside (1 to most_rivers) number) refl
  where
    go : (t : Bool) → outside (1 to most_rivers) number ≡ t → (outside (1 to most_rivers) number || not (is_open (slot_of table number)) || table_fault table) ≡ true
    go true e = rw e
    go false e = let range = inside (1 to most_rivers) number e in rw (e, closed range.0 range.1)

-- ---- calls on a river that is not open

-- 18 is the first of a pool's tests
shut-fault : (pool : Pool) (number : ℕ) → number_fault pool.table number ≡ true → first (front_tests pool number) ≡ fails 18 nothing
unfolding pool_tests
shut-fault pool number e = rw e

-- each of its calls is refused with 18
pub not-open : (pool : Pool) (number : ℕ) → (1 ≤ number → number ≤ most_rivers → is_open (slot_of pool.table number) ≡ false) → NotOpen pool number
unfolding pool_search_tests pool_tests close_finding
not-open pool number closed =
    let shut = number-shut pool.table number closed in
    record {
      closed = closed;
      calls = λ call. ap (λ x. x.answer) (refused-in-front pool number call (shut-fault pool number shut));
      searches = λ highest limit answer s. s.is ∙ rw shut;
      closes = rw shut;
    }
