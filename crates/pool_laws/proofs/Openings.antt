-- The tests of an opening, and what an accepted one has passed.
use mathlib.Core.Path.{◌≡◌}
use mathlib.Core.Bool.{false, ◌||◌}
use mathlib.Core.List.{List, [], ◌∷◌, ◌++◌}
use Prim.Native.Nat.{ℕ}
use Rattle.lists.proofs.Shorter.{neither}
use Rattle.model.specs.Ranges.{outside, concentration}
use Rattle.model.specs.Sheet.{segment_count}
use Rattle.model.specs.State.{Columns}
use Rattle.model.specs.Refusals.{Finding, passes, test, first}
use Rattle.model.specs.Load.{river_tests, list_tests}
use Rattle.model.specs.Highest.{blocks_fault}
use Rattle.model.specs.Pool.{Slot, Pool, shared_lists, room_fault, table_fault, shared_fault, open_tests}
use Rattle.model.proofs.Refusals.{first-both, all_pass, test-clear}

-- 17 and 18
abbrev pub new_tests : List Slot → (number n : ℕ) → List Finding
new_tests table number n = test 17 (room_fault table number n) ∷ test 18 (table_fault table) ∷ []

-- the tests of an opening up to these
abbrev pub up_to18 : List Slot → (number : ℕ) → (sheet : List ℕ) → List Finding
up_to18 table number sheet = river_tests sheet ++ new_tests table number (segment_count sheet)

-- and those behind its 13
abbrev pub last_tests : Pool → (n : ℕ) → (highest : List ℕ) → (u : ℕ) → List Finding
last_tests pool n highest u = test 13 (shared_fault (shared_lists pool) || blocks_fault n highest) ∷ test 14 (outside concentration u) ∷ []

-- each of its tests
pub record Passed (pool : Pool) (number : ℕ) (sheet : List ℕ) (r records : ℕ) (columns : Columns) (highest : List ℕ) (u : ℕ) : Type 0 where
  pub front : first (river_tests sheet) ≡ passes
  pub room : room_fault pool.table number (segment_count sheet) ≡ false
  pub table : table_fault pool.table ≡ false
  pub lists : first (list_tests sheet r records columns) ≡ passes
  pub shared : shared_fault (shared_lists pool) ≡ false
  pub blocks : blocks_fault (segment_count sheet) highest ≡ false
  pub upstream : outside concentration u ≡ false

-- all of them together
pub opening-passed : (pool : Pool) (number : ℕ) (sheet : List ℕ) (r records : ℕ) (columns : Columns) (highest : List ℕ) (u : ℕ) →
    first (open_tests sheet r records columns pool number highest u) ≡ passes → Passed pool number sheet r records columns highest u
unfolding open_tests
opening-passed pool number sheet r records columns highest u e =
    let tests = list_tests sheet r records columns in
    let new = new_tests pool.table number (segment_count sheet) in
    let here = up_to18 pool.table number sheet in
    let last = last_tests pool (segment_count sheet) highest u in
    let a = first-both (here ++ tests) last e in
    let b = first-both here tests a.0 in
    let c = first-both (river_tests sheet) new b.0 in
    let two = all_pass new c.1 in
    let behind = all_pass last a.1 in
    let long = neither (shared_fault (shared_lists pool)) _ (test-clear 13 _ behind.0) in
    record {
      front = c.0;
      room = test-clear 17 _ two.0;
      table = test-clear 18 _ two.1.0;
      lists = b.1;
      shared = long.0;
      blocks = long.1;
      upstream = test-clear 14 _ behind.1.0;
    }
