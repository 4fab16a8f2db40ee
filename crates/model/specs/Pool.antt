-- Document 02, 3: "Up to eight rivers share the three state lists, of 1,024 segments in all, their other lists lent as before". The shared
-- lists and the table of the rivers are a pool; a river works on its stretch of the shared lists.
use Rattle.std.specs.Prelude.{Bool, not, cond, ◌&&◌, ◌||◌, List, [], ◌∷◌, ◌++◌, map, ℕ, zero, suc, ◌+◌, ◌-◌, min, max, eqb, ltb, leb, length, get_or, set}
use Rattle.std.proofs.Math.Option.{Option}
use Rattle.lists.specs.Lists.{over, any_shorter, stretch, splice, any_below, sum_below}
use Rattle.model.specs.Ranges.{◌to◌, outside, concentration, most_segments, most_rivers}
use Rattle.model.specs.Sheet.{Reach, segment_count}
use Rattle.model.specs.State.{Columns, State, loaded_segments}
use Rattle.model.specs.Refusals.{Outcome, accepted, refused, Finding, passes, fails, test, outcome_of, left_after}
use Rattle.model.specs.Load.{river_tests, list_tests, Loaded, loaded, columns_after, records_after}
use Rattle.model.specs.Highest.{highest_of, blocks_fault}
use Rattle.model.specs.Search.{search_tests, Searches}
use Rattle.model.specs.Calls.{start_figures, Call, call_tests, Values, call_values, call_left, call_lent, Result, result_of}

-- ---- the table and the pool

-- what the table has of a number: whether a river is open under it (0 where none is), the first of the river's segments among those of the
-- shared lists, which count from 0, how many it has, and of its state U and the count of steps done
pub record Slot : Type 0 where
  pub opened : ℕ
  pub first : ℕ
  pub segments : ℕ
  pub upstream : ℕ
  pub steps : ℕ

-- a river is open
abbrev pub is_open : Slot → Bool
is_open x = not (eqb x.opened 0)

-- the segment behind its last
abbrev pub end_of : Slot → ℕ
end_of x = x.first + x.segments

-- no river
abbrev pub vacant : Slot
vacant = record { opened = 0; first = 0; segments = 0; upstream = 0; steps = 0 }

-- a table has eight slots; the one at place i, which counts from 0
abbrev pub slot_at : List Slot → ℕ → Slot
slot_at table i = get_or table i vacant

-- "gives it a number from 1 to 8": the slot of a number
abbrev pub slot_of : List Slot → (number : ℕ) → Slot
slot_of table number = slot_at table (number - 1)

-- the table and the three shared lists
pub record Pool : Type 0 where
  pub table : List Slot
  pub channel : List ℕ
  pub storage : List ℕ
  pub sediment : List ℕ

-- the shared lists, for the test of their lengths
abbrev pub shared_lists : Pool → List (List ℕ)
shared_lists pool = pool.channel ∷ pool.storage ∷ pool.sediment ∷ []

-- the state of the river in this slot: "Each river works on its own stretch of the shared lists"
abbrev pub state_in : Pool → Slot → State
state_in pool x = record {
  channel = stretch x.first x.segments pool.channel;
  storage = stretch x.first x.segments pool.storage;
  sediment = stretch x.first x.segments pool.sediment;
  upstream = x.upstream;
  steps = x.steps;
}

-- that of a number
abbrev pub state_of : Pool → (number : ℕ) → State
state_of pool number = state_in pool (slot_of pool.table number)

-- the slot with another U and count of steps done
abbrev pub slot_with : Slot → (upstream steps : ℕ) → Slot
slot_with x upstream steps =
    record { opened = x.opened; first = x.first; segments = x.segments; upstream = upstream; steps = steps }

-- the pool with this state of the number's river; what is not the river's is as it was
abbrev pub with_state : Pool → (number : ℕ) → State → Pool
with_state pool number state =
    let x = slot_of pool.table number in
    record {
      table = set pool.table (number - 1) (slot_with x state.upstream state.steps);
      channel = splice x.first x.segments state.channel pool.channel;
      storage = splice x.first x.segments state.storage pool.storage;
      sediment = splice x.first x.segments state.sediment pool.sediment;
    }

-- ---- 17 and 18

-- the segments of the open rivers together
unfoldable pub open_segments : List Slot → ℕ
open_segments table = sum_below most_rivers (λ i. cond (is_open (slot_at table i)) (slot_at table i).segments 0)

-- 17. "the number is outside 1 to 8 or already open, or the new river's segments and those of the open ones exceed 1,024 together"
unfoldable pub room_fault : List Slot → (number n : ℕ) → Bool
room_fault table number n =
    outside (1 to most_rivers) number || is_open (slot_of table number) || ltb most_segments (n + open_segments table)

-- an open river passes segment 1,024; so does one of no segments that begins behind it
abbrev pub passes_end : Slot → Bool
passes_end x = is_open x && ltb most_segments (end_of x)

-- two open rivers overlap: a segment is in both
abbrev pub overlap : Slot → Slot → Bool
overlap x y = is_open x && is_open y && ltb (max x.first y.first) (min (end_of x) (end_of y))

-- 18. "in the table handed in open rivers overlap or pass segment 1,024"
unfoldable pub table_fault : List Slot → Bool
table_fault table =
    any_below most_rivers (λ i. passes_end (slot_at table i) || any_below i (λ j. overlap (slot_at table i) (slot_at table j)))

-- 18. "the named river is not open, or in the table handed in" that
unfoldable pub number_fault : List Slot → (number : ℕ) → Bool
number_fault table number = outside (1 to most_rivers) number || not (is_open (slot_of table number)) || table_fault table

-- 13. "13 wants 1,024 entries of each shared list" that is lent
unfoldable pub shared_fault : (shared : List (List ℕ)) → Bool
shared_fault shared = any_shorter most_segments shared

-- ---- start, step, report and search: document 01's call on the river's stretch, behind two tests

-- 18 "before 13", and 13 of the shared lists
unfoldable pub pool_tests : (table : List Slot) → (shared : List (List ℕ)) → (number : ℕ) → List Finding
pool_tests table shared number = test 18 (number_fault table number) ∷ test 13 (shared_fault shared) ∷ []

-- the result of a start, a step or a report: an accepted one puts the state that it leaves in its river's place, a report the one that it found, so that
-- the pool is as it was (proofs/Calls). The highest figures are a list of the river's own, whose blocks count from its own first segment.
unfoldable pub pool_result : Pool → (number : ℕ) → (call : Call) → Result Pool (Values call)
pool_result pool number call =
    let n = (slot_of pool.table number).segments in
    let state = state_of pool number in
    let left = call_left n state call in
    result_of (pool_tests pool.table (shared_lists pool) number ++ call_tests n state call) (call_values state call) (call_lent pool call)
    (record { state = with_state pool number left.state; highest = left.highest; working = left.working })

-- a search is lent one shared list, that of the channel figures: "in the hut 18 before it"
unfoldable pub pool_search_tests : (table : List Slot) → (channel : List ℕ) → (number : ℕ) → (highest : List ℕ) → List Finding
pool_search_tests table channel number highest =
    let x = slot_of table number in
    pool_tests table (channel ∷ []) number ++ search_tests x.segments (stretch x.first x.segments channel) highest

-- an answer of it
abbrev pub PoolSearchAnswer : (table : List Slot) → (channel : List ℕ) → (number : ℕ) → (highest : List ℕ) → (limit : ℕ) → Outcome (Option ℕ) → Type 0
PoolSearchAnswer table channel number highest limit answer =
    let x = slot_of table number in
    Searches (pool_search_tests table channel number highest) x.segments (stretch x.first x.segments channel) highest limit answer

-- ---- a closing: "a closing 18 alone"; it is lent the table and no list

-- what it answers
unfoldable pub close_finding : List Slot → (number : ℕ) → Finding
close_finding table number = test 18 (number_fault table number)

-- the slot with no river open; its other figures are as they were
abbrev pub closed_slot : Slot → Slot
closed_slot x = record { opened = 0; first = x.first; segments = x.segments; upstream = x.upstream; steps = x.steps }

-- the table after this answer
abbrev pub table_after_close : Finding → List Slot → (number : ℕ) → List Slot
table_after_close passes table number = set table (number - 1) (closed_slot (slot_of table number))
table_after_close (fails refusal place) table number = table

-- and after its own
unfoldable pub closed_table : List Slot → (number : ℕ) → List Slot
closed_table table number = table_after_close (close_finding table number) table number

-- ---- an opening: "whoever opens one gives it a number from 1 to 8 and has it loaded and started in one call"

-- 1 to 12 as in a loading, 17 "after 12", 18 "an opening tests only the table", 13 as in a loading, of the shared lists and, since it starts
-- the river, of the highest figures, and 14 of "U at step 0": of what a start's 14 looks at in the lists just loaded, the sums have passed 12,
-- Kd and the concentrations 6, and the last g is 0
unfoldable pub open_tests : List ℕ → (r records : ℕ) → Columns → Pool → (number : ℕ) → (highest : List ℕ) → (u : ℕ) → List Finding
open_tests sheet r records columns pool number highest u =
    river_tests sheet ++
    (test 17 (room_fault pool.table number (segment_count sheet)) ∷ test 18 (table_fault pool.table) ∷ []) ++
    list_tests sheet r records columns ++
    (test 13 (shared_fault (shared_lists pool) || blocks_fault (segment_count sheet) highest) ∷ test 14 (outside concentration u) ∷ [])

-- the answer is a loading's
unfoldable pub open_answer : List ℕ → (r records : ℕ) → Columns → Pool → (number : ℕ) → (highest : List ℕ) → (u : ℕ) → Outcome Loaded
open_answer sheet r records columns pool number highest u = outcome_of (open_tests sheet r records columns pool number highest u) (loaded sheet)

-- the fourteen lists afterwards, as after a loading with this answer
unfoldable pub open_columns : List ℕ → (r records : ℕ) → Columns → Pool → (number : ℕ) → (highest : List ℕ) → (u : ℕ) → Columns
open_columns sheet r records columns pool number highest u =
    columns_after (open_answer sheet r records columns pool number highest u) sheet r columns

-- and the list of reach records
unfoldable pub open_records : List ℕ → (r : ℕ) → List Reach → Columns → Pool → (number : ℕ) → (highest : List ℕ) → (u : ℕ) → List Reach
open_records sheet r before columns pool number highest u =
    records_after (open_answer sheet r (length before) columns pool number highest u) sheet before

-- and the highest figures: those of the start figures
unfoldable pub open_highest : List ℕ → (r records : ℕ) → Columns → Pool → (number : ℕ) → (highest : List ℕ) → (u : ℕ) → List ℕ
open_highest sheet r records columns pool number highest u =
    left_after (open_answer sheet r records columns pool number highest u) highest
    (over (highest_of (segment_count sheet) (map (λ f. f.c) (map start_figures (loaded_segments sheet r)))) highest)

-- "a closed river's segments are used again for any river that fits their number, wherever they lie": an accepted opening moves the open
-- rivers' segments to the front, in their order, and the new river's stand behind them.

-- segment s of the shared lists is the slot's
abbrev pub holds : Slot → ℕ → Bool
holds x s = is_open x && leb x.first s && ltb s (end_of x)

-- it is an open river's
unfoldable pub covered : List Slot → ℕ → Bool
covered table s = any_below most_rivers (λ i. holds (slot_at table i) s)

-- how many of the first s segments are
unfoldable pub covered_below : List Slot → (s : ℕ) → ℕ
covered_below table zero = 0
covered_below table (suc s) = cond (covered table s) (suc (covered_below table s)) (covered_below table s)

-- their entries in a list, in their order
unfoldable pub kept : List Slot → (s : ℕ) → List ℕ → List ℕ
kept table zero list = []
kept table (suc s) list = cond (covered table s) (kept table s list ++ (get_or list s 0 ∷ [])) (kept table s list)

-- a shared list afterwards: the open rivers' entries, the new river's, and behind them what was there
unfoldable pub packed : List Slot → (new list : List ℕ) → List ℕ
packed table new list = over (kept table most_segments list ++ new) list

-- an open river's slot: its first segment moves to the front by as many segments as stand before it and are no open river's
abbrev pub moved : List Slot → Slot → Slot
moved table x =
    let first = covered_below table x.first in
    cond (is_open x) (record { opened = x.opened; first = first; segments = x.segments; upstream = x.upstream; steps = x.steps }) x

-- the new river's slot
abbrev pub new_slot : List Slot → (n u : ℕ) → Slot
new_slot table n u = record { opened = 1; first = covered_below table most_segments; segments = n; upstream = u; steps = 0 }

-- the pool after an answer to an opening
abbrev pub pool_after_open : Outcome Loaded → List ℕ → (r : ℕ) → Pool → (number u : ℕ) → Pool
pool_after_open (accepted v) sheet r pool number u =
    let figures = map start_figures (loaded_segments sheet r) in
    record {
      table = set (map (moved pool.table) pool.table) (number - 1) (new_slot pool.table v.segments u);
      channel = packed pool.table (map (λ f. f.c) figures) pool.channel;
      storage = packed pool.table (map (λ f. f.z) figures) pool.storage;
      sediment = packed pool.table (map (λ f. f.w) figures) pool.sediment;
    }
pool_after_open (refused refusal place) sheet r pool number u = pool

-- and after its own
unfoldable pub pool_open : List ℕ → (r records : ℕ) → Columns → Pool → (number : ℕ) → (highest : List ℕ) → (u : ℕ) → Pool
pool_open sheet r records columns pool number highest u =
    pool_after_open (open_answer sheet r records columns pool number highest u) sheet r pool number u
