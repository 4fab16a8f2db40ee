-- What the tests of a forecast behind the sheet's say where they pass.
use mathlib.Core.Path.{◌≡◌, refl}
use mathlib.Core.Bool.{Bool, true, false, not, ◌||◌, true≢false}
use mathlib.Core.List.{List, [], ◌∷◌, ◌++◌}
use Prim.Native.Nat.{ℕ, ◌+◌, ◌*◌, ◌<◌, ◌≤◌}
use native.Mathlib.Omega.{arith}
use borrow.Author.Tests.{ltb-false, eqb-true}
use lib.Dec.{eqb, ltb}
use lib.ListN.{length, get_or}
use Rattle.lists.specs.Lists.{any_shorter, any_below}
use Rattle.lists.proofs.Below.{any_some}
use Rattle.lists.proofs.Shorter.{neither, shorter-both}
use Rattle.model.specs.Ranges.{◌to◌, outside, most_segments}
use Rattle.model.specs.Sheet.{steps_m, gauge_count, gauges, segment_count}
use Rattle.model.specs.State.{state_lists, figures_at}
use Rattle.model.specs.Refusals.{segment, passes, first}
use Rattle.model.specs.Load.{river_tests}
use Rattle.model.specs.Highest.{blocks_fault}
use Rattle.model.specs.Calls.{river_fault, figure_fault, held_fault}
use Rattle.forecast_model.specs.Forecast.{Question, Live, Room, side_lists, forecast_fault, ahead_tests}
use Rattle.model.proofs.Refusals.{all_pass, test-clear, each-clear}
use Rattle.own_river_laws.proofs.Sheets.{gauge-first, gauge-last}

-- a test that is turned round
turned : (a : Bool) → not a ≡ false → a ≡ true
turned true e = refl
turned false e = absurd (true≢false e)

-- a test of five parts that finds nothing
none-of-five : (a b c d e : Bool) → (a || b || c || d || e) ≡ false → (a ≡ false) × (b ≡ false) × (c ≡ false) × (d ≡ false) × (e ≡ false)
none-of-five true b c d e q = absurd (true≢false q)
none-of-five false true c d e q = absurd (true≢false q)
none-of-five false false true d e q = absurd (true≢false q)
none-of-five false false false true e q = absurd (true≢false q)
none-of-five false false false false e q = (refl, refl, refl, refl, q)

pub record Passed (sheet : List ℕ) (live : Live) (room : Room) (asked : Question) : Type 0 where
  -- 13
  pub range : outside (1 to most_segments) live.n ≡ false
  pub live_long : any_shorter live.n (state_lists live.state) ≡ false
  pub copies_long : any_shorter live.n (state_lists room.copies) ≡ false
  pub working_long : any_shorter live.n (room.working.p ∷ room.working.y ∷ []) ≡ false
  pub blocks : blocks_fault live.n live.highest ≡ false
  pub copies_blocks : blocks_fault live.n room.highest ≡ false
  pub sides_long : side_lists * live.n ≤ length room.sides
  pub count : segment_count sheet ≡ live.n
  -- 14
  pub figures : (i : ℕ) → i < live.n → figure_fault (figures_at live.state i) ≡ false
  pub held : held_fault live.state ≡ false
  -- 20
  pub gauge : any_below (gauge_count sheet) (λ j. eqb (get_or (gauges sheet) j 0) asked.gauge) ≡ true
  pub few : live.state.steps + asked.horizon ≤ steps_m sheet

pub tests-passed : (sheet : List ℕ) (live : Live) (room : Room) (asked : Question) → first (ahead_tests sheet live room asked) ≡ passes → Passed sheet live room asked
unfolding ahead_tests river_fault forecast_fault
tests-passed sheet live room asked e =
    let n = live.n in
    let t = all_pass (ahead_tests sheet live room asked) e in
    let states = state_lists live.state ++ state_lists room.copies in
    let work = room.working.p ∷ room.working.y ∷ [] in
    let x = none-of-five (river_fault n (states ++ work)) (blocks_fault n live.highest) (blocks_fault n room.highest) (ltb (length room.sides) (side_lists * n))
    (not (eqb (segment_count sheet) n)) (test-clear 13 _ t.0) in
    let lists = neither (outside (1 to most_segments) n) (any_shorter n (states ++ work)) x.0 in
    let w = neither (any_shorter n states) (any_shorter n work) (rw (shorter-both n states work) at lists.1) in
    let s = neither (any_shorter n (state_lists live.state)) (any_shorter n (state_lists room.copies))
    (rw (shorter-both n (state_lists live.state) (state_lists room.copies)) at w.0) in
    let on = any_below (gauge_count sheet) (λ j. eqb (get_or (gauges sheet) j 0) asked.gauge) in
    let q = neither (not on) (ltb (steps_m sheet) (live.state.steps + asked.horizon)) (test-clear 20 _ t.1.1.1.0) in
    record {
      range = lists.0;
      live_long = s.0;
      copies_long = s.1;
      working_long = w.1;
      blocks = x.1;
      copies_blocks = x.2;
      sides_long = ltb-false _ _ x.3;
      count = eqb-true _ _ (turned _ x.4);
      figures = each-clear 14 segment n (λ i. figure_fault (figures_at live.state i)) t.1.0;
      held = test-clear 14 _ t.1.1.0;
      gauge = turned on q.0;
      few = ltb-false _ _ q.1;
    }

-- the gauge is a segment of the river
pub gauge-inside : (sheet : List ℕ) (live : Live) (room : Room) (asked : Question) → first (river_tests sheet) ≡ passes → Passed sheet live room asked →
    (1 ≤ asked.gauge) × (asked.gauge ≤ live.n)
gauge-inside sheet live room asked front p =
    let j = any_some _ (gauge_count sheet) p.gauge in
    let e = eqb-true (get_or (gauges sheet) j.0 0) asked.gauge j.2 in
    (omega (arith, e, gauge-first sheet front j.0 j.1), omega (arith, e, p.count, gauge-last sheet front j.0 j.1))
