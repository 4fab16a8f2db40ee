-- What an accepted opening leaves in the fourteen lists is what its river's calls are to be lent.
use mathlib.Core.Path.{◌≡◌, ap, ◌∙◌}
use mathlib.Core.List.{List, ◌++◌}
use Prim.Native.Nat.{ℕ, suc, ◌≤◌}
use Rattle.model.specs.Sheet.{flow_row_count, segment_count}
use Rattle.model.specs.Flow.{flow_in_force}
use Rattle.model.specs.State.{Columns}
use Rattle.model.specs.Refusals.{accepted, passes, first}
use Rattle.model.specs.Load.{river_tests, list_tests, Loaded, loaded, load_answer}
use Rattle.model.specs.Claim.{LeftFor}
use Rattle.model.specs.Pool.{Pool, open_tests, open_answer, open_columns}
use Rattle.model.specs.PoolClaim.{OpenedLists}
use Rattle.model.proofs.FlowRows.{in-force-known}
use Rattle.model.proofs.Refusals.{first_rest, accepted-passes, outcome-passes, accepted-values}
use Rattle.loading_laws.proofs.Loaded.{loads, left-for, any-flow, with_values, pair_left, loading-left, loading-flows}
use Rattle.pool_laws.proofs.Openings.{new_tests, last_tests, Passed, opening-passed}

module _ (sheet : List ℕ) (r records : ℕ) (columns : Columns) (pool : Pool) (number : ℕ) (highest : List ℕ) (u : ℕ) {v : Loaded}
    (e : open_answer sheet r records columns pool number highest u ≡ accepted v) where
  passed : Passed pool number sheet r records columns highest u
  unfolding open_answer
  passed =
      opening-passed pool number sheet r records columns highest u
      (accepted-passes (open_tests sheet r records columns pool number highest u) (loaded sheet) (rw e tt))

  values : loaded sheet ≡ v
  unfolding open_answer
  values = accepted-values (open_tests sheet r records columns pool number highest u) (loaded sheet) v e

  opening-left : LeftFor sheet r v.segments (open_columns sheet r records columns pool number highest u)
  unfolding open_columns
  opening-left = rw e (with_values values (left-for sheet r records columns passed.front passed.lists))

  -- it is accepted for every flow of the sheet
  opening-flows : (other : ℕ) → other ≤ flow_row_count sheet → open_answer sheet other records columns pool number highest u ≡ accepted v
  unfolding open_answer open_tests
  opening-flows other h =
      let p = passed in
      let tests = open_tests sheet other records columns pool number highest u in
      let new = new_tests pool.table number (segment_count sheet) in
      let lists = list_tests sheet other records columns in
      let last = last_tests pool (segment_count sheet) highest u in
      let behind : first last ≡ passes = rw (p.shared, p.blocks, p.upstream) in
      let two : first new ≡ passes = rw (p.room, p.table) in
      let front : first (river_tests sheet ++ new) ≡ passes = first_rest (river_tests sheet) new p.front ∙ two in
      let middle : first ((river_tests sheet ++ new) ++ lists) ≡ passes =
      first_rest (river_tests sheet ++ new) lists front ∙ any-flow sheet r records columns p.front p.lists other h in
      outcome-passes tests (loaded sheet) (first_rest ((river_tests sheet ++ new) ++ lists) last middle ∙ behind) ∙ ap accepted values

  -- and so is the loading
  loading-too : (other : ℕ) → other ≤ flow_row_count sheet → load_answer sheet other records columns ≡ accepted v
  loading-too = loading-flows sheet r records columns (loads sheet r records columns passed.front passed.lists ∙ ap accepted values)

pub opened-lists : OpenedLists
opened-lists = record {
  left = λ sheet r records columns pool number highest u v e. opening-left sheet r records columns pool number highest u e;
  flows = λ sheet r records columns pool number highest u v e other h.
      (opening-flows sheet r records columns pool number highest u e other h, loading-too sheet r records columns pool number highest u e other h);
  pairs = λ sheet r r' records records' columns columns' pool number highest u v v' e e' n.
      let old = opening-flows sheet r records columns pool number highest u e (flow_in_force sheet n) (in-force-known sheet n) in
      let new = loading-flows sheet r' records' columns' e' (flow_in_force sheet (suc n)) (in-force-known sheet (suc n)) in (
        old,
        new,
        pair_left (opening-left sheet (flow_in_force sheet n) records columns pool number highest u old) (loading-left sheet (flow_in_force sheet (suc n)) records' columns' new),
      );
}
