-- What the claims ask for can be had of every accepted sheet: its loadings leave what the start and each step are to be lent.
use mathlib.Core.Path.{◌≡◌, refl, ap}
use mathlib.Core.Bool.{false}
use mathlib.Core.List.{List, [], ◌∷◌}
use Prim.Native.Nat.{ℕ, zero, suc}
use native.Mathlib.Omega.{arith}
use borrow.Author.Tests.{le-ltb}
use lib.Dec.{T}
use lib.ListN.{length, replicate, length-replicate}
use Rattle.lists.specs.Lists.{any_shorter}
use Rattle.lists.proofs.Shorter.{neither, none-shorter, shorter-both}
use Rattle.model.specs.Ranges.{outside, concentration}
use Rattle.model.specs.Sheet.{segment_count}
use Rattle.model.specs.Flow.{flow_in_force}
use Rattle.model.specs.State.{set_lists, Columns, State}
use Rattle.model.specs.Refusals.{accepted}
use Rattle.model.specs.Load.{Loaded, load_answer, load_columns}
use Rattle.model.specs.Highest.{block_count, blocks_fault}
use Rattle.model.specs.Calls.{start}
use Rattle.model.specs.Runs.{LoneCall, alone, accepts, AsLoaded, OwnLists}
use Rattle.model.specs.Claim.{LeftFor}
use Rattle.model.specs.OwnRiverClaim.{StepLent, OwnCalls, OwnCallsExist}
use Rattle.model.proofs.FlowRows.{in-force-known}
use Rattle.model.proofs.Calls.{result-passes}
use Rattle.loading_laws.proofs.Loaded.{known, left_columns, left-loaded, start-passes, load-passed, pair_left, loading-left, loading-flows}

-- ---- lists of zeros are long enough

zeros : ℕ → List ℕ
zeros n = replicate n 0

zeros-long : (n : ℕ) → length (zeros n) ≡ n
unfolding zeros
zeros-long n = length-replicate n 0

zero-blocks : (n : ℕ) → blocks_fault n (zeros (block_count n)) ≡ false
unfolding blocks_fault
zero-blocks n = le-ltb (length (zeros (block_count n))) (block_count n) (omega (arith, zeros-long (block_count n)))

zero-working : (n : ℕ) → any_shorter n (zeros n ∷ zeros n ∷ []) ≡ false
zero-working n = none-shorter n (zeros n ∷ zeros n ∷ []) (omega (arith, zeros-long n), (omega (arith, zeros-long n), tt))

-- ---- the calls

module _ (sheet : List ℕ) (r records : ℕ) (columns : Columns) (v : Loaded) (e : load_answer sheet r records columns ≡ accepted v) where
  -- what is left for every flow in force, in lists of the sheet's own count
  left_at : (j : ℕ) → LeftFor sheet (flow_in_force sheet j) (segment_count sheet) (load_columns sheet (flow_in_force sheet j) records columns)
  left_at j =
      let left = loading-left sheet (flow_in_force sheet j) records columns (loading-flows sheet r records columns e (flow_in_force sheet j) (in-force-known sheet j)) in
      rw left.lists.count at left

  -- what a step from count n is lent, its other lists of zeros
  zero-lent : (n : ℕ) → let m = segment_count sheet in
      StepLent sheet n (load_columns sheet (flow_in_force sheet n) records columns).numbers (load_columns sheet (flow_in_force sheet (suc n)) records columns)
      (zeros (block_count m)) (record { p = zeros m; y = zeros m })
  zero-lent n =
      let m = segment_count sheet in
      let set = set_lists (load_columns sheet (flow_in_force sheet n) records columns).numbers in
      record {
        pair = pair_left (left_at n) (left_at (suc n));
        old_long = (neither (any_shorter m set) _ (rw (shorter-both m set _) at (left_at n).long)).0;
        new_long = (left_at (suc n)).long;
        working_long = zero-working m;
        blocks = zero-blocks m;
      }

  -- k step calls from count n on
  pub own-calls : (u : ℕ → ℕ) (k n : ℕ) → (calls : List LoneCall) × (OwnCalls u sheet n calls × (length calls ≡ k))
  own-calls u zero n = ([], (OwnCalls.none, refl))
  own-calls u (suc k) n = let rest = own-calls u k (suc n) in (_ ∷ rest.0, (OwnCalls.more (zero-lent n) rest.1.0, ap suc rest.1.1))

  -- a state of zeros
  blank : State
  blank = let m = segment_count sheet in record { channel = zeros m; storage = zeros m; sediment = zeros m; upstream = 0; steps = 0 }

  blank-own : OwnLists (segment_count sheet) blank
  unfolding blank
  blank-own = let long = zeros-long (segment_count sheet) in record { channel = long; storage = long; sediment = long }

  -- a start on it, which is lent what the loading leaves
  begun : Columns
  begun = left_columns sheet r records columns (load-passed e).front (load-passed e).lists

  begun-loaded : AsLoaded sheet (segment_count sheet) begun
  unfolding begun
  begun-loaded =
      let p = load-passed e in
      record { flow = r; known = known sheet r records columns p.front p.lists; lists = left-loaded sheet r records columns p.front p.lists }

  begun-taken : (u : ℕ) → outside concentration u ≡ false →
      T (accepts blank (alone (segment_count sheet) (start begun (zeros (block_count (segment_count sheet))) u)))
  unfolding begun accepts
  begun-taken u range =
      let p = load-passed e in
      let m = segment_count sheet in
      let passed = start-passes sheet r records columns p.front p.lists blank blank-own (zeros (block_count m)) (zero-blocks m) u range in
      rw (result-passes m blank (start begun (zeros (block_count m)) u) passed) tt

pub own-calls-exist : OwnCallsExist
own-calls-exist sheet r records columns v e u range k =
    let x = own-calls sheet r (length records) columns v e u k 0 in (
      blank sheet r (length records) columns v e,
      segment_count sheet,
      begun sheet r (length records) columns v e,
      zeros (block_count (segment_count sheet)),
      x.0,
      (begun-loaded sheet r (length records) columns v e, begun-taken sheet r (length records) columns v e (u 0) range, x.1.0, x.1.1),
    )
