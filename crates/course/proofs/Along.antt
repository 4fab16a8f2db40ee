-- The reaches laid out along the river: which reach a segment is in.
use mathlib.Core.List.{List, [], ◌∷◌}
use mathlib.Core.Path.{◌≡◌, ◌∙◌}
use Prim.Native.Nat.{ℕ, zero, suc, ◌+◌, ◌<◌, ◌≤◌}
use native.Mathlib.Nat.{zero-add}
use native.Mathlib.Omega.{arith}
use lib.ListN.{length, get_or, replicate, length-replicate, get_or-replicate, get_or-append}
use lib.Seq.{get_or-append-add, take-nil}
use Rattle.lists.proofs.Tab.{length-tab, get_or-tab}
use Rattle.model.specs.Sheet.{BandedReach, reach_count, banded_on, banded_reaches, total_segments, along_river}
use Rattle.model.specs.Flow.{no_reach}
use Rattle.model.proofs.Along.{total}
use Rattle.course.specs.Descent.{before}

-- reach number k, from 0
abbrev pub reach_no : List BandedReach → ℕ → BandedReach
reach_no rs k = get_or rs k no_reach

-- one reach more
pub before-next : (rs : List BandedReach) (k : ℕ) → k < length rs → before rs (suc k) ≡ before rs k + (reach_no rs k).reach.segments
unfolding total_segments
before-next [] k h = absurd (omega arith)
before-next (r ∷ rs) zero h = omega arith
before-next (r ∷ rs) (suc k) h = omega (arith, before-next rs k (omega arith))

-- where segments are left, so are reaches
pub before-known : (rs : List BandedReach) (k : ℕ) → before rs k < total rs → k < length rs
unfolding total_segments
before-known [] k h = absurd (omega (arith, simp take-nil at h))
before-known (r ∷ rs) zero h = omega arith
before-known (r ∷ rs) (suc k) h = omega (arith, before-known rs k (omega arith))

-- segment p of reach k
pub segment-reach : (rs : List BandedReach) (k p : ℕ) → k < length rs → p < (reach_no rs k).reach.segments →
    get_or (along_river rs) (before rs k + p) no_reach ≡ reach_no rs k
unfolding along_river total_segments
segment-reach [] k p h q = absurd (omega arith)
segment-reach (r ∷ rs) zero p h q =
    let within : p < length (replicate r.reach.segments r) = rw length-replicate q in
    rw zero-add (get_or-append (replicate r.reach.segments r) (along_river rs) no_reach p within ∙ get_or-replicate r.reach.segments p r no_reach q)
segment-reach (r ∷ rs) (suc k) p h q =
    let n = before rs k + p in
    let at : r.reach.segments + before rs k + p ≡ length (replicate r.reach.segments r) + n = rw length-replicate (omega arith) in
    rw at (get_or-append-add (replicate r.reach.segments r) (along_river rs) n no_reach ∙ segment-reach rs k p (omega arith) q)

-- no more reaches lie before a segment than segments
pub before-ge : (rs : List BandedReach) (k : ℕ) → ((j : ℕ) → j < length rs → 1 ≤ (reach_no rs j).reach.segments) → k ≤ length rs → k ≤ before rs k
unfolding total_segments
before-ge [] k some h = omega arith
before-ge (r ∷ rs) zero some h = omega arith
before-ge (r ∷ rs) (suc k) some h =
    omega (arith, some 0 (omega arith), before-ge rs k (λ j q. some (suc j) (omega arith)) (omega arith))

-- ---- the reaches of a sheet

module _ (sheet : List ℕ) where
  pub count-reaches : length (banded_reaches sheet) ≡ reach_count sheet
  unfolding banded_reaches
  count-reaches = length-tab (banded_on sheet) 0 (reach_count sheet)

  pub reach-no : (k : ℕ) → k < reach_count sheet → reach_no (banded_reaches sheet) k ≡ banded_on sheet k
  unfolding banded_reaches
  reach-no k h = get_or-tab (banded_on sheet) (reach_count sheet) k no_reach h
