-- The sweep of a river that is given place by place: row i, p and y of segment i, C' of segment i.
use mathlib.Core.Path.{◌≡◌, refl, ap, ◌∙◌}
use mathlib.Core.Bool.{cond}
use mathlib.Core.List.{List, ◌∷◌}
use Prim.Native.Nat.{ℕ, zero, suc, ◌+◌, ◌-◌, ◌*◌, ◌<◌}
use native.Mathlib.Omega.{arith}
use borrow.Author.Tests.{lt-ltb, le-ltb}
use lib.Dec.{ltb}
use Rattle.lists.specs.Lists.{tab}
use Rattle.rounding.specs.Nearest.{S, nearest}
use Rattle.model.specs.Equations.{Figures, Pair}
use Rattle.model.specs.Sweep.{Row, below, rows, row_of, Passed, Above, top, under, pass, down, downward, up, clamp, new_figures, finish}
use Rattle.model.specs.State.{NumberSet, Columns, pair_at, pairs_of, State, figures_at, figures_of}
use Rattle.sweep_laws.proofs.Passes.{first, on_top-same}

-- the channel figure above segment i: U above the first
abbrev pub above_at : (u : ℕ) → (ℕ → Figures) → ℕ → ℕ
above_at u f zero = u
above_at u f (suc i) = (f i).c

-- the channel figure of segment i, 0 below the last
abbrev pub channel_or0 : (n : ℕ) → (ℕ → Figures) → ℕ → ℕ
channel_or0 n f i = cond (ltb i n) (f i).c 0

below-tab : (f : ℕ → Figures) (n j k : ℕ) → j + k ≡ n → below (tab j k f) ≡ channel_or0 n f j
below-tab f n j zero e = rw (le-ltb j n (omega arith))
below-tab f n j (suc k) e = rw (lt-ltb j n (omega arith))

rows-tab : (x : ℕ → Pair) (f : ℕ → Figures) (u n j k : ℕ) → j + k ≡ n →
    rows (above_at u f j) (tab j k x) (tab j k f) ≡ tab j k (λ i. row_of (x i) (above_at u f i) (channel_or0 n f (suc i)) (f i))
rows-tab x f u n j zero e = refl
rows-tab x f u n j (suc k) e =
    rw (below-tab f n (suc j) k (omega arith)) (ap (λ (l : List Row). row_of (x j) (above_at u f j) (channel_or0 n f (suc j)) (f j) ∷ l) (rows-tab x f u n (suc j) k (omega arith)))

-- ---- downward

-- what stands above segment i
abbrev pub standing : (ℕ → Row) → (u' : ℕ) → ℕ → Above
standing row u' zero = top u'
standing row u' (suc i) = under (pass (standing row u' i) (row i))

abbrev pub left_at : (ℕ → Row) → (u' : ℕ) → ℕ → Passed
left_at row u' i = pass (standing row u' i) (row i)

down-tab : (row : ℕ → Row) (u' j k : ℕ) → down (standing row u' j) (tab j k row) ≡ tab j k (left_at row u')
down-tab row u' j zero = refl
down-tab row u' j (suc k) = ap (λ (l : List Passed). left_at row u' j ∷ l) (down-tab row u' (suc j) k)

-- row i of a river
abbrev pub row_at : ℕ → NumberSet → Columns → State → ℕ → Row
row_at n old new state i =
    row_of (pair_at old new i) (above_at state.upstream (figures_at state) i) (channel_or0 n (figures_at state) (suc i)) (figures_at state i)

pub downward-tab : (n : ℕ) (old : NumberSet) (new : Columns) (state : State) (u' : ℕ) →
    downward state.upstream u' (pairs_of n old new) (figures_of n state) ≡ tab 0 n (left_at (row_at n old new state) u')
unfolding downward
downward-tab n old new state u' =
    ap (λ (rs : List Row). down (top u') rs) (rows-tab (pair_at old new) (figures_at state) state.upstream n 0 n (omega arith))
    ∙ down-tab (row_at n old new state) u' 0 n

-- ---- upward

-- C' of segment i, before the cut; 0 below the last
abbrev pub raised_at : (ℕ → Passed) → (n i : ℕ) → ℕ
raised_at d n i = first (up (tab i (n - i) d))

pub raised-turn : (d : ℕ → Passed) (n i : ℕ) → i < n → raised_at d n i ≡ (d i).y + nearest ((d i).p * raised_at d n (suc i)) S
raised-turn d n i h = let e : n - i ≡ suc (n - suc i) = omega arith in rw e (on_top-same (d i) (up (tab (suc i) (n - suc i) d)))

pub finish-tab : (x : ℕ → Pair) (f : ℕ → Figures) (d : ℕ → Passed) (n j k : ℕ) → j + k ≡ n →
    finish (tab j k x) (tab j k f) (up (tab j k d)) ≡ tab j k (λ i. new_figures (x i) (f i) (clamp (raised_at d n i)))
finish-tab x f d n j zero e = refl
finish-tab x f d n j (suc k) e =
    let r : n - j ≡ suc k = omega arith in
    rw r (ap (λ (l : List Figures). new_figures (x j) (f j) (clamp (first (up (tab j (suc k) d)))) ∷ l) (finish-tab x f d n (suc j) k (omega arith)))
