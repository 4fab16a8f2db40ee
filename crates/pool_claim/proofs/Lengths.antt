-- The lists of a river that has them alone keep their lengths through its calls, and one call more behind a list of calls.
use mathlib.Core.Path.{◌≡◌, refl, sym, ◌∙◌}
use mathlib.Core.List.{List, [], ◌∷◌, ◌++◌, map, append-nil}
use Prim.Native.Nat.{ℕ}
use native.Mathlib.Omega.{arith}
use lib.ListN.{length, drop_of_length-le, length-map}
use Rattle.lists.specs.Lists.{over}
use Rattle.lists.proofs.Tab.{length-tab}
use Rattle.lists.proofs.Over.{length_over}
use Rattle.model.specs.Equations.{Figures}
use Rattle.model.specs.State.{segments_of, pairs_of, State, figures_at, figures_of, write_figures}
use Rattle.model.specs.Calls.{start_figures, start_left, step_left, Call, start, step, report, call_left}
use Rattle.model.specs.Runs.{LoneCall, after, run, OwnLists}
use Rattle.sweep_laws.proofs.Lengths.{length-stepped}

-- ---- figures written over lists of as many entries

module _ (fs : List Figures) (part : Figures → ℕ) (before : List ℕ) (n : ℕ) (many : length fs ≡ n) (own : length before ≡ n) where
  -- a list is as long as it was
  length-written : length (over (map part fs) before) ≡ n
  length-written = length_over (map part fs) before (omega (arith, length-map fs part)) ∙ own

  -- nothing of the list before is left
  over-all : over (map part fs) before ≡ map part fs
  over-all = rw (drop_of_length-le before {i = length (map part fs)} (omega (arith, length-map fs part))) (append-nil (map part fs))

-- the lists are then the figures
pub write-all : (fs : List Figures) (u steps n : ℕ) (before : State) → length fs ≡ n → OwnLists n before → write_figures fs u steps before ≡ record {
  channel = map (λ x. x.c) fs;
  storage = map (λ x. x.z) fs;
  sediment = map (λ x. x.w) fs;
  upstream = u;
  steps = steps;
}
unfolding write_figures
write-all fs u steps n before many own = rw (
  over-all fs (λ x. x.c) before.channel n many own.channel,
  over-all fs (λ x. x.z) before.storage n many own.storage,
  over-all fs (λ x. x.w) before.sediment n many own.sediment,
)

-- the three lists are as long as they were
own-written : (fs : List Figures) (u steps n : ℕ) (before : State) → length fs ≡ n → OwnLists n before → OwnLists n (write_figures fs u steps before)
unfolding write_figures
own-written fs u steps n before many own = record {
  channel = length-written fs (λ x. x.c) before.channel n many own.channel;
  storage = length-written fs (λ x. x.z) before.storage n many own.storage;
  sediment = length-written fs (λ x. x.w) before.sediment n many own.sediment;
}

-- an accepted call leaves lists of the same lengths
pub left-own : (n : ℕ) (state : State) (call : Call) → OwnLists n state → OwnLists n (call_left n state call).state
unfolding start_left step_left
left-own n state (start columns highest u) own = own-written _ _ _ n state (length-map (segments_of n columns) start_figures ∙ length-tab _ 0 n) own
left-own n state (step old new highest working u' M) own =
    let size : length (pairs_of n old new) ≡ n = length-tab _ 0 n in
    own-written _ _ _ n state
    (length-stepped state.upstream u' (pairs_of n old new) (figures_of n state) (length-tab (figures_at state) 0 n ∙ sym size) ∙ size) own
left-own n state (report columns number) own = own

-- ---- one call more

-- a list of calls and then one more
pub run-last : (before : State) (calls : List LoneCall) (call : LoneCall) → run before (calls ++ (call ∷ [])) ≡ after (run before calls) call
unfolding run
run-last before [] call = refl
run-last before (c ∷ calls) call = run-last (after before c) calls call
