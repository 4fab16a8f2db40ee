-- One call on a pool: refused, it changes nothing; accepted, it leaves every other river as it was and adds to the own calls of its own.
use mathlib.Core.Path.{◌≡◌, refl, sym, ap, subst, ◌∙◌}
use mathlib.Core.Bool.{Bool, true, false}
use mathlib.Core.List.{List, ◌++◌}
use mathlib.Core.Option.{Option, none}
use Prim.Native.Nat.{ℕ}
use Rattle.model.specs.State.{Columns}
use Rattle.model.specs.Refusals.{is_accepted, Finding, passes, fails, first}
use Rattle.model.specs.Calls.{Call, call_tests, call_left}
use Rattle.model.specs.Runs.{alone, after}
use Rattle.model.specs.Pool.{slot_of, Pool, state_of, with_state, number_fault, open_tests, open_answer, pool_open, close_finding, closed_table}
use Rattle.model.specs.PoolRuns.{PoolCall, opening, on_river, closing, named, pool_accepts, after_call, Own, with_call, own_after}
use Rattle.model.proofs.Refusals.{first-both}
use Rattle.model.proofs.Calls.{result-passes, lent-state}
use Rattle.pool_laws.proofs.Tables.{number-clear}
use Rattle.pool_laws.proofs.Pools.{Sound, Others, StateWritten, with-state, Closed, with-closed, closed_pool}
use Rattle.pool_laws.proofs.Answers.{front_tests, tests-clear, pool-passes, pool-fails}
use Rattle.pool_claim.proofs.Lengths.{left-own}
use Rattle.pool_laws.proofs.Openings.{opening-passed}
use Rattle.pool_claim.proofs.Opening.{begins}
use Rattle.pool_claim.proofs.Follows.{Follows, follows-call, open-lists}

-- what an accepted call leaves; `more` is what it makes of its river's own calls
pub record Changed (before later : Pool) (number : ℕ) (more : Option Own → Option Own) : Type 0 where
  pub sound : Sound later
  pub others : Others before later number
  pub own : (own : Option Own) → Follows before number own → Follows later number (more own)

-- what a call does
pub data Does (pool : Pool) (call : PoolCall) : Type 0 where
  refuses : pool_accepts pool call ≡ false → after_call pool call ≡ pool → Does pool call
  changes : pool_accepts pool call ≡ true → Changed pool (after_call pool call) (named call) (own_after pool call) → Does pool call

module _ (pool : Pool) (number : ℕ) (sound : Sound pool) where
  -- a start, a step or a report that is accepted leaves its river in the state that it leaves alone
  call-changed : (call : Call) → let n = (slot_of pool.table number).segments in
      number_fault pool.table number ≡ false → first (call_tests n (state_of pool number) call) ≡ passes →
      Changed pool (with_state pool number (call_left n (state_of pool number) call).state) number (with_call (alone n call))
  unfolding after
  call-changed call clear e =
      let n = (slot_of pool.table number).segments in
      let o = number-clear pool.table number clear in
      let state = (call_left n (state_of pool number) call).state in
      let own = left-own n (state_of pool number) call (open-lists pool number sound o.0 o.1 o.2) in
      let w : StateWritten pool number state = with-state pool number sound clear state own in
      record {
        sound = w.sound;
        others = w.others;
        own = λ x f. follows-call pool (with_state pool number state) number (alone n call) x o.0 o.1 o.2 w.opened w.segments
            (w.is ∙ sym (ap (λ x. x.left.state) (result-passes n (state_of pool number) call e))) f;
      }

  -- what it does
  does_call : (call : Call) → Does pool (on_river number call)
  unfolding pool_accepts after_call
  does_call call = go (first (front_tests pool number ++ call_tests n (state_of pool number) call)) refl
    where
      n : ℕ
      n = (slot_of pool.table number).segments

      go : (t : Finding) → first (front_tests pool number ++ call_tests n (state_of pool number) call) ≡ t → Does pool (on_river number call)
      go passes e =
          let both = first-both (front_tests pool number) (call_tests n (state_of pool number) call) e in
          let is = pool-passes pool number call e in
          Does.changes (ap (λ x. is_accepted x.answer) is)
          (subst (λ later. Changed pool later number (with_call (alone n call))) (sym (ap (λ x. x.left.state) is))
          (call-changed call (tests-clear pool number both.0).0 both.1))
      go (fails k place) e =
          let is = pool-fails pool number call e in
          Does.refuses (ap (λ x. is_accepted x.answer) is) (ap (λ x. x.left.state) is ∙ lent-state pool call)

  -- a closing
  closing-changed : number_fault pool.table number ≡ false → Changed pool (closed_pool pool number) number (λ own. none)
  closing-changed clear =
      let c : Closed pool number = with-closed pool number sound clear in
      record { sound = c.sound; others = c.others; own = λ x f h l. c.closed }

  -- what a closing does
  does-close : Does pool (closing number)
  unfolding pool_accepts after_call closed_table close_finding
  does-close = go (number_fault pool.table number) refl
    where
      go : (t : Bool) → number_fault pool.table number ≡ t → Does pool (closing number)
      go false e = Does.changes (rw e) (rw e (closing-changed e))
      go true e = Does.refuses (rw e) (rw e)

  -- what an opening does
  does-open : (sheet : List ℕ) (r records : ℕ) (columns : Columns) (highest : List ℕ) (u : ℕ) → Does pool (opening number sheet r records columns highest u)
  unfolding pool_accepts after_call pool_open open_answer
  does-open sheet r records columns highest u = go (first (open_tests sheet r records columns pool number highest u)) refl
    where
      go : (t : Finding) → first (open_tests sheet r records columns pool number highest u) ≡ t → Does pool (opening number sheet r records columns highest u)
      go passes e =
          let b = begins pool number sheet r records columns highest u (opening-passed pool number sheet r records columns highest u e) sound in
          Does.changes (rw e) (rw e (record { sound = b.sound; others = b.others; own = λ x f. b.follows }))
      go (fails k place) e = Does.refuses (rw e) (rw e)

-- every call
pub does : (pool : Pool) (call : PoolCall) → Sound pool → Does pool call
does pool (opening number sheet r records columns highest u) sound = does-open pool number sound sheet r records columns highest u
does pool (on_river number call) sound = does_call pool number sound call
does pool (closing number) sound = does-close pool number sound
