-- A call on an open river's stretch of the shared lists, from document 01's call on the parts that it was lent.
use mathlib.Core.Path.{◌≡◌, refl, sym, ap, ◌∙◌}
use mathlib.Core.List.{List, ◌++◌}
use Prim.Native.Nat.{ℕ, ◌-◌, ◌≤◌}
use native.Mathlib.Omega.{arith}
use lib.ListN.{length, take, drop, set}
use Rattle.lists.specs.Lists.{splice}
use Rattle.lists.proofs.Stretch.{splice-back, splice-self}
use Rattle.model.specs.Ranges.{most_segments}
use Rattle.model.specs.State.{NumberSet, Columns, State}
use Rattle.model.specs.Refusals.{Place, Outcome, accepted, refused, Finding, passes, fails, first, left_after}
use Rattle.model.specs.Calls.{River, Working, Call, start, step, report, call_tests, Values, call_lent, call_result}
use Rattle.model.specs.Pool.{Slot, end_of, slot_of, slot_with, Pool, state_of, with_state, pool_result}
use Rattle.model.proofs.Refusals.{first_rest}
use Rattle.model.proofs.Calls.{lent-beside, result-passes, result-fails, refused-still}
use Rattle.pool_laws.proofs.Answers.{front_tests, tests-clear, pool-passes, pool-fails, alike, refused-in-front}
use Rattle.pool_laws.proofs.Pools.{shared_long}
use Rattle.pool_laws.proofs.Tables.{number-clear, fault-apart}
use Rattle.terms.specs.Lent.{state, pool}
use Rattle.otis.specs.Outcomes.{state_after, result_with}

-- the pool as it was lent to be read
pub read-lent : (table : List ℕ) {channel storage sediment c z w : List ℕ} → channel ≡ c → storage ≡ z → sediment ≡ w →
    pool channel storage sediment table ≡ pool c z w table
read-lent table c z w = rw (c, z, w)

-- one of the pool's own tests fails; they looked at the pool as it was lent to be read
pub in-front : (lent p : Pool) (number : ℕ) (call : Call) {k : ℕ} {place : Place} → lent ≡ p →
    fails k place ≡ first (front_tests lent number) → pool_result p number call ≡ record { answer = refused k place; left = call_lent p call }
in-front lent p number call e fault = refused-in-front p number call (sym (rw e at fault))

-- the table after a start or step of the river in slot x
abbrev pub table_after : Outcome River → List Slot → (number : ℕ) → Slot → List Slot
table_after (accepted v) table number x = set table (number - 1) (slot_with x v.upstream v.steps)
table_after (refused k place) table number x = table

-- ---- the outcome on the pool from that on the stretch

module _ (p : Pool) (number : ℕ) (pass : first (front_tests p number) ≡ passes) (call : Call) where
  -- of a call that leaves this state
  on-pool : (a : Outcome (Values call)) (s : State) (highest : List ℕ) (working : Working) (later : Pool) →
      result_with a s highest working ≡ call_result (slot_of p.table number).segments (state_of p number) call →
      later ≡ left_after a p (with_state p number s) → result_with a later highest working ≡ pool_result p number call
  on-pool a s highest working later o l = go (first (call_tests n (state_of p number) call)) refl
    where
      n : ℕ
      n = (slot_of p.table number).segments

      rest : first (front_tests p number ++ call_tests n (state_of p number) call) ≡ first (call_tests n (state_of p number) call)
      rest = first_rest (front_tests p number) (call_tests n (state_of p number) call) pass

      go : (t : Finding) → first (call_tests n (state_of p number) call) ≡ t → result_with a later highest working ≡ pool_result p number call
      go passes e =
          let is = o ∙ result-passes n (state_of p number) call e in
          rw (
            pool-passes p number call (rest ∙ e),
            l,
            ap (λ x. x.answer) is,
            ap (λ x. x.left.state) is,
            ap (λ x. x.left.highest) is,
            ap (λ x. x.left.working) is,
          )
      go (fails k place) e =
          let is = o ∙ result-fails n (state_of p number) call e in
          rw (pool-fails p number call (rest ∙ e), l, ap (λ x. x.answer) is, ap (λ x. x.left.highest) is, ap (λ x. x.left.working) is)
          (sym (ap (λ x. record { answer = refused k place; left = x }) (lent-beside p (state_of p number) call)))

-- ---- the river in slot x, whose stretch goes from `from` to `end`

module _ (lent p : Pool) (same : lent ≡ p) (number : ℕ) (cleared : passes ≡ first (front_tests lent number))
    (x : Slot) (e : x ≡ slot_of p.table number) (from end : ℕ) (range : (from ≡ x.first) × (end ≡ end_of x)) where
  -- where the pool's own tests pass: a number, and a stretch that every shared list has
  pub record Stands : Type 0 where
    pub numbered : 1 ≤ number
    pub channel : end ≤ length p.channel
    pub storage : end ≤ length p.storage
    pub sediment : end ≤ length p.sediment

  pass : first (front_tests p number) ≡ passes
  pass = sym (rw same at cleared)

  pub stands : Stands
  stands =
      let clear = tests-clear p number pass in
      let n = number-clear p.table number clear.0 in
      let long = shared_long p clear.1 in
      let ends : end_of x ≤ most_segments = rw e ((fault-apart p.table n.3).ends (number - 1) (omega (arith, n.0, n.1)) n.2) in
      record {
        numbered = n.0;
        channel = omega (arith, range.1, long.channel);
        storage = omega (arith, range.1, long.storage);
        sediment = omega (arith, range.1, long.sediment);
      }

  -- the parts that a call on it is lent are the river's state
  abbrev part : List ℕ → List ℕ
  part list = take (end - from) (drop from list)

  abbrev pub parts : State
  parts = state (part p.channel) (part p.storage) (part p.sediment) x.upstream x.steps

  pub parts_are : parts ≡ state_of p number
  parts_are = let q : end - from ≡ x.segments = omega (arith, range.0, range.1) in rw (q, range.0, e)

  on-state : (call : Call) → call_result x.segments parts call ≡ call_result (slot_of p.table number).segments (state_of p number) call
  on-state call = rw (parts_are, ap (λ (y : Slot). y.segments) e)

  -- a shared list when its part comes back
  abbrev back : (part list : List ℕ) → List ℕ
  back part list = take from list ++ (part ++ drop (end - from) (drop from list))

  back-is : (part list : List ℕ) → back part list ≡ splice x.first x.segments part list
  back-is part list = rw (range.0, range.1) (splice-back x.first x.segments part list)

  -- the pool when they come back as c, z and w
  abbrev returned : (table : List Slot) → (c z w : List ℕ) → Pool
  returned table c z w = record { table = table; channel = back c p.channel; storage = back z p.storage; sediment = back w p.sediment }

  -- as it was where they come back as they were lent
  unmoved : (c z w : List ℕ) (upstream steps : ℕ) → state c z w upstream steps ≡ state_of p number → returned p.table c z w ≡ p
  unmoved c z w upstream steps same =
      rw (
        back-is c p.channel,
        back-is z p.storage,
        back-is w p.sediment,
        ap (λ (s : State). s.channel) same,
        ap (λ (s : State). s.storage) same,
        ap (λ (s : State). s.sediment) same,
        e,
        splice-self (slot_of p.table number).first (slot_of p.table number).segments p.channel,
        splice-self (slot_of p.table number).first (slot_of p.table number).segments p.storage,
        splice-self (slot_of p.table number).first (slot_of p.table number).segments p.sediment,
      )

  -- a start or a step that leaves the parts as c, z and w; the table and the lists as its answer leaves them
  module _ (a : Outcome River) (c z w highest : List ℕ) (working : Working) (table : List Slot) (t : table ≡ table_after a p.table number x) where
    abbrev left : State
    left = state_after (state c z w) a x.upstream x.steps

    -- the lists as they came back, where a refused call leaves its state as it was
    came-back : ((k : ℕ) (place : Place) → a ≡ refused k place → left ≡ state_of p number) →
        returned table c z w ≡ left_after a p (with_state p number left)
    came-back still = written a refl t
      where
        written : (b : Outcome River) → a ≡ b → table ≡ table_after b p.table number x →
            returned table c z w ≡ left_after b p (with_state p number (state_after (state c z w) b x.upstream x.steps))
        written (accepted v) q t = rw (back-is c p.channel, back-is z p.storage, back-is w p.sediment, t, e)
        written (refused k place) q t = rw t (unmoved c z w x.upstream x.steps (rw q at (still k place q)))

    pub started : (cols : Columns) (before : List ℕ) (u : ℕ) →
        result_with a left highest working ≡ call_result x.segments parts (start cols before u) →
        result_with a (returned table c z w) highest working ≡ pool_result p number (start cols before u)
    started cols before u o =
        let o = o ∙ on-state (start cols before u) in
        on-pool p number pass (start cols before u) a left highest working _ o
        (came-back (λ k place q. ap (λ x. x.left.state) o ∙ refused-still _ _ (start cols before u) (sym (ap (λ x. x.answer) o) ∙ q)))

    pub stepped : (old : NumberSet) (new : Columns) (before : List ℕ) (works : Working) (u' M : ℕ) →
        result_with a left highest working ≡ call_result x.segments parts (step old new before works u' M) →
        result_with a (returned table c z w) highest working ≡ pool_result p number (step old new before works u' M)
    stepped old new before works u' M o =
        let o = o ∙ on-state (step old new before works u' M) in
        on-pool p number pass (step old new before works u' M) a left highest working _ o
        (came-back
        (λ k place q. ap (λ x. x.left.state) o ∙ refused-still _ _ (step old new before works u' M) (sym (ap (λ x. x.answer) o) ∙ q)))

  -- a report
  pub reports : (cols : Columns) (segment : ℕ) →
      (call_result x.segments parts (report cols segment)).answer ≡ (pool_result p number (report cols segment)).answer
  reports cols segment = ap (λ x. x.answer) (on-state (report cols segment)) ∙ sym (alike p number (report cols segment) pass).answer
