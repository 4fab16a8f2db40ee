-- How a river in a pool follows its own calls, and what the claim says of one that does.
use mathlib.Core.Path.{◌≡◌, sym, ap, subst, ◌∙◌}
use mathlib.Core.Bool.{true, false, true≢false}
use mathlib.Core.List.{List}
use mathlib.Core.Option.{Option, none, some}
use Prim.Native.Nat.{ℕ, ◌-◌, ◌<◌, ◌≤◌}
use native.Mathlib.Omega.{arith}
use lib.Dec.{T}
use lib.ListN.{length}
use Rattle.lists.proofs.Stretch.{length-stretch}
use Rattle.model.specs.Ranges.{most_rivers}
use Rattle.model.specs.Sheet.{Reach}
use Rattle.model.specs.State.{Columns, State}
use Rattle.model.specs.Refusals.{accepted, passes, first}
use Rattle.model.specs.Load.{loaded, load_answer}
use Rattle.model.specs.Calls.{start, call_result}
use Rattle.model.specs.Search.{SearchAnswer}
use Rattle.model.specs.Runs.{LoneCall, alone, accepts, after, run, OwnLists, AsLoaded, Fed}
use Rattle.model.specs.Pool.{is_open, slot_of, Pool, shared_lists, state_of, number_fault, shared_fault, pool_result, close_finding}
use Rattle.model.specs.PoolRuns.{Own, own_start, own_calls, with_call}
use Rattle.model.specs.PoolClaim.{Alike, AsAlone, Shown}
use Rattle.distance_claim.proofs.Claim.{demand3}
use Rattle.pool_laws.proofs.Tables.{fault-apart, clear-number}
use Rattle.pool_laws.proofs.Pools.{long-shared, Sound, Beside}
use Rattle.pool_claim.proofs.Lengths.{run-last}
use Rattle.pool_laws.proofs.Answers.{front_tests, tests-pass, alike, search-alone, search-on-pool}
use Rattle.pool_claim.proofs.Answers.{not-open}

-- how a river began: a loading of its sheet was accepted, and a start on the lists that it left is, into any lists of its own
pub record Begun (sheet : List ℕ) (n : ℕ) (lent : Columns) (highest : List ℕ) (u : ℕ) : Type 0 where
  pub flow : ℕ
  pub records : List Reach
  pub columns : Columns
  pub loading : load_answer sheet flow (length records) columns ≡ accepted (loaded sheet)
  pub lists : AsLoaded sheet n lent
  pub starts : (before : State) → OwnLists n before → T (accepts before (alone n (start lent highest u)))

-- an open river whose state is the one that its own calls give, made alone
pub record Following (pool : Pool) (number : ℕ) (own : Own) : Type 0 where
  pub least : 1 ≤ number
  pub most : number ≤ most_rivers
  pub opened : is_open (slot_of pool.table number) ≡ true
  pub segments : (slot_of pool.table number).segments ≡ own.count
  pub begun : Begun own.sheet own.count own.columns own.highest own.u
  pub figures : (before : State) → OwnLists own.count before → state_of pool number ≡ run before (own_calls own)

-- the river with this number, by its own calls
abbrev pub Follows : Pool → (number : ℕ) → Option Own → Type 0
Follows pool number none = 1 ≤ number → number ≤ most_rivers → is_open (slot_of pool.table number) ≡ false
Follows pool number (some own) = Following pool number own

-- ---- what keeps it

-- a call on another river
pub follows-beside : {before after : Pool} {number : ℕ} (own : Option Own) → (1 ≤ number → number ≤ most_rivers → Beside before after number) →
    Follows before number own → Follows after number own
follows-beside none beside f = λ h l. (beside h l).opened ∙ f h l
follows-beside (some own) beside f =
    let b = beside f.least f.most in
    record {
      least = f.least;
      most = f.most;
      opened = b.opened ∙ f.opened;
      segments = b.segments ∙ f.segments;
      begun = f.begun;
      figures = λ state lists. b.state f.opened ∙ f.figures state lists;
    }

-- an accepted call on the river itself: one call more
pub follows-call : (before later : Pool) (number : ℕ) (call : LoneCall) (own : Option Own) → 1 ≤ number → number ≤ most_rivers →
    is_open (slot_of before.table number) ≡ true → is_open (slot_of later.table number) ≡ true →
    (slot_of later.table number).segments ≡ (slot_of before.table number).segments → state_of later number ≡ after (state_of before number) call →
    Follows before number own → Follows later number (with_call call own)
unfolding run
follows-call before later number call none h l o p n e f = absurd (true≢false (sym o ∙ f h l))
follows-call before later number call (some own) h l o p n e f = record {
  least = h;
  most = l;
  opened = p;
  segments = n ∙ f.segments;
  begun = f.begun;
  figures = λ state lists.
      e ∙ ap (λ s. after s call) (f.figures state lists)
      ∙ sym (run-last (after state (own_start own)) own.since call);
}

-- ---- what the claim says of it

-- an open river's lists are as long as the river
pub open-lists : (pool : Pool) (number : ℕ) → Sound pool → 1 ≤ number → number ≤ most_rivers → is_open (slot_of pool.table number) ≡ true →
    OwnLists (slot_of pool.table number).segments (state_of pool number)
open-lists pool number sound h l o =
    let place : number - 1 < most_rivers = omega arith in
    let x = slot_of pool.table number in
    let ends = (fault-apart pool.table sound.table).ends (number - 1) place o in
    let long = sound.long (number - 1) place o in
    record {
      channel = length-stretch x.first x.segments pool.channel (omega (arith, ends, long.channel));
      storage = length-stretch x.first x.segments pool.storage (omega (arith, ends, long.storage));
      sediment = length-stretch x.first x.segments pool.sediment (omega (arith, ends, long.sediment));
    }

module _ (pool : Pool) (number : ℕ) (sound : Sound pool) where
  module _ (own : Own) (f : Following pool number own) where
    -- 18 finds nothing
    clear : number_fault pool.table number ≡ false
    clear = clear-number pool.table number f.least f.most f.opened sound.table

    -- nor does 13 in the shared lists
    shared : shared_fault (shared_lists pool) ≡ false
    shared = let place : number - 1 < most_rivers = omega (arith, f.least, f.most) in long-shared pool (sound.long (number - 1) place f.opened)

    -- so the pool's own tests pass
    pub pass : first (front_tests pool number) ≡ passes
    pass = tests-pass pool number clear shared

    -- it is as the same calls make it alone
    as-alone : (before : State) → OwnLists own.count before → AsAlone pool number own before
    as-alone before lists =
        let state : state_of pool number ≡ run before (own_calls own) = f.figures before lists in
        record {
          figures = state;
          calls = λ call.
              subst (λ n. Alike (pool_result pool number call) (call_result n (run before (own_calls own)) call)) f.segments
              (subst (λ (x : State). Alike (pool_result pool number call) (call_result (slot_of pool.table number).segments x call)) state (alike pool number call pass));
          searches = λ highest limit answer s.
              subst (λ (x : State). SearchAnswer own.count x.channel highest limit answer) state
              (subst (λ n. SearchAnswer n (state_of pool number).channel highest limit answer) f.segments (search-alone pool number pass highest limit answer s));
          searches_all = λ highest limit answer s.
              search-on-pool pool number pass highest limit answer
              (subst (λ n. SearchAnswer n (state_of pool number).channel highest limit answer) (sym f.segments)
              (subst (λ (x : State). SearchAnswer own.count x.channel highest limit answer) (sym state) s));
          demand3 = λ fed. let b = f.begun in
              demand3 own.sheet b.flow b.records b.columns (loaded own.sheet) b.loading before own.count own.columns own.highest own.u own.since
              (b.starts before lists) (Fed.more (λ a. b.lists) fed);
        }

  -- a river that follows its own calls is as the claim says
  pub shown : (own : Option Own) → Follows pool number own → Shown pool number own
  unfolding close_finding
  shown none f = not-open pool number f
  shown (some own) f = record {
    from = f.least;
    to = f.most;
    opened = f.opened;
    segments = f.segments;
    closes = rw (clear own f);
    alone = as-alone own f;
  }
