-- Several rivers in a pool, proved: one claim about every list of calls and every number.
use mathlib.Core.Path.{◌≡◌, refl, sym}
use mathlib.Core.Bool.{Bool, true, false, cond, ◌&&◌, and-false, and-true}
use mathlib.Core.List.{List, [], ◌∷◌}
use mathlib.Core.Option.{Option, none}
use Prim.Native.Nat.{ℕ, ◌-◌}
use native.Mathlib.Omega.{arith}
use borrow.Author.Tests.{eqb-true, eqb-false}
use lib.Dec.{eqb}
use Rattle.model.specs.Pool.{Pool}
use Rattle.model.specs.PoolRuns.{PoolCall, named, pool_accepts, after_call, run_pool, Own, own_after, own_since}
use Rattle.model.specs.PoolClaim.{NoneOpen, Sharing}
use Rattle.pool_laws.proofs.Pools.{none-sound, Sound}
use Rattle.pool_claim.proofs.Opens.{opens-alone}
use Rattle.pool_claim.proofs.Follows.{Follows, follows-beside, shown}
use Rattle.pool_claim.proofs.Calls.{Changed, Does, does}

-- a sound pool in which the river with this number follows its own calls
pub record Going (pool : Pool) (number : ℕ) (own : Option Own) : Type 0 where
  pub sound : Sound pool
  pub follows : Follows pool number own

-- with none open it has none
pub none_going : (pool : Pool) (number : ℕ) → NoneOpen pool → Going pool number none
none_going pool number r = record { sound = none-sound pool r; follows = λ h l. r.closed (number - 1) (omega arith) }

-- an accepted call, of this number or of another
changed-going : (before later : Pool) (call number : ℕ) (more : Option Own → Option Own) (own : Option Own) (t : Bool) → eqb call number ≡ t →
    Changed before later call more → Follows before number own → Going later number (cond t (more own) own)
changed-going before later call number more own true e c f =
    let q = eqb-true call number e in
    record { sound = c.sound; follows = rw (← q) (c.own own (rw q f)) }
changed-going before later call number more own false e c f =
    record { sound = c.sound; follows = follows-beside own (λ h l. c.others number h l (λ q. eqb-false call number e (sym q))) f }

-- any call
pub call-going : (pool : Pool) (call : PoolCall) (number : ℕ) (own : Option Own) → Going pool number own →
    Going (after_call pool call) number (cond (eqb (named call) number && pool_accepts pool call) (own_after pool call own) own)
call-going pool call number own g = go (does pool call g.sound)
  where
    go : Does pool call → Going (after_call pool call) number (cond (eqb (named call) number && pool_accepts pool call) (own_after pool call own) own)
    go (Does.refuses e q) = rw (e, q, and-false (eqb (named call) number)) g
    go (Does.changes e c) =
        rw (e, and-true (eqb (named call) number))
        (changed-going pool (after_call pool call) (named call) number (own_after pool call) own (eqb (named call) number) refl c g.follows)

-- a list of calls
pub run-going : (pool : Pool) (calls : List PoolCall) (number : ℕ) (own : Option Own) → Going pool number own →
    Going (run_pool pool calls) number (own_since number pool calls own)
unfolding run_pool own_since
run-going pool [] number own g = g
run-going pool (call ∷ calls) number own g = run-going (after_call pool call) calls number _ (call-going pool call number own g)

-- the claim
pub sharing : Sharing
sharing before none_open calls number =
    let g = run-going before calls number none (none_going before number none_open) in
    (shown (run_pool before calls) number g.sound (own_since number before calls none) g.follows, opens-alone (run_pool before calls) number g.sound.table)
