use Rattle.std.specs.Prelude.{ℕ, Bool, ◌≡◌, true, false}
use Rattle.std.proofs.Common.{rules}
use Rattle.std.proofs.lemmas.Iterator.{first_from_Range}
use Rattle.model.specs.Calls.{old_fault}
use Rattle.terms.specs.Lent.{set_of}
use Rattle.calltests.proofs.Found.{below-first}
use Rattle.calltests.proofs.RiverLaws.{old-fault-at}
use Rattle.calltests.proofs.segments.numbers_at_fault.Goals as goal

pub returns : goal.returns
returns c =
    let fault : ℕ → Bool = old_fault c.args.n (set_of c.args.numbers) in
    below-first fault c.args.n c.find.result
    (first_from_Range _ _ _ c.find.result (λ i. fault i ≡ true) (λ i. fault i ≡ false) c.find.ensures.ran
    (λ x q k. old-fault-at _ _ _ _ (search rules)) (λ x q k. (search rules, old-fault-at _ _ _ _ (search rules))))
