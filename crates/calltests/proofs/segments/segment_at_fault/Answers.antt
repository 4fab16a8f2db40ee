use Rattle.std.specs.Prelude.{ℕ, Bool, ◌≡◌, true, false}
use Rattle.std.proofs.Common.{rules}
use Rattle.std.proofs.lemmas.Iterator.{first_from_Range}
use Rattle.model.specs.Calls.{start_fault}
use Rattle.terms.specs.Lent.{columns_of}
use Rattle.calltests.proofs.Found.{below-first}
use Rattle.calltests.proofs.segments.segment_at_fault.Goals as goal

pub returns : goal.returns
returns c =
    let fault : ℕ → Bool = start_fault c.args.n (columns_of c.args.columns) in
    below-first fault c.args.n c.find.result
    (first_from_Range _ _ _ c.find.result (λ i. fault i ≡ true) (λ i. fault i ≡ false) c.find.ensures.ran (λ x q k. search rules) (λ x q k. search rules))
