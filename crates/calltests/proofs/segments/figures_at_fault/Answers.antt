use Rattle.std.proofs.Common.{rules}
use Rattle.std.proofs.lemmas.Iterator.{first_from_Range}
use Rattle.std.specs.Prelude.{ℕ, Bool, ◌≡◌, true, false}
use Rattle.model.specs.State.{figures_at}
use Rattle.model.specs.Calls.{figure_fault}
use Rattle.terms.specs.Lent.{state_of}
use Rattle.calltests.proofs.Found.{below-first}
use Rattle.calltests.proofs.segments.figures_at_fault.Goals as goal

pub returns : goal.returns
unfolding figures_at
returns c =
    let fault : ℕ → Bool = λ i. figure_fault (figures_at (state_of c.args.state 0 0) i) in
    below-first fault c.args.n c.find.result
    (first_from_Range _ _ _ c.find.result (λ i. fault i ≡ true) (λ i. fault i ≡ false) c.find.ensures.ran (λ x q k. search rules) (λ x q k. search rules))
