-- `Segment::new_sediment` meets its contract: the new figure is a concentration.
use mathlib.Core.Path.{◌≡◌, sym}
use native.Mathlib.Omega.{arith}
use Rattle.model.specs.Sweep.{new_figures, new_sediment}
use Rattle.segment.specs.Says.{pair_says, figures_say}
use Rattle.sweep_laws.proofs.Accepted.{figures-most}
use Rattle.segment.proofs.NoSorption.{sediment-stays}
use Rattle.segment.proofs.Segment.new_sediment.Goals as goal

-- without sorption
pub returns-then-new-eq0 : goal.returns-then-new-eq0
returns-then-new-eq0 c = sym (sediment-stays _ _ _ (omega arith) (omega arith))

pub returns : goal.returns
unfolding new_sediment
returns c = rw (c.with.ensures, c.sediment.ensures.right, c.sediment.ensures.divisor)

pub overflow_cast-result : goal.overflow_cast-result
unfolding new_figures
overflow_cast-result c =
    let same : c.with.result ≡ new_sediment (pair_says c.args.self.pair) (figures_say c.args.self.figures) c.args.c = returns c in
    let ready = c.args.self.ready in
    omega (arith, (figures-most _ _ ready.accepted ready.most _ c.requires).w)
