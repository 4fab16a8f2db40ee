-- `Segment::new_storage` meets its contract: the new figure is a concentration.
use mathlib.Core.Path.{◌≡◌}
use native.Mathlib.Omega.{arith}
use Rattle.model.specs.Sweep.{new_figures, new_storage}
use Rattle.segment.specs.Says.{pair_says, figures_say}
use Rattle.sweep_laws.proofs.Accepted.{figures-most}
use Rattle.segment.proofs.Segment.new_storage.Goals as goal

pub returns : goal.returns
unfolding new_storage
returns c = rw (c.with.ensures, c.storage.ensures.right, c.storage.ensures.divisor)

pub overflow_cast-result : goal.overflow_cast-result
unfolding new_figures
overflow_cast-result c =
    let same : c.with.result ≡ new_storage (pair_says c.args.self.pair) (figures_say c.args.self.figures) c.args.c = returns c in
    let ready = c.args.self.ready in
    omega (arith, (figures-most _ _ ready.accepted ready.most _ c.requires).z)
