use mathlib.Core.Path.{sym, ap, ◌∙◌}
use native.Mathlib.Omega.{arith}
use Rattle.lists.proofs.Lowest.{searching-start, searching-miss}
use Rattle.model.specs.Sheet.{Band}
use Rattle.terms.specs.Says.{reach_says}
use Rattle.bands.specs.Bands.{bands_say}
use Rattle.bands.proofs.Banded.{hydraulics-found, hydraulics-none}
use Rattle.bands.proofs.place.Bands.hydraulics_at.Goals as goal

pub loop-j-init : goal.loop-j-init
loop-j-init c = searching-start

pub returns-then-holds : goal.returns-then-holds
returns-then-holds c =
    let a = c.args in
    ap (λ (x : Band). x.hydraulics) c.band.ensures
    ∙ hydraulics-found (bands_say a.sheet.now a.self) (reach_says a.own) a.q c.loop-j.j c.loop-j.invariant (omega arith) (sym c.holds.ensures ∙ c.if-holds.true)

pub loop-j-preserved : goal.loop-j-preserved
loop-j-preserved c = searching-miss c.loop-j.invariant (omega arith) (sym c.holds.ensures ∙ c.if-holds.false)

pub returns : goal.returns
returns c =
    let a = c.args in
    hydraulics-none (bands_say a.sheet.now a.self) (reach_says a.own) a.q c.loop-j.j c.loop-j.invariant (omega arith)
