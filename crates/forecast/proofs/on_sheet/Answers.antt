-- `on_sheet` meets its contract: a gauge is at the segment, or none is.
use mathlib.Core.Path.{refl, ◌∙◌}
use native.Mathlib.Nat.{sub-zero}
use lib.Dec.{eqb}
use Rattle.std.proofs.Common.{rules}
use Rattle.std.proofs.lemmas.Iterator.{YieldsList-from_range}
use Rattle.std.proofs.lemmas.Iterator.Search.{any_from_yields_List}
use Rattle.model.specs.Ranges.{gauge_section}
use Rattle.model.specs.Sheet.{record_field, gauge_count_at}
use Rattle.forecast.proofs.Gauges.{any-listed, gauge-at}
use Rattle.forecast.proofs.on_sheet.Goals as goal

pub returns : goal.returns
returns c =
    let sheet = c.args.sheet.now in
    let count = c.gauge_count.result in
    any_from_yields_List (λ j. eqb (record_field sheet (gauge_count_at sheet) gauge_section j 0) c.args.segment) _ _ _ c.any.ensures.ran
    (YieldsList-from_range 0 count count refl (sub-zero count)) (λ x b q k. search rules)
    ∙ rw c.gauge_count.ensures (any-listed _ _ _ (gauge-at sheet c.args.segment))
