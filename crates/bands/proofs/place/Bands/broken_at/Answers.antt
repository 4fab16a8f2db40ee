-- `Bands::broken_at` meets its contract: the three parts of the rule, one behind the other. Assumes nothing.
use mathlib.Core.Path.{◌≡◌, sym, ap, ◌∙◌}
use mathlib.Core.Bool.{◌||◌}
use Rattle.lists.specs.Lists.{any_below}
use Rattle.model.specs.Bands.{band_fault, overlap, gap_behind, broken_at}
use Rattle.bands.specs.Bands.{bands_say}
use Rattle.bands.proofs.place.Bands.broken_at.Goals as goal
use Rattle.bands.proofs.place.Bands.broken_at.Goals.{then-fault, else-fault}

pub returns-then-overlaps : goal.returns-then-overlaps
unfolding broken_at
returns-then-overlaps c =
    let a = c.args in
    let bands = bands_say a.sheet.now a.self in
    let alone = sym (c.fault.ensures ∙ ap band_fault c.band-band.ensures) in
    let two : c.if-fault.value ≡ (band_fault (bands.band a.i) || any_below a.i (λ j. overlap (bands.band a.i) (bands.band j))) =
    elim c.if-fault.branch [
      | then-fault w ↦ rw (alone ∙ w.if-fault.true) (w.value-is ∙ w.if-fault.true)
      | else-fault w ↦ rw (alone ∙ w.if-fault.false)
          (w.value-is ∙ w.overlaps.ensures ∙ ap (λ x. any_below a.i (λ j. overlap x (bands.band j))) c.band-band.ensures)
    ] in
    rw (← two, c.if-overlaps.true)

pub returns-else-overlaps : goal.returns-else-overlaps
unfolding broken_at
returns-else-overlaps c =
    let a = c.args in
    let bands = bands_say a.sheet.now a.self in
    let alone = sym (c.fault.ensures ∙ ap band_fault c.band-band.ensures) in
    let two : c.if-fault.value ≡ (band_fault (bands.band a.i) || any_below a.i (λ j. overlap (bands.band a.i) (bands.band j))) =
    elim c.if-fault.branch [
      | then-fault w ↦ rw (alone ∙ w.if-fault.true) (w.value-is ∙ w.if-fault.true)
      | else-fault w ↦ rw (alone ∙ w.if-fault.false)
          (w.value-is ∙ w.overlaps.ensures ∙ ap (λ x. any_below a.i (λ j. overlap x (bands.band j))) c.band-band.ensures)
    ] in
    rw (← two, c.if-overlaps.false) (c.gap_behind.ensures ∙ ap (gap_behind bands) c.band-band.ensures)
