-- `on_pool` meets its contract: the sheet's tests, the pool's own, and the forecast on the river's stretch.
use mathlib.Core.Path.{refl, sym, ◌∙◌}
use Rattle.std.proofs.lemmas.Result.{err_from_is_err_and}
use Rattle.pool_table.specs.Says.{slot_says}
use Rattle.pool.proofs.Stretched.{stands, parts_are}
use Rattle.forecast.proofs.Answers.{pool-sheet-fails, pool-fails, pool-passes}
use Rattle.forecast.proofs.on_pool.Goals as goal

pub returns-in_err-river_test-clause-result : goal.returns-in_err-river_test-clause-result
returns-in_err-river_test-clause-result c = λ upstream steps.
    let p = err_from_is_err_and c.from_residual.result c.from_residual.ensures.1 in
    rw (p.1, p.2)
    (pool-sheet-fails _ _ _ _ _ _
    (sym c.in_err-river_test.ensures))

pub returns-in_err-slot-clause-result : goal.returns-in_err-slot-clause-result
returns-in_err-slot-clause-result c = λ upstream steps.
    let p = err_from_is_err_and c.from_residual-in_err-slot.result c.from_residual-in_err-slot.ensures.1 in
    rw (p.1, p.2)
    (pool-fails _ _ _ _ _ _
    (sym c.in_ok-river_test.ensures) (sym c.in_err-slot.ensures.finding))

pub slice_bounds-live-end : goal.slice_bounds-live-end
slice_bounds-live-end c =
    (stands _ _ refl c.args.river c.in_ok-slot.ensures.finding
    (slot_says c.in_ok-slot.slot) c.in_ok-slot.ensures.slot _ _ c.stretch-first.ensures).channel

pub slice_bounds-live-end-2 : goal.slice_bounds-live-end-2
slice_bounds-live-end-2 c =
    (stands _ _ refl c.args.river c.in_ok-slot.ensures.finding
    (slot_says c.in_ok-slot.slot) c.in_ok-slot.ensures.slot _ _ c.stretch-first.ensures).storage

pub slice_bounds-live-end-3 : goal.slice_bounds-live-end-3
slice_bounds-live-end-3 c =
    (stands _ _ refl c.args.river c.in_ok-slot.ensures.finding
    (slot_says c.in_ok-slot.slot) c.in_ok-slot.ensures.slot _ _ c.stretch-first.ensures).sediment

pub returns-clause-result : goal.returns-clause-result
returns-clause-result c = λ upstream steps. c.behind.ensures.result upstream steps
    ∙ pool-passes _ _ _ _ _ _
    (sym c.in_ok-river_test.ensures) (sym c.in_ok-slot.ensures.finding) (slot_says c.in_ok-slot.slot) c.in_ok-slot.ensures.slot _
    (parts_are _ _ refl c.args.river c.in_ok-slot.ensures.finding (slot_says c.in_ok-slot.slot) c.in_ok-slot.ensures.slot _ _ c.stretch-first.ensures)
