-- `look` meets its contract: the state is copied, both sides are filled, and the copies are stepped ahead.
use mathlib.Core.Path.{refl}
use Rattle.forecast.proofs.Looking.{few-segments, at-inside, begun-ready, not_back, stopped-long, looked}
use Rattle.forecast.proofs.look.Goals as goal

pub run-stopped-requires : goal.run-stopped-requires
run-stopped-requires c =
    let fit = c.requires in
    (begun-ready _ _ _ _ fit c.copy.ensures c.copy-2.ensures c.copy-3.ensures c.hold.ensures, fit.few, at-inside _ _ _ _ fit)

pub overflow_sub-stopped : goal.overflow_sub-stopped
overflow_sub-stopped c =
    not_back _ _ _ _ c.requires c.copy.ensures c.copy-2.ensures c.copy-3.ensures c.hold.ensures c.run-stopped.ensures.ran

pub copy_highest-requires : goal.copy_highest-requires
copy_highest-requires c =
    let fit = c.requires in
    let long = stopped-long _ _ _ _ fit c.copy.ensures c.copy-2.ensures c.copy-3.ensures c.hold.ensures c.run-stopped.ensures.ran in
    (few-segments _ _ _ _ fit, fit.blocks, long, fit.copies_blocks)

pub returns-clause-looked : goal.returns-clause-looked
returns-clause-looked c =
    looked _ _ _ _ c.requires c.copy.ensures c.copy-2.ensures c.copy-3.ensures c.hold.ensures c.run-stopped.ensures.ran
    _ _ _ c.run-stopped.result _ refl refl refl c.copy_highest.ensures refl c.found.ensures
