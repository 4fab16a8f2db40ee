use Rattle.std.proofs.Common.{ap, ◌∙◌, arith}
use Rattle.std.proofs.lemmas.Result.{err_from_is_err_and}
use Rattle.model.specs.State.{Columns}
use Rattle.pool.proofs.Opened.{refused-answer, refused-columns, refused-pool, refused-highest, fits, ready, open-answer, open-columns, open-pool, open-highest}
use Rattle.pool.proofs.open_lists.Goals as goal

pub returns-in_err-open_test-clause-answer : goal.returns-in_err-open_test-clause-answer
returns-in_err-open_test-clause-answer c =
    let p = err_from_is_err_and c.from_residual.result c.from_residual.ensures.1 in
    rw (p.1, p.2) (refused-answer _ _ _ _ _ _ _ _ c.in_err-open_test.ensures)

pub returns-in_err-open_test-clause-lists : goal.returns-in_err-open_test-clause-lists
returns-in_err-open_test-clause-lists c = refused-columns _ _ _ _ _ _ _ _ c.in_err-open_test.ensures

pub returns-in_err-open_test-clause-pool : goal.returns-in_err-open_test-clause-pool
returns-in_err-open_test-clause-pool c = refused-pool _ _ _ _ _ _ _ _ c.in_err-open_test.ensures

pub returns-in_err-open_test-clause-highest : goal.returns-in_err-open_test-clause-highest
returns-in_err-open_test-clause-highest c = refused-highest _ _ _ _ _ _ _ _ c.in_err-open_test.ensures

pub written-loaded-requires : goal.written-loaded-requires
written-loaded-requires c = fits _ _ _ _ _ _ _ _ c.in_ok-open_test.ensures

pub pack_with-requires : goal.pack_with-requires
pack_with-requires c =
    let all = ready _ _ _ _ _ _ _ _ c.in_ok-open_test.ensures c.written-loaded.ensures.values (ap (λ (x : Columns). x.start) c.written-loaded.ensures.lists) in
    (all.room, all.figures, all.channel)

pub pack_with-requires-2 : goal.pack_with-requires-2
pack_with-requires-2 c =
    let all = ready _ _ _ _ _ _ _ _ c.in_ok-open_test.ensures c.written-loaded.ensures.values (ap (λ (x : Columns). x.start) c.written-loaded.ensures.lists) in
    (all.room, all.figures, all.storage)

pub pack_with-requires-3 : goal.pack_with-requires-3
pack_with-requires-3 c =
    let all = ready _ _ _ _ _ _ _ _ c.in_ok-open_test.ensures c.written-loaded.ensures.values (ap (λ (x : Columns). x.start) c.written-loaded.ensures.lists) in
    (all.room, all.figures, all.sediment)

pub fill-requires : goal.fill-requires
fill-requires c =
    let all = ready _ _ _ _ _ _ _ _ c.in_ok-open_test.ensures c.written-loaded.ensures.values (ap (λ (x : Columns). x.start) c.written-loaded.ensures.lists) in
    (omega (arith, all.room), all.figures, all.blocks)

pub overflow_sub-river : goal.overflow_sub-river
overflow_sub-river c =
    (ready _ _ _ _ _ _ _ _ c.in_ok-open_test.ensures c.written-loaded.ensures.values (ap (λ (x : Columns). x.start) c.written-loaded.ensures.lists)).from

pub pack_table-requires : goal.pack_table-requires
pack_table-requires c =
    (ready _ _ _ _ _ _ _ _ c.in_ok-open_test.ensures c.written-loaded.ensures.values (ap (λ (x : Columns). x.start) c.written-loaded.ensures.lists)).table

pub returns-clause-answer : goal.returns-clause-answer
returns-clause-answer c = open-answer _ _ _ _ _ _ _ _ c.in_ok-open_test.ensures c.written-loaded.ensures.values

pub returns-clause-lists : goal.returns-clause-lists
returns-clause-lists c = c.written-loaded.ensures.lists ∙ open-columns _ _ _ _ _ _ _ _ c.in_ok-open_test.ensures

pub returns-clause-pool : goal.returns-clause-pool
returns-clause-pool c =
    open-pool _ _ _ _ _ _ _ _ c.in_ok-open_test.ensures c.written-loaded.ensures.values (ap (λ (x : Columns). x.start) c.written-loaded.ensures.lists)
    c.pack_with.ensures c.pack_with-2.ensures c.pack_with-3.ensures c.pack_table.ensures

pub returns-clause-highest : goal.returns-clause-highest
returns-clause-highest c =
    open-highest _ _ _ _ _ _ _ _ c.in_ok-open_test.ensures c.written-loaded.ensures.values (ap (λ (x : Columns). x.start) c.written-loaded.ensures.lists)
    c.fill.ensures
