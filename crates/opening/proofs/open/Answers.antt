use mathlib.Core.List.{map}
use mathlib.Core.Path.{ap, sym, ◌∙◌}
use lib.ListN.{length-map}
use Rattle.model.specs.Sheet.{reach_count}
use Rattle.model.specs.Pool.{open_answer}
use Rattle.terms.specs.Says.{reach_says}
use Rattle.terms.specs.Lent.{columns_lent, pool_lent}
use Rattle.records.specs.Records.{filled, fill_count}
use Rattle.records.proofs.Filled.{open-records}
use Rattle.opening.proofs.open.Goals as goal

pub returns-clause-records : goal.returns-clause-records
returns-clause-records c =
    let a = c.args in
    let sheet = a.sheet.now in
    let before = map reach_says a.reaches.now in
    let lent = columns_lent a.columns.now in
    let shared = pool_lent a.shared.now a.table.now in
    let answer = c.open_lists-answer.ensures.answer
    ∙ ap (λ n. open_answer sheet a.row n lent shared a.river a.highest.now a.u) (sym (length-map a.reaches.now reach_says)) in
    c.fill.ensures
    ∙ ap (λ n. filled sheet n before) (c.fill_count.ensures ∙ ap (λ t. fill_count t (reach_count sheet)) answer)
    ∙ open-records sheet a.row before lent shared a.river a.highest.now a.u
