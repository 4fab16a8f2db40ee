-- `load` meets its contract: what is filled by its answer is what document 01 says of it. Assumes nothing.
use mathlib.Core.List.{map}
use mathlib.Core.Path.{ap, sym, ◌∙◌}
use lib.ListN.{length-map}
use Rattle.model.specs.Sheet.{reach_count}
use Rattle.model.specs.Load.{load_answer}
use Rattle.terms.specs.Says.{reach_says}
use Rattle.terms.specs.Lent.{columns_lent}
use Rattle.records.specs.Records.{filled, fill_count}
use Rattle.records.proofs.Filled.{load-records}
use Rattle.loading.proofs.load.Goals as goal

pub returns-clause-records : goal.returns-clause-records
returns-clause-records c =
    let a = c.args in
    let sheet = a.sheet.now in
    let before = map reach_says a.reaches.now in
    let lent = columns_lent a.columns.now in
    let answer = c.assemble-answer.ensures.answer ∙ ap (λ n. load_answer sheet a.row n lent) (sym (length-map a.reaches.now reach_says)) in
    c.fill.ensures
    ∙ ap (λ n. filled sheet n before) (c.fill_count.ensures ∙ ap (λ t. fill_count t (reach_count sheet)) answer)
    ∙ load-records sheet a.row before lent
