-- `edition` meets its contract, of each mark and of none. Assumes nothing.
use Rattle.model.specs.Sheet.{otr1, otr2, otr3, edition}
use Rattle.sheet.proofs.Marked.{marked, not-marked}
use Rattle.sheet.proofs.editions.edition.Goals as goal

pub returns-then-starts_with : goal.returns-then-starts_with
unfolding edition
returns-then-starts_with c = rw (marked c.args.sheet.now otr1 c.starts_with.ensures.value c.if-starts_with.true)

pub returns-then-starts_with-2 : goal.returns-then-starts_with-2
unfolding edition
returns-then-starts_with-2 c =
    let sheet = c.args.sheet.now in
    rw (
      not-marked sheet otr1 c.starts_with.ensures.value c.if-starts_with.false,
      marked sheet otr2 c.starts_with-2.ensures.value c.if-starts_with-2.true,
    )

pub returns-then-starts_with-3 : goal.returns-then-starts_with-3
unfolding edition
returns-then-starts_with-3 c =
    let sheet = c.args.sheet.now in
    rw (
      not-marked sheet otr1 c.starts_with.ensures.value c.if-starts_with.false,
      not-marked sheet otr2 c.starts_with-2.ensures.value c.if-starts_with-2.false,
      marked sheet otr3 c.starts_with-3.ensures.value c.if-starts_with-3.true,
    )

pub returns : goal.returns
unfolding edition
returns c =
    let sheet = c.args.sheet.now in
    rw (
      not-marked sheet otr1 c.starts_with.ensures.value c.if-starts_with.false,
      not-marked sheet otr2 c.starts_with-2.ensures.value c.if-starts_with-2.false,
      not-marked sheet otr3 c.starts_with-3.ensures.value c.if-starts_with-3.false,
    )
