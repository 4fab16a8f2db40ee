-- `put_sheet` meets its contract: the listing, or the refusal of the first test that fails.
use mathlib.Core.Path.{sym, ap, ◌∙◌}
use Rattle.terms.specs.Says.{finding_says}
use Rattle.river.proofs.Running.{put-listing, put-refused-sheet}
use Rattle.river.proofs.put_sheet.Goals as goal

pub put_listing-requires : goal.put_listing-requires
put_listing-requires c = sym c.river_test.ensures ∙ ap finding_says c.in-Ok.is

pub returns-in-Ok : goal.returns-in-Ok
returns-in-Ok c = put-listing c.new-out.ensures c.put_listing.ensures

pub returns-in-Err : goal.returns-in-Err
returns-in-Err c =
    put-refused-sheet _ _ (sym c.river_test.ensures ∙ ap finding_says c.in-Err.is) c.new-out.ensures (rw c.number.ensures at c.put_refused.ensures)
