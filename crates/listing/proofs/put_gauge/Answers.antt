-- `put_gauge` meets its contract.
use Rattle.listing.specs.Shown.{line_at}
use Rattle.listing.proofs.put_gauge.Goals as goal

pub returns : goal.returns
unfolding line_at
returns c = rw c.product-sorbed.ensures at c.put_line.ensures
