-- `most_bands` meets its contract: the claims hold of all bands, and of all sheets.
use Rattle.bands_claim.proofs.Covering.{bands-cover}
use Rattle.bands_claim.proofs.Order.{order-free}
use Rattle.bands_claim.proofs.most_bands.Goals as goal

pub returns-clause-bands_cover : goal.returns-clause-bands_cover
returns-clause-bands_cover c = bands-cover

pub returns-clause-order_free : goal.returns-clause-order_free
returns-clause-order_free c = order-free
