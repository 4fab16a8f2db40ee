use mathlib.Core.Path.{refl}
use Rattle.terms.specs.Lent.{columns_lent}
use Rattle.assembly.proofs.list_test.Goals as goal

pub returns : goal.returns
returns c = c.lengths_test.ensures (columns_lent c.args.columns.now) refl
