-- `Bands::fault` meets its contract: one of the bands is at fault, or flow 0 has none. Assumes nothing.
use mathlib.Core.Path.{sym, ◌∙◌}
use native.Mathlib.Omega.{arith}
use borrow.Author.Tests.{lt-ltb}
use Rattle.std.proofs.Common.{rules}
use Rattle.std.proofs.lemmas.Iterator.{YieldsList-from_range}
use Rattle.std.proofs.lemmas.Iterator.Search.{any_from_yields_List}
use Rattle.model.specs.Bands.{broken_at, bands_fault}
use Rattle.bands.specs.Bands.{bands_say}
use Rattle.lists.proofs.AnyBelow.{below-any}
use Rattle.bands.proofs.place.Bands.fault.Goals as goal

pub returns-then-self-eq0 : goal.returns-then-self-eq0
unfolding bands_fault
returns-then-self-eq0 c = rw c.if-self-eq0.true

pub returns-then-not-begins : goal.returns-then-not-begins
unfolding bands_fault
returns-then-not-begins c =
    rw (lt-ltb 0 c.args.self.count (omega arith), c.begins.ensures, sym c.begins.ensures ∙ c.if-not-begins.true)

pub returns-else-not-begins : goal.returns-else-not-begins
unfolding bands_fault
returns-else-not-begins c =
    let bands = bands_say c.args.sheet.now c.args.self in
    let n = c.args.self.count in
    rw (lt-ltb 0 n (omega arith), sym c.begins.ensures ∙ c.if-not-begins.false)
    (any_from_yields_List (broken_at bands) _ _ _ c.any.ensures.ran (YieldsList-from_range 0 n n (search rules) (search rules)) (λ x b q k. search rules)
    ∙ below-any (broken_at bands) n)
