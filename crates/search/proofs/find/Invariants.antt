use Rattle.std.proofs.Common.{◌≡◌, ℕ, ◌*◌, ◌<◌, None}
use Rattle.model.specs.Search.{Above}
use Rattle.search.proofs.find.Given as goal

-- none of the first segments is above in a block that is
abbrev pub invariant-loop-i : goal.invariant-loop-i
invariant-loop-i l = record { not_yet : l.found ≡ None; none : (k : ℕ) → k < l.i → Above l.n l.channel l.highest l.limit k → ⊥ }

abbrev pub invariant-blocks-2 : goal.invariant-blocks-2
invariant-blocks-2 l = record { not_yet : l.found ≡ None; none : (k : ℕ) → k < l.b * 16 → Above l.n l.channel l.highest l.limit k → ⊥ }
