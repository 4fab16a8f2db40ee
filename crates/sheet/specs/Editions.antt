-- The number of the edition that a mark stands for, 0 where a sheet has none.
use Rattle.std.specs.Prelude.{ℕ, Option, None, Some}
use Rattle.sheet.specs.declared.editions.Mark.{Mark}
use Rattle.sheet.specs.declared.editions.Mark.TheVariants.{Otr1, Otr2, Otr3}

abbrev pub mark_says : Option Mark → ℕ
mark_says None = 0
mark_says (Some Otr1) = 1
mark_says (Some Otr2) = 2
mark_says (Some Otr3) = 3
