-- What a search answers as document 02, 5 has it: the number of a segment, or none.
use Rattle.std.specs.Prelude.{ℕ, Option, Some, None, Result}
use Rattle.std.proofs.Math.Option as Document
use Rattle.model.specs.Refusals.{Outcome}
use Rattle.terms.specs.declared.Refusal.{Refusal}
use Rattle.terms.specs.Says.{outcome_says}

abbrev pub found_says : Option ℕ → Document.Option ℕ
found_says (Some number) = Document.some number
found_says None = Document.none

abbrev pub search_says : Result (Option ℕ) Refusal → Outcome (Document.Option ℕ)
search_says = outcome_says found_says
