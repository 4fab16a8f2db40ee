-- What an answer says: U.
use Rattle.std.specs.Prelude.{ℕ, Result}
use Rattle.model.specs.Refusals.{Outcome}
use Rattle.terms.specs.declared.Refusal.{Refusal}
use Rattle.terms.specs.Says.{outcome_says}

abbrev pub upstream_says : Result ℕ Refusal → Outcome ℕ
upstream_says = outcome_says (λ u. u)
