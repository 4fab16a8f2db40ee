-- What an answer says: the values that the documents give it.
use Rattle.std.specs.Prelude.{Result}
use Rattle.model.specs.Refusals.{Outcome}
use Rattle.model.specs.Calls as Document
use Rattle.terms.specs.declared.Refusal.{Refusal}
use Rattle.terms.specs.Says.{outcome_says}
use Rattle.otis.specs.declared.River.{River}
use Rattle.otis.specs.declared.Figures.{Figures}

abbrev pub river_says : River → Document.River
river_says r = record { upstream = r.upstream; steps = r.steps }

abbrev pub figures_say : Figures → Document.Reported
figures_say f = record { channel = f.channel; storage = f.storage; sediment = f.sediment }

-- the answer of a start or a step
abbrev pub answer_says : Result River Refusal → Outcome Document.River
answer_says = outcome_says river_says

abbrev pub report_says : Result Figures Refusal → Outcome Document.Reported
report_says = outcome_says figures_say
