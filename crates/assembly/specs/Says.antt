-- "For an answer that is an enum, a definition gives this paper's number and values for each of its cases."
use Rattle.std.specs.Prelude.{Result}
use Rattle.model.specs.Refusals.{Outcome}
use Rattle.model.specs.Load as Document
use Rattle.terms.specs.Says.{outcome_says}
use Rattle.terms.specs.declared.Refusal.{Refusal}
use Rattle.assembly.specs.declared.Loaded.{Loaded}

abbrev pub loaded_says : Loaded → Document.Loaded
loaded_says r = record {
  steps = r.steps;
  interval = r.interval;
  segments = r.segments;
  rows_at = r.rowsat;
  rows = r.rows;
  gauges_at = r.gaugesat;
  gauges = r.gauges;
  flow_rows_at = r.flowrowsat;
  flow_rows = r.flowrows;
}

abbrev pub load_says : Result Loaded Refusal → Outcome Document.Loaded
load_says = outcome_says loaded_says
