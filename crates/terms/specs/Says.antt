-- "For an answer that is an enum, a definition gives this paper's number and values for each of its cases": the place, the finding,
-- the reach record, A, D and AS, and the half-step numbers of document 01 for each value of the code's types.
use Rattle.model.specs.Refusals as Document
use Rattle.model.specs.Sheet as Sheet
use Rattle.terms.specs.declared.Place.{Place}
use Rattle.terms.specs.declared.Place.TheVariants.{Nothing, Reach, Segment, Row}
use Rattle.std.specs.Prelude.{ℕ, Result, Ok, Err}
use Rattle.terms.specs.declared.Fault.{Fault}
use Rattle.terms.specs.declared.Refusal.{Refusal}
use Rattle.model.specs.HalfStep as HalfStep
use Rattle.terms.specs.declared.Reach as Record
use Rattle.terms.specs.declared.Hydraulics as Code
use Rattle.terms.specs.declared.Numbers.{Numbers}

abbrev pub place_says : Place → Document.Place
place_says Nothing = Document.nothing
place_says (Reach i) = Document.reach i
place_says (Segment i) = Document.segment i
place_says (Row i) = Document.row i

-- "A refusal carries its number"
abbrev pub fault_number : Fault → ℕ
fault_number Fault.Mark = 1
fault_number Fault.SheetEnds = 2
fault_number Fault.Count = 3
fault_number Fault.BytesFollow = 4
fault_number Fault.HeaderField = 5
fault_number Fault.ReachField = 6
fault_number Fault.SegmentCount = 7
fault_number Fault.BoundaryRow = 8
fault_number Fault.Gauge = 9
fault_number Fault.Flow = 10
fault_number Fault.Face = 11
fault_number Fault.HalfStepSum = 12
fault_number Fault.ListLength = 13
fault_number Fault.Figure = 14
fault_number Fault.StepsDone = 15
fault_number Fault.FlowRow = 16
fault_number Fault.Room = 17
fault_number Fault.NotOpen = 18
fault_number Fault.Band = 19
fault_number Fault.Horizon = 20

-- what a test or a row of tests finds, and what those of a call with this answer found
abbrev pub finding_says : {A : Type 0} → Result A Refusal → Document.Finding
finding_says (Ok value) = Document.passes
finding_says (Err refusal) = Document.fails (fault_number refusal.fault) (place_says refusal.place)

-- what a call answers, by what its value says
abbrev pub outcome_says : {A B : Type 0} → (A → B) → Result A Refusal → Document.Outcome B
outcome_says says (Ok value) = Document.accepted (says value)
outcome_says says (Err refusal) = Document.refused (fault_number refusal.fault) (place_says refusal.place)

abbrev pub reach_says : Record.Reach → Sheet.Reach
reach_says r = record {
  segments = r.segments;
  dispersion = r.dispersion;
  area = r.area;
  area2 = r.area2;
  alpha = r.alpha;
  qin = r.qin;
  qout = r.qout;
  cl = r.cl;
  lambda = r.lambda;
  lambda2 = r.lambda2;
  lamhat = r.lamhat;
  lamhat2 = r.lamhat2;
  rho = r.rho;
  kd = r.kd;
  cb = r.cb;
  start = r.start;
}

abbrev pub hydraulics_say : Code.Hydraulics → Sheet.Hydraulics
hydraulics_say x = record { area = x.area; dispersion = x.dispersion; area2 = x.area2 }

abbrev pub numbers_say : Numbers → HalfStep.Numbers
numbers_say n = record {
  e = n.e;
  g = n.g;
  l = n.l;
  a = n.a;
  b = n.b;
  k = n.k;
  ks = n.ks;
  h = n.h;
  m = n.m;
  s = n.s;
}
