-- The list of reach records: what stands past its end, and what a loading fills.
use Rattle.std.specs.Prelude.{List, ℕ, min, length}
use Rattle.lists.specs.Lists.{tab, over}
use Rattle.model.specs.Sheet.{Reach, reach_on}
use Rattle.model.specs.Refusals.{Outcome, accepted, refused}
use Rattle.model.specs.Load.{Loaded}
use Rattle.terms.specs.declared.Reach as Record

-- a record of zeros, which is taken where the list has ended
abbrev pub no_reach : Record.Reach
no_reach = record {
  segments = 0;
  dispersion = 0;
  area = 0;
  area2 = 0;
  alpha = 0;
  qin = 0;
  qout = 0;
  cl = 0;
  lambda = 0;
  lambda2 = 0;
  lamhat = 0;
  lamhat2 = 0;
  rho = 0;
  kd = 0;
  cb = 0;
  start = 0;
}

-- the sheet's first `count` reaches over the list's first entries, as far as it reaches
unfoldable pub filled : List ℕ → (count : ℕ) → List Reach → List Reach
filled sheet count before = over (tab 0 (min count (length before)) (reach_on sheet)) before

-- "an accepted loading fills its first entries from the sheet, one for each reach", and a refused one none
abbrev pub fill_count : Outcome Loaded → (reaches : ℕ) → ℕ
fill_count (accepted v) reaches = reaches
fill_count (refused number place) reaches = 0
