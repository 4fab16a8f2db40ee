-- What the walk of a sheet leaves for whoever reads it further.
use Rattle.std.specs.Prelude.{◌≡◌, List, ℕ}
use Rattle.model.specs.Sheet.{sections, reach_count_at}
use Rattle.model.specs.Refusals.{passes}
use Rattle.model.specs.Load.{walk}

-- 2 and 3 pass
abbrev pub Walked : List ℕ → Type 0
Walked sheet = walk sheet reach_count_at (sections sheet) ≡ passes
