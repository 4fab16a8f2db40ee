-- What an accepted segment's row keeps.
use Prim.Native.Nat.{ℕ}
use Rattle.model.specs.Equations.{Figures, Pair}
use Rattle.model.specs.Sweep.{row_of}
use Rattle.sweep_laws.specs.Stable.{Fit}
use Rattle.sweep_laws.proofs.Accepted.{row-fit}
use Rattle.segment.specs.Ready.{RowReady}

-- the row of an accepted segment is fit
pub ready-fit : {x : Pair} {f : Figures} {above below : ℕ} → RowReady x f above below → Fit (row_of x above below f)
ready-fit {x} {f} {above} {below} ready =
    row-fit x f ready.figures.accepted ready.figures.most above below ready.most_above ready.most_below
