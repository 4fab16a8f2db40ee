-- A segment without sorption on either side of a step.
use mathlib.Core.Path.{◌≡◌}
use Prim.Native.Nat.{ℕ, ◌+◌, ◌*◌}
use native.Mathlib.Omega.{arith}
use Rattle.rounding.specs.Nearest.{S}
use Rattle.rounding.proofs.Laws.{nearest-whole}
use Rattle.model.specs.Equations.{Figures, Pair}
use Rattle.model.specs.Sweep.{new_sediment}

-- W' is W
pub sediment-stays : (x : Pair) (f : Figures) (c' : ℕ) → x.old.h ≡ 0 → x.new.h ≡ 0 → new_sediment x f c' ≡ f.w
unfolding new_sediment
sediment-stays x f c' old new =
    let right : S * f.w + 0 * f.c + 0 * c' ≡ S * f.w = omega arith in
    rw (old, new, right) (nearest-whole S f.w (omega arith))
