-- The reaches laid out along the river: how many segments they make.
use mathlib.Core.List.{List, [], ◌∷◌, map}
use mathlib.Core.Path.{◌≡◌, refl, ap}
use Prim.Native.Nat.{ℕ, ◌+◌}
use lib.ListN.{length, length-append, length-replicate}
use Rattle.lists.proofs.Tab.{map-tab}
use Rattle.model.specs.Sheet.{BandedReach, reach_count, reaches, banded_on, banded_reaches, total_segments, segment_count, along_river}

-- the segments of all reaches together
abbrev pub total : List BandedReach → ℕ
total rs = total_segments (map (λ (x : BandedReach). x.reach) rs)

-- the river has as many
pub river-length : (rs : List BandedReach) → length (along_river rs) ≡ total rs
unfolding along_river total_segments
river-length [] = refl
river-length (r ∷ rs) = simp (length-append, length-replicate) (ap (λ (n : ℕ). r.reach.segments + n) (river-length rs))

-- those of a sheet are its segments
pub total-segments : (sheet : List ℕ) → total (banded_reaches sheet) ≡ segment_count sheet
unfolding banded_reaches segment_count reaches
total-segments sheet = ap total_segments (map-tab (λ (x : BandedReach). x.reach) (banded_on sheet) 0 (reach_count sheet))
