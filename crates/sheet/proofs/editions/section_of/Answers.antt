-- `section_of` meets its contract, section by section. Assumes nothing.
use mathlib.Core.Path.{◌≡◌, refl}
use mathlib.Core.Bool.{Bool, true, false, cond}
use mathlib.Core.List.{List, [], ◌∷◌}
use Prim.Native.Nat.{ℕ, zero, suc, ◌<◌, ◌≤◌}
use native.Mathlib.Omega.{arith}
use lib.Dec.{leb}
use lib.ListN.{length, get_or, replicate}
use Rattle.model.specs.Ranges.{Section, flow_section, band_section}
use Rattle.model.specs.Sheet.{edition, reach_count, sections}
use Rattle.sheet.proofs.editions.section_of.Goals as goal

-- flow rows, where a sheet has them
fourth : (more : Bool) (bands : List Section) → 3 < suc (suc (suc (length (cond more (flow_section ∷ bands) [])))) →
    flow_section ≡ get_or (cond more (flow_section ∷ bands) []) 0 band_section
fourth true bands h = refl
fourth false bands h = absurd (omega arith)

same : (n k : ℕ) → band_section ≡ get_or (replicate n band_section) k band_section
same zero k = refl
same (suc n) zero = refl
same (suc n) (suc k) = same n k

-- bands, where a sheet has them
behind : (a b d : Section) (more has : Bool) (n k : ℕ) → 4 ≤ k →
    band_section ≡ get_or (a ∷ b ∷ d ∷ cond more (flow_section ∷ cond has (replicate n band_section) []) []) k band_section
behind a b d more has n zero h = absurd (omega arith)
behind a b d more has n (suc zero) h = absurd (omega arith)
behind a b d more has n (suc (suc zero)) h = absurd (omega arith)
behind a b d more has n (suc (suc (suc zero))) h = absurd (omega arith)
behind a b d true true n (suc (suc (suc (suc k)))) h = same n k
behind a b d true false n (suc (suc (suc (suc k)))) h = refl
behind a b d false has n (suc (suc (suc (suc k)))) h = refl

pub returns-in-0 : goal.returns-in-0
unfolding sections
returns-in-0 c = (λ s h. rw c.in-0.is, omega arith)

pub returns-in-1 : goal.returns-in-1
unfolding sections
returns-in-1 c = (λ s h. rw c.in-1.is, omega arith)

pub returns-in-2 : goal.returns-in-2
unfolding sections
returns-in-2 c = (λ s h. rw c.in-2.is, omega arith)

pub returns-in-3 : goal.returns-in-3
unfolding sections
returns-in-3 c = (λ s h. rw c.in-3.is (fourth (leb 2 (edition s)) _ (rw c.in-3.is at h)), omega arith)

pub returns-in_default : goal.returns-in_default
unfolding sections
returns-in_default c =
    (λ s h. behind _ _ _ (leb 2 (edition s)) (leb 3 (edition s)) (reach_count s) c.args.k (omega arith), omega arith)
