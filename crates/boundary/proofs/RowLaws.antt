-- What test 3 leaves of the boundary rows' counts.
use mathlib.Core.Path.{◌≡◌, refl}
use mathlib.Core.Bool.{false, not, ◌||◌}
use mathlib.Core.List.{List, [], ◌∷◌}
use Prim.Native.Nat.{ℕ, ◌≤◌}
use native.Mathlib.Omega.{arith}
use borrow.Author.Tests.{eqb-true, not-false}
use lib.Dec.{eqb}
use lib.ListN.{length}
use Rattle.lists.proofs.Shorter.{neither}
use Rattle.model.specs.Ranges.{row_section, outside}
use Rattle.model.specs.Refusals.{Finding, passes, fails, first}
use Rattle.model.specs.Upstream.{upstream_tests}
use Rattle.model.proofs.Ranges.{inside}
use Rattle.model.proofs.Refusals.{all_pass, test-clear}

-- a row of one test
pub first_one : (finding : Finding) → finding ≡ first (finding ∷ [])
first_one passes = refl
first_one (fails number place) = refl

-- rows of which test 3 finds nothing: not too many, and as many starts as concentrations
pub counted : (starts concentrations : ℕ) → (outside row_section.counts starts || not (eqb starts concentrations)) ≡ false →
    (starts ≤ 256) × (starts ≡ concentrations)
counted starts concentrations e =
    let both = neither _ _ e in
    ((inside row_section.counts starts both.0).1, eqb-true starts concentrations (not-false _ both.1))

-- rows that pass
pub rows-counted : (M : ℕ) (starts concentrations : List ℕ) → first (upstream_tests M starts concentrations) ≡ passes →
    length starts ≤ length concentrations
unfolding upstream_tests
rows-counted M starts concentrations e =
    omega (arith, counted (length starts) (length concentrations) (test-clear 3 _ (all_pass (upstream_tests M starts concentrations) e).0))
