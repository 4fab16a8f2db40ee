-- Tests in a row, one by one: those in front pass, and one fails or the last decides.
use mathlib.Core.List.{List, [], ◌∷◌, ◌++◌}
use mathlib.Core.Path.{◌≡◌, refl, sym, ◌∙◌}
use Prim.Native.Nat.{ℕ}
use Rattle.std.proofs.lemmas.Result.{err_from_is_err_and}
use Rattle.model.specs.Refusals.{Place, Finding, passes, fails, first}
use Rattle.model.proofs.Refusals.{first_rest, first-front}

-- a test that passes, in front of others
pub behind : {t f : Finding} (tests : List Finding) → passes ≡ t → f ≡ first tests → f ≡ first (t ∷ tests)
behind tests e h = rw (← e) h

-- one that fails
pub stop : {t : Finding} (tests : List Finding) {number : ℕ} {place : Place} → fails number place ≡ t → fails number place ≡ first (t ∷ tests)
stop tests e = rw (← e)

-- and the last
pub last : {t f : Finding} → f ≡ t → f ≡ first (t ∷ [])
last {t} {f} e = e ∙ go t
  where
    go : (t : Finding) → t ≡ first (t ∷ [])
    go passes = refl
    go (fails number place) = refl

-- a row that fails, or passes, in front of others
pub in_front : (tests others : List Finding) {number : ℕ} {place : Place} → fails number place ≡ first tests → fails number place ≡ first (tests ++ others)
in_front tests others e = sym (first-front tests others (sym e))

pub past : {f : Finding} (tests others : List Finding) → passes ≡ first tests → f ≡ first others → f ≡ first (tests ++ others)
past tests others e h = h ∙ sym (first_rest tests others (sym e))

-- a chain of tests that are passed on by `?`
pub ruleset in_turn = (behind, stop, last, in_front, past, err_from_is_err_and)
