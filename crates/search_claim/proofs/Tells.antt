-- The second promise of a search from the first: of highest figures that are true it says none exactly when no segment is above.
use mathlib.Core.Path.{◌≡◌, sym, ap, ◌∙◌}
use mathlib.Core.List.{List}
use mathlib.Core.Logic.{⊎_elim}
use mathlib.Core.Option.{Option, none}
use Prim.Native.Nat.{ℕ, ◌+◌, ◌-◌, ◌*◌, ◌≤◌, ◌<◌, min}
use native.Mathlib.Omega.{arith}
use lib.ListN.{length, get_or}
use Rattle.lists.proofs.Below.{highest-most}
use Rattle.lists.proofs.Stretch.{lt-or-ge}
use Rattle.model.specs.Refusals.{Outcome, accepted, is_accepted, Finding, passes, first}
use Rattle.model.specs.Highest.{block_count, block_of, block_highest}
use Rattle.model.specs.Search.{Searches, Tells}
use Rattle.model.proofs.Refusals.{outcome-passes}

-- the highest figures are those of these channel figures
pub record TrueHighest (n : ℕ) (channel highest : List ℕ) : Type 0 where
  pub enough : block_count n ≤ length highest
  pub is : (b : ℕ) → b < block_count n → get_or highest b 0 ≡ block_highest n channel b

-- no segment is above the highest figure of its block
under : {n : ℕ} {channel highest : List ℕ} → TrueHighest n channel highest → (i : ℕ) → i < n → get_or channel i 0 ≤ get_or highest (block_of i) 0
unfolding block_highest
under {n} {channel} t i h =
    let b = block_of i in
    let e : b * 16 + (i - b * 16) ≡ i = omega arith in
    let most = highest-most (λ j. get_or channel (b * 16 + j) 0) (min 16 (n - b * 16)) (i - b * 16) (omega arith) in
    rw (t.is b (omega arith)) (rw e at most)

-- an accepted answer has what was found
found_none : (found : Option ℕ) → accepted found ≡ accepted none → found ≡ none
found_none found e = cc

-- what an answer tells where its tests pass
pub tells : {tests : List Finding} {n : ℕ} {channel highest : List ℕ} {limit : ℕ} {answer : Outcome (Option ℕ)} →
    first tests ≡ passes → TrueHighest n channel highest → Searches tests n channel highest limit answer → Tells n channel limit answer
tells {tests} {n} {channel} {highest} {limit} {answer} pass t s = record {
  not_refused = ap is_accepted is;
  none_if = λ clear. is ∙ ap accepted ((s.finds pass).none_if (λ i a. omega (arith, clear i a.inside, a.segment)));
  none_only_if = λ e i h.
      ⊎_elim
      (λ l. absurd ((s.finds pass).none_only_if (found_none s.found (sym is ∙ e)) i
      (record { inside = h; segment = l; block = omega (arith, l, under t i h) })))
      (λ l. l)
      (lt-or-ge limit (get_or channel i 0));
}
  where
    is : answer ≡ accepted s.found
    is = s.is ∙ outcome-passes tests s.found pass
