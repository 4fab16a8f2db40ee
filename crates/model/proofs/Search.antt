-- What a search may find.
use mathlib.Core.Path.{◌≡◌, refl, sym, ◌∙◌}
use mathlib.Core.List.{List}
use mathlib.Core.Option.{none, some, some-injective, none-ne-some, some-ne-none}
use Prim.Native.Nat.{ℕ, ◌+◌}
use native.Mathlib.Numerals.{add-one}
use Rattle.model.specs.Search.{Above, NoneAbove, Finds}

module _ {n : ℕ} {channel highest : List ℕ} {limit : ℕ} where
  pub finds-none : NoneAbove n channel highest limit → Finds n channel highest limit none
  finds-none h = record { none_if = λ h. refl; none_only_if = λ e. h; choice = λ number e. absurd (none-ne-some number e) }

  pub finds-some : {i number : ℕ} → number ≡ i + 1 → Above n channel highest limit i → Finds n channel highest limit (some number)
  finds-some {i} {number} e x = record {
    none_if = λ h. absurd (h i x);
    none_only_if = λ q. absurd (some-ne-none number q);
    choice = λ m q. (i, sym (some-injective number m q) ∙ e ∙ add-one i, x);
  }
