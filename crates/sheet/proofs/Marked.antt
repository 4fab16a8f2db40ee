-- The library's `starts_with` is the documents', and what a sheet's mark says of its edition.
use mathlib.Core.Path.{◌≡◌, refl, sym, ap, ap₂, ◌∙◌}
use mathlib.Core.Bool.{Bool, true, false, true≢false, not, ◌&&◌}
use mathlib.Core.List.{List, [], ◌∷◌}
use Prim.Native.Nat.{ℕ}
use borrow.Author.Tests.{eq-eqb, ne_eqb, eqb-true}
use lib.Dec.{eqb, leb}
use Rattle.std.specs.Prelude.{Option, None, Some, is_none}
use Rattle.std.specs.List as Library
use Rattle.std.specs.Option.{option_partial_cmp}
use Rattle.std.specs.Ordering.{partial_lt}
use Rattle.model.specs.Sheet.{starts_with}
use Rattle.sheet.specs.Editions.{mark_says}
use Rattle.sheet.specs.contracts.editions.MarkPartialOrd.TheImpl.{partial_cmp-value}
use Rattle.sheet.specs.declared.editions.Mark.{Mark}
use Rattle.sheet.specs.declared.editions.Mark.TheVariants.{Otr1, Otr2, Otr3}

swapped : (a b : ℕ) → eqb a b ≡ eqb b a
swapped a b = go (eqb a b) refl
  where
    go : (t : Bool) → eqb a b ≡ t → eqb a b ≡ eqb b a
    go true e = e ∙ sym (eq-eqb b a (sym (eqb-true a b e)))
    go false e = e ∙ sym (ne_eqb b a (λ q. true≢false (sym (eq-eqb a b (sym q)) ∙ e)))

-- the library compares each byte of the mark with the sheet's, the documents the other way
pub same-start : (sheet mark : List ℕ) → Library.starts_with eqb sheet mark ≡ starts_with mark sheet
unfolding starts_with
same-start sheet [] = refl
same-start [] (byte ∷ mark) = refl
same-start (b ∷ sheet) (byte ∷ mark) = ap₂ ◌&&◌ (swapped byte b) (same-start sheet mark)

module _ (sheet mark : List ℕ) {starts : Bool} (e : starts ≡ Library.starts_with eqb sheet mark) where
  pub marked : starts ≡ true → starts_with mark sheet ≡ true
  marked h = sym (same-start sheet mark) ∙ sym e ∙ h

  pub not-marked : starts ≡ false → starts_with mark sheet ≡ false
  not-marked h = sym (same-start sheet mark) ∙ sym e ∙ h

-- whether a mark is before another says which is the higher edition
before : (mark : Option Mark) (first : Mark) → leb (mark_says (Some first)) (mark_says mark) ≡ not (partial_lt (option_partial_cmp partial_cmp-value.it) mark (Some first))
before None Otr1 = refl
before None Otr2 = refl
before None Otr3 = refl
before (Some Otr1) Otr1 = refl
before (Some Otr1) Otr2 = refl
before (Some Otr1) Otr3 = refl
before (Some Otr2) Otr1 = refl
before (Some Otr2) Otr2 = refl
before (Some Otr2) Otr3 = refl
before (Some Otr3) Otr1 = refl
before (Some Otr3) Otr2 = refl
before (Some Otr3) Otr3 = refl

-- the test of a sheet's mark, as the code writes it, has come out so
pub since-mark : (mark : Option Mark) {n : ℕ} → mark_says mark ≡ n → (first : Mark) → {less t : Bool} →
    less ≡ partial_lt (option_partial_cmp partial_cmp-value.it) mark (Some first) → less ≡ t → leb (mark_says (Some first)) n ≡ not t
since-mark mark e first l t = ap (leb (mark_says (Some first))) (sym e) ∙ before mark first ∙ ap not (sym l ∙ t)

-- there is none
pub unmarked : (mark : Option Mark) → is_none mark ≡ eqb (mark_says mark) 0
unmarked None = refl
unmarked (Some Otr1) = refl
unmarked (Some Otr2) = refl
unmarked (Some Otr3) = refl
