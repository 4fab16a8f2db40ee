-- A slot put into the forty numbers of a table.
use Rattle.std.proofs.Common.{ℕ, ◌+◌, ◌-◌, ◌*◌, ◌<◌, ◌≤◌, List, [], ◌∷◌, ◌++◌, length, get_or, set, take, drop}
use Rattle.std.proofs.Common.{◌≡◌, refl, sym, ap, ◌∙◌, arith}
use mathlib.Core.Logic.{◌⊎◌, inl, inr, ⊎_elim}
use lib.ListN.{length-set}
use lib.Seq.{get_or-set_same, get_or-set_other, ext_get_or}
use Rattle.lists.specs.Lists.{splice}
use Rattle.lists.proofs.Tab.{get_or-tab}
use Rattle.lists.proofs.Stretch.{lt-or-ge, get_or-stretch, stretch-splice, get_or-splice, splice-back}
use Rattle.model.specs.Ranges.{most_rivers}
use Rattle.model.specs.Pool.{Slot, vacant}
use Rattle.terms.specs.Lent.{slot_in, table_in}

abbrev fields : Slot → List ℕ
fields x = x.opened ∷ x.first ∷ x.segments ∷ x.upstream ∷ x.steps ∷ []

module _ (numbers : List ℕ) (long : length numbers ≡ 40) (i : ℕ) (low : i < most_rivers) (x : Slot) where
  -- the slot's five numbers at its place
  abbrev five : List ℕ
  five = splice (5 * i) 5 (fields x) numbers

  own : (k d : ℕ) → k ≡ 5 * i + d → d < 5 → get_or five k 0 ≡ get_or (fields x) d 0
  own k d e h =
      ap (λ m. get_or five m 0) e ∙ sym (get_or-stretch (5 * i) 5 five d 0 h)
      ∙ ap (λ l. get_or l d 0) (stretch-splice (5 * i) 5 (fields x) numbers refl (omega arith))

  slot-own : (j : ℕ) → j ≡ i → slot_in five j ≡ x
  slot-own j e = rw (
    own (5 * j) 0 (omega arith) (omega arith),
    own (5 * j + 1) 1 (omega arith) (omega arith),
    own (5 * j + 2) 2 (omega arith) (omega arith),
    own (5 * j + 3) 3 (omega arith) (omega arith),
    own (5 * j + 4) 4 (omega arith) (omega arith),
  )

  other : (j k : ℕ) → (j < i) ⊎ (i < j) → 5 * j ≤ k → k < 5 * j + 5 → get_or five k 0 ≡ get_or numbers k 0
  other j k apart from to =
      get_or-splice (5 * i) 5 (fields x) numbers refl (omega arith) k 0 (⊎_elim (λ q. inl (omega arith)) (λ q. inr (omega arith)) apart)

  slot-other : (j : ℕ) → (j < i) ⊎ (i < j) → slot_in five j ≡ slot_in numbers j
  slot-other j apart = rw (
    other j (5 * j) apart (omega arith) (omega arith),
    other j (5 * j + 1) apart (omega arith) (omega arith),
    other j (5 * j + 2) apart (omega arith) (omega arith),
    other j (5 * j + 3) apart (omega arith) (omega arith),
    other j (5 * j + 4) apart (omega arith) (omega arith),
  )

  slot-put : (j : ℕ) → j < most_rivers → slot_in five j ≡ get_or (set (table_in numbers) i x) j vacant
  unfolding table_in
  slot-put j h = ⊎_elim (λ q. away (inl q)) (λ q. ⊎_elim (λ more. away (inr more)) (λ less. here (omega arith)) (lt-or-ge i j)) (lt-or-ge j i)
    where
      here : j ≡ i → slot_in five j ≡ get_or (set (table_in numbers) i x) j vacant
      here e = slot-own j e ∙ rw e (sym (get_or-set_same (table_in numbers) i x vacant low))

      away : (j < i) ⊎ (i < j) → slot_in five j ≡ get_or (set (table_in numbers) i x) j vacant
      away apart =
          slot-other j apart ∙ sym (get_or-tab (slot_in numbers) most_rivers j vacant h)
          ∙ sym (get_or-set_other (table_in numbers) i j x vacant (λ e. ⊎_elim (λ q. absurd (omega arith)) (λ q. absurd (omega arith)) apart))

  -- the table of the numbers, as a part of them leaves it
  pub table-put : (part : List ℕ) → part ≡ fields x →
      table_in (take (5 * i) numbers ++ (part ++ drop (5 * i + 5 - 5 * i) (drop (5 * i) numbers))) ≡ set (table_in numbers) i x
  unfolding table_in
  table-put part e =
      ap table_in (splice-back (5 * i) 5 part numbers ∙ ap (λ p. splice (5 * i) 5 p numbers) e)
      ∙ ext_get_or vacant (table_in five) (set (table_in numbers) i x) (sym (length-set (table_in numbers) i x))
      (λ j h. get_or-tab (slot_in five) most_rivers j vacant h ∙ slot-put j h)
