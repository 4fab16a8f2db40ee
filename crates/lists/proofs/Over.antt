-- Laws of `over`: what a pass that writes the first entries leaves, and a loop that writes them one by one.
use mathlib.Core.Path.{◌≡◌, refl, sym, ap, ap₂, ◌∙◌}
use mathlib.Core.List.{List, [], ◌∷◌, ◌++◌, map, map-append}
use Prim.Native.Nat.{ℕ, zero, suc, ◌+◌, ◌-◌, ◌<◌, ◌≤◌}
use native.Mathlib.Numerals.{add-one}
use native.Mathlib.Omega.{arith}
use lib.ListN.{length, get_or, drop, set, length-append, length-drop, length-set, length-map, get_or-append}
use lib.Seq.{drop-cons, get_or-append-add, get_or-drop, set_at, append_snoc}
use Rattle.lists.specs.Lists.{tab, over}
use Rattle.lists.proofs.Tab.{length-tab, tab-last}

module _ {ℓ} {A : Type ℓ} where
  -- the length is as before
  pub length_over : (xs before : List A) → length xs ≤ length before → length (over xs before) ≡ length before
  length_over xs before h = simp (length-append, length-drop) (omega arith)

  -- and never less
  pub over-long : (xs before : List A) → length before ≤ length (over xs before)
  over-long xs before = simp (length-append, length-drop) (omega arith)

  -- the first entries are the new ones
  pub get_or-over : (xs before : List A) (i : ℕ) (d : A) → i < length xs → get_or (over xs before) i d ≡ get_or xs i d
  get_or-over xs before i d h = get_or-append xs (drop (length xs) before) d i h

  -- the later entries are as before
  pub get_or-over-rest : (xs before : List A) (i : ℕ) (d : A) → length xs ≤ i → get_or (over xs before) i d ≡ get_or before i d
  get_or-over-rest xs before i d h =
      let e : i ≡ length xs + (i - length xs) = omega arith in
      ap (λ k. get_or (over xs before) k d) e ∙ get_or-append-add xs (drop (length xs) before) (i - length xs) d
      ∙ get_or-drop (length xs) before (i - length xs) d ∙ ap (λ k. get_or before k d) (sym e)

  behind : (ys zs : List A) → drop (length ys) (ys ++ zs) ≡ zs
  behind [] zs = refl
  behind (y ∷ ys) zs = behind ys zs

  -- as many entries written over once more
  pub over-again : (xs ys before : List A) → length xs ≡ length ys → over xs (over ys before) ≡ over xs before
  over-again xs ys before e = rw (e, behind ys (drop (length ys) before))

module _ {ℓ} {A B : Type ℓ} (f : A → B) where
  map-drop : (n : ℕ) (xs : List A) → map f (drop n xs) ≡ drop n (map f xs)
  map-drop zero xs = refl
  map-drop (suc n) [] = refl
  map-drop (suc n) (x ∷ xs) = map-drop n xs

  -- the same of what each entry means
  pub map-over : (xs before : List A) → map f (over xs before) ≡ over (map f xs) (map f before)
  map-over xs before = map-append f xs (drop (length xs) before) ∙ rw (map-drop (length xs) before, length-map xs f)

-- a loop that writes f 0, f 1, .. over the first entries of `before`, and has written i
pub record Filling {ℓ} {A : Type ℓ} (f : ℕ → A) (before : List A) (i : ℕ) (list : List A) : Type ℓ where
  pub is : list ≡ over (tab 0 i f) before
  pub long : length list ≡ length before

pub filling-start {ℓ} : {A : Type ℓ} {f : ℕ → A} {before : List A} → Filling f before 0 before
filling-start = record { is = refl; long = refl }

-- one more entry
over-turn {ℓ} : {A : Type ℓ} (f : ℕ → A) (before : List A) (i : ℕ) → i < length before →
    set (over (tab 0 i f) before) i (f i) ≡ over (tab 0 (i + 1) f) before
over-turn f before i h =
    rw (length-tab f 0 i, length-tab f 0 (i + 1), drop-cons before i (f i), add-one)
    (set_at (tab 0 i f) (get_or before i (f i)) (drop (suc i) before) (f i) i (length-tab f 0 i)
    ∙ sym (append_snoc (tab 0 i f) (f i) (drop (suc i) before))
    ∙ ap (λ l. l ++ drop (suc i) before) (sym (tab-last f i)))

pub filling-turn {ℓ} : {A : Type ℓ} {f : ℕ → A} {before : List A} {i : ℕ} {list : List A} {v : A} → Filling f before i list → i < length before → v ≡ f i →
    Filling f before (i + 1) (set list i v)
filling-turn {f = f} {before = before} {i = i} {list = list} {v = v} r h e =
    record {
      is = ap₂ (λ l x. set l i x) r.is e ∙ over-turn f before i h;
      long = length-set list i v ∙ r.long;
    }

pub filling-end {ℓ} : {A : Type ℓ} {f : ℕ → A} {before : List A} {i : ℕ} {list : List A} (n : ℕ) → Filling f before i list → i ≡ n →
    list ≡ over (tab 0 n f) before
filling-end {f = f} {before = before} n r e = r.is ∙ ap (λ k. over (tab 0 k f) before) e
