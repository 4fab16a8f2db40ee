-- Laws of `stretch` and `splice`: entries put in the place of a stretch, and the stretches apart from it.
use mathlib.Core.Path.{◌≡◌, refl, sym, ap, ◌∙◌}
use mathlib.Core.Bool.{Bool, true, false}
use mathlib.Core.List.{List, ◌++◌}
use mathlib.Core.Logic.{◌⊎◌, inl, inr, ⊎_elim}
use Prim.Native.Nat.{ℕ, ◌+◌, ◌-◌, ◌<◌, ◌≤◌, min, max}
use native.Mathlib.Omega.{arith}
use borrow.Author.Tests.{ltb-true, ltb-false}
use lib.Dec.{ltb}
use lib.ListN.{length, get_or, take, drop, length-append, length-drop, take-append-drop, get_or-append}
use lib.Seq.{length-take-le, take_at, drop_at, drop-drop, get_or-take, get_or-drop, get_or-append-add, ext_get_or}
use Rattle.lists.specs.Lists.{stretch, splice}

-- below or not
pub lt-or-ge : (a b : ℕ) → (a < b) ⊎ (b ≤ a)
lt-or-ge a b = go (ltb a b) refl
  where
    go : (t : Bool) → ltb a b ≡ t → (a < b) ⊎ (b ≤ a)
    go true e = inl (ltb-true a b e)
    go false e = inr (ltb-false a b e)

-- a stretch that ends in the list has all its entries
pub length-stretch : (first n : ℕ) (list : List ℕ) → first + n ≤ length list → length (stretch first n list) ≡ n
length-stretch first n list h = length-take-le n (drop first list) (omega (arith, length-drop first list))

-- entry i of a stretch
pub get_or-stretch : (first n : ℕ) (list : List ℕ) (i d : ℕ) → i < n → get_or (stretch first n list) i d ≡ get_or list (first + i) d
get_or-stretch first n list i d h = get_or-take n (drop first list) i d h ∙ get_or-drop first list i d

module _ (first n : ℕ) (entries list : List ℕ) (many : length entries ≡ n) (fits : first + n ≤ length list) where
  -- what stands before the stretch
  front : length (take first list) ≡ first
  front = length-take-le first list (omega arith)

  -- as many entries in the place of a stretch leave the length
  pub length-splice : length (splice first n entries list) ≡ length list
  length-splice =
      length-append (take first list) (entries ++ drop (first + n) list)
      ∙ omega (arith, front, length-append entries (drop (first + n) list), length-drop (first + n) list)

  -- the stretch is then these entries
  pub stretch-splice : stretch first n (splice first n entries list) ≡ entries
  stretch-splice =
      ap (take n) (drop_at (take first list) (entries ++ drop (first + n) list) first front)
      ∙ take_at entries (drop (first + n) list) n many

  -- an entry before the stretch
  splice-before : (k d : ℕ) → k < first → get_or (splice first n entries list) k d ≡ get_or list k d
  splice-before k d h =
      get_or-append (take first list) (entries ++ drop (first + n) list) d k (omega (arith, front)) ∙ get_or-take first list k d h

  -- an entry behind the stretch
  splice-behind : (k d : ℕ) → first + n ≤ k → get_or (splice first n entries list) k d ≡ get_or list k d
  splice-behind k d h =
      let e : k ≡ length (take first list) + (length entries + (k - (first + n))) = omega (arith, front) in
      let back : first + n + (k - (first + n)) ≡ k = omega arith in
      ap (λ j. get_or (splice first n entries list) j d) e
      ∙ get_or-append-add (take first list) (entries ++ drop (first + n) list) (length entries + (k - (first + n))) d
      ∙ get_or-append-add entries (drop (first + n) list) (k - (first + n)) d
      ∙ get_or-drop (first + n) list (k - (first + n)) d
      ∙ ap (λ j. get_or list j d) back

  -- an entry outside the stretch is as it was
  pub get_or-splice : (k d : ℕ) → (k < first) ⊎ (first + n ≤ k) → get_or (splice first n entries list) k d ≡ get_or list k d
  get_or-splice k d h = ⊎_elim (splice-before k d) (splice-behind k d) h

  -- a stretch that has no entry in common with it is as it was
  pub stretch-apart : (g m : ℕ) → g + m ≤ length list → min (first + n) (g + m) ≤ max first g →
      stretch g m (splice first n entries list) ≡ stretch g m list
  stretch-apart g m ends apart =
      let long : length (stretch g m (splice first n entries list)) ≡ m = length-stretch g m (splice first n entries list) (omega (arith, length-splice)) in
      ext_get_or 0 (stretch g m (splice first n entries list)) (stretch g m list) (long ∙ sym (length-stretch g m list ends))
      (λ i h. let l : i < m = omega arith in
      get_or-stretch g m (splice first n entries list) i 0 l ∙ get_or-splice (g + i) 0 (outside i l) ∙ sym (get_or-stretch g m list i 0 l))
    where
      outside : (i : ℕ) → i < m → (g + i < first) ⊎ (first + n ≤ g + i)
      outside i l = ⊎_elim inl (λ q. inr (omega arith)) (lt-or-ge (g + i) first)

-- a stretch put back in its place changes nothing
pub splice-self : (first n : ℕ) (list : List ℕ) → splice first n (stretch first n list) list ≡ list
splice-self first n list =
    ap (λ l. take first list ++ (take n (drop first list) ++ l)) (sym (drop-drop n first list))
    ∙ ap (λ l. take first list ++ l) (take-append-drop n (drop first list))
    ∙ take-append-drop first list

-- a part lent from `first` to `first + n`, put back
pub splice-back : (first n : ℕ) (part list : List ℕ) →
    take first list ++ (part ++ drop (first + n - first) (drop first list)) ≡ splice first n part list
splice-back first n part list =
    let q : first + n - first ≡ n = omega arith in
    ap (λ k. take first list ++ (part ++ drop k (drop first list))) q ∙ ap (λ l. take first list ++ (part ++ l)) (drop-drop n first list)
