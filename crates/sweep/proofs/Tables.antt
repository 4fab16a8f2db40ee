-- Laws of `tab`, and of a list whose first entries a loop writes one by one, from the front or from the back.
use mathlib.Core.Path.{◌≡◌, refl, sym, ap, ap₂, ◌∙◌}
use mathlib.Core.List.{List, [], ◌∷◌, ◌++◌, map, append_assoc}
use Prim.Native.Nat.{ℕ, zero, suc, ◌+◌, ◌-◌, ◌<◌, ◌≤◌}
use native.Mathlib.Nat.{zero-add, add-zero, not-suc-le-zero, le_of_suc-le-suc}
use native.Mathlib.Numerals.{add-one}
use native.Mathlib.Omega.{arith}
use lib.ListN.{length, get_or, take, drop, set, length-set, get_or-append}
use lib.Seq.{drop-cons, take-suc, set_at, get_or-take, length-take-le}
use Rattle.lists.specs.Lists.{tab, over}

module _ {A : Type 0} where
  pub length-tab : (j n : ℕ) (f : ℕ → A) → length (tab j n f) ≡ n
  length-tab j zero f = refl
  length-tab j (suc n) f = ap suc (length-tab (suc j) n f)

  pub get_or-tab : (j n i : ℕ) (f : ℕ → A) (d : A) → i < n → get_or (tab j n f) i d ≡ f (j + i)
  get_or-tab j zero i f d h = absurd (not-suc-le-zero h)
  get_or-tab j (suc n) zero f d h = ap f (sym (add-zero j))
  get_or-tab j (suc n) (suc i) f d h = get_or-tab (suc j) n i f d (le_of_suc-le-suc h) ∙ ap f (omega arith)

  pub tab-snoc : (j i : ℕ) (f : ℕ → A) → tab j (suc i) f ≡ tab j i f ++ (f (j + i) ∷ [])
  tab-snoc j zero f = ap (λ (k : ℕ). f k ∷ []) (omega arith)
  tab-snoc j (suc i) f = ap (λ l. f j ∷ l) (tab-snoc (suc j) i f ∙ ap (λ (k : ℕ). tab (suc j) i f ++ (f k ∷ [])) (omega arith))

  -- two tables that agree at every place
  pub tab-same : (j n : ℕ) (f g : ℕ → A) → ((i : ℕ) → i < j + n → f i ≡ g i) → tab j n f ≡ tab j n g
  tab-same j zero f g h = refl
  tab-same j (suc n) f g h = ap₂ (λ x l. x ∷ l) (h j (omega arith)) (tab-same (suc j) n f g (λ i k. h i (omega arith)))

  pub map-tab : {B : Type 0} (t : A → B) (j n : ℕ) (f : ℕ → A) → map t (tab j n f) ≡ tab j n (λ i. t (f i))
  map-tab t j zero f = refl
  map-tab t j (suc n) f = ap (λ l. t (f j) ∷ l) (map-tab t (suc j) n f)

-- what is written over the first n entries
pub over-tab : {A : Type 0} (t : A → ℕ) (n : ℕ) (f : ℕ → A) (before : List ℕ) →
    over (map t (tab 0 n f)) before ≡ tab 0 n (λ i. t (f i)) ++ drop n before
over-tab t n f before = rw (map-tab t 0 n f, length-tab 0 n (λ i. t (f i)))

-- an entry of a table with more behind it
pub get_or-table : (f : ℕ → ℕ) (n : ℕ) (more : List ℕ) (i : ℕ) → i < n → get_or (tab 0 n f ++ more) i 0 ≡ f i
get_or-table f n more i h =
    get_or-append (tab 0 n f) more 0 i (rw (length-tab 0 n f) h) ∙ get_or-tab 0 n i f 0 h ∙ ap f (zero-add i)

-- ---- from the front

-- the first i entries are written
pub record Filled (f : ℕ → ℕ) (before : List ℕ) (i : ℕ) (after : List ℕ) : Type 0 where
  pub is : after ≡ tab 0 i f ++ drop i before
  pub long : length after ≡ length before

pub filled-turn : {f : ℕ → ℕ} {before after : List ℕ} {i v : ℕ} → i < length before → Filled f before i after → v ≡ f i →
    Filled f before (i + 1) (set after i v)
filled-turn {f} {before} {after} {i} {v} h r e = record { is = rw (add-one i) more; long = length-set after i v ∙ r.long }
  where
    more : set after i v ≡ tab 0 (suc i) f ++ drop (suc i) before
    more =
        ap (λ (x : List ℕ). set x i v) (r.is ∙ ap (λ (x : List ℕ). tab 0 i f ++ x) (drop-cons before i 0 h))
        ∙ set_at (tab 0 i f) (get_or before i 0) (drop (suc i) before) v i (length-tab 0 i f)
        ∙ sym
        (ap (λ (x : List ℕ). x ++ drop (suc i) before) (tab-snoc 0 i f) ∙ append_assoc (tab 0 i f) (f (0 + i) ∷ []) (drop (suc i) before)
        ∙ ap (λ (x : ℕ). tab 0 i f ++ (x ∷ drop (suc i) before)) (ap f (zero-add i) ∙ sym e))

-- ---- from the back

-- of the first n entries those from i on are written
pub record FilledFrom (f : ℕ → ℕ) (before : List ℕ) (n i : ℕ) (after : List ℕ) : Type 0 where
  pub is : after ≡ take i before ++ (tab i (n - i) f ++ drop n before)
  pub long : length after ≡ length before

-- an entry that is not written yet
pub from-here : {f : ℕ → ℕ} {before after : List ℕ} {n i : ℕ} (j : ℕ) → j < i → i ≤ n → n ≤ length before → FilledFrom f before n i after →
    get_or after j 0 ≡ get_or before j 0
from-here {f} {before} {after} {n} {i} j h le fit r =
    ap (λ (x : List ℕ). get_or x j 0) r.is
    ∙ get_or-append (take i before) _ 0 j (rw (length-take-le i before (omega arith)) h)
    ∙ get_or-take i before j 0 h

pub from-turn : {f : ℕ → ℕ} {before after : List ℕ} {n v : ℕ} (i : ℕ) → 0 < i → i ≤ n → n ≤ length before → FilledFrom f before n i after → v ≡ f (i - 1) →
    FilledFrom f before n (i - 1) (set after (i - 1) v)
from-turn zero pos le fit r e = absurd (omega arith)
from-turn {f} {before} {after} {n} {v} (suc j) pos le fit r e =
    let less : suc j - 1 ≡ j = omega arith in
    let more : n - j ≡ suc (n - suc j) = omega arith in
    rw less (record { is = rw more (here (rw less at e)); long = length-set after j v ∙ r.long })
  where
    rest : List ℕ
    rest = tab (suc j) (n - suc j) f ++ drop n before

    here : v ≡ f j → set after j v ≡ take j before ++ (f j ∷ rest)
    here q =
        ap (λ (x : List ℕ). set x j v)
        (r.is ∙ ap (λ (x : List ℕ). x ++ rest) (take-suc before j 0 (omega arith)) ∙ append_assoc (take j before) (get_or before j 0 ∷ []) rest)
        ∙ set_at (take j before) (get_or before j 0) rest v j (length-take-le j before (omega arith))
        ∙ ap (λ (x : ℕ). take j before ++ (x ∷ rest)) q

pub from_end : {f : ℕ → ℕ} {before after : List ℕ} {n i : ℕ} → i ≡ 0 → FilledFrom f before n i after → after ≡ tab 0 n f ++ drop n before
from_end {f} {before} {after} {n} {i} e r =
    let all : n - 0 ≡ n = omega arith in
    rw (e, all) at r.is
