-- The parts of a list that is cut into twenty-four: how long they are, and what they are where the list is put together of others.
use mathlib.Core.Path.{◌≡◌, refl, sym, ap, ap₂, ◌∙◌}
use mathlib.Core.List.{List, [], ◌∷◌, ◌++◌}
use Prim.Native.Nat.{ℕ, zero, suc, ◌+◌, ◌-◌, ◌*◌, ◌/◌, ◌<◌, ◌≤◌}
use native.Mathlib.Nat.{add-zero, zero-add, add-suc, suc-add, add-mul, zero-mul, suc-mul, mul-le-mul_right}
use native.Mathlib.Omega.{arith}
use lib.Dec.{lit<, lit≤}
use lib.ListN.{length, get_or, take, drop, length-append, length-drop}
use Rattle.std.proofs.lemmas.List.{take-append-le, drop-append-le, take-take, drop-take, drop-drop, take-append-drop, take_at, drop_at}
use Rattle.std.specs.List.{copy_within}
use Rattle.lists.specs.Lists.{tab, stretch}
use Rattle.lists.proofs.Stretch.{length-stretch}
use Rattle.lists.proofs.Tab.{tab-cong}
use Rattle.own_river.specs.Sides.{parts, width, part_of, rest_of, Sides, sides_of, kept, SidesAre}
use Rattle.model.specs.State.{NumberSet, Columns}
use Rattle.terms.specs.Lent as Lent
use Rattle.terms.specs.Lent.{LongSet, Long}

-- a part ends within all n
pub part-ends : (k n w : ℕ) → k < n → k * w + w ≤ n * w
part-ends k n w h = let e : suc k * w ≤ n * w = mul-le-mul_right w h in rw (← suc-mul k w) e

-- a part has an entry for each of its width
length_part : (list : List ℕ) (k : ℕ) → k < parts → length (part_of list k) ≡ width list
unfolding part_of
length_part list k h = length-stretch (k * width list) (width list) list (omega (arith, part-ends k parts (width list) h))

-- and so reaches n where that is not wider
reaches : (list : List ℕ) (n k : ℕ) → n ≤ width list → k < parts → n ≤ length (part_of list k)
reaches list n k h few = omega (arith, length_part list k few)

-- parts that are wide enough for n segments
pub long-old : (list : List ℕ) (n : ℕ) → n ≤ width list → LongSet n (sides_of list).old
unfolding sides_of
long-old list n h = record {
  e = reaches list n 0 h (lit< tt);
  g = reaches list n 1 h (lit< tt);
  l = reaches list n 2 h (lit< tt);
  a = reaches list n 3 h (lit< tt);
  b = reaches list n 4 h (lit< tt);
  k = reaches list n 5 h (lit< tt);
  ks = reaches list n 6 h (lit< tt);
  h = reaches list n 7 h (lit< tt);
  m = reaches list n 8 h (lit< tt);
  s = reaches list n 9 h (lit< tt);
}

pub long-new : (list : List ℕ) (n : ℕ) → n ≤ width list → Long n (sides_of list).new
unfolding sides_of
long-new list n h = record {
  numbers = record {
    e = reaches list n 10 h (lit< tt);
    g = reaches list n 11 h (lit< tt);
    l = reaches list n 12 h (lit< tt);
    a = reaches list n 13 h (lit< tt);
    b = reaches list n 14 h (lit< tt);
    k = reaches list n 15 h (lit< tt);
    ks = reaches list n 16 h (lit< tt);
    h = reaches list n 17 h (lit< tt);
    m = reaches list n 18 h (lit< tt);
    s = reaches list n 19 h (lit< tt);
  };
  cl = reaches list n 20 h (lit< tt);
  cb = reaches list n 21 h (lit< tt);
  kd = reaches list n 22 h (lit< tt);
  start = reaches list n 23 h (lit< tt);
}

-- ---- a list that is put together of the old side, parts and a rest

-- a part within the old side
within : (w k : ℕ) (old rest : List ℕ) → length old ≡ 10 * w → k < 10 → stretch (k * w) w (old ++ rest) ≡ stretch (k * w) w old
within w k old rest many h =
    let ends = part-ends k 10 w h in
    rw (
      drop-append-le (k * w) old rest (omega (arith, ends)),
      take-append-le w (drop (k * w) old) rest (omega (arith, ends, length-drop (k * w) old)),
    )

-- what a list holds, part by part
sides-of : {x : Sides} {old : NumberSet} {new : Columns} {rest : List ℕ} → x.old ≡ old → x.new ≡ new → x.rest ≡ rest →
    x ≡ record { old = old; new = new; rest = rest }
sides-of e f g = rw (← e, ← f, ← g)

-- parts of one width, and a list that they begin
abbrev pub AllWide : (w : ℕ) → List (List ℕ) → Type 0
AllWide w [] = Unit {0}
AllWide w (x ∷ xs) = (length x ≡ w) × AllWide w xs

abbrev pub joined : List (List ℕ) → (rest : List ℕ) → List ℕ
joined [] rest = rest
joined (x ∷ xs) rest = x ++ joined xs rest

-- they are its parts, and what follows them its rest
behind : (w k : ℕ) (xs : List (List ℕ)) (list rest : List ℕ) → AllWide w xs → drop (k * w) list ≡ joined xs rest →
    (tab k (length xs) (λ j. stretch (j * w) w list) ≡ xs) × (drop ((k + length xs) * w) list ≡ rest)
behind w k [] list rest wide e = (refl, ap (λ j. drop (j * w) list) (add-zero k) ∙ e)
behind w k (x ∷ xs) list rest wide e =
    let next : drop (suc k * w) list ≡ joined xs rest =
    ap (λ j. drop j list) (suc-mul k w) ∙ sym (drop-drop w (k * w) list) ∙ ap (drop w) e ∙ drop_at x (joined xs rest) w wide.0 in
    let later = behind w (suc k) xs list rest wide.1 next in (
      ap₂ (λ y ys. y ∷ ys) (ap (take w) e ∙ take_at x (joined xs rest) w wide.0) later.0,
      rw (add-suc k (length xs), ← suc-add k (length xs)) later.1,
    )

-- the fourteen lists of the new side in their order, and back
abbrev pub lists_of : Columns → List (List ℕ)
lists_of x =
    let set = x.numbers in
    set.e ∷ set.g ∷ set.l ∷ set.a ∷ set.b ∷ set.k ∷ set.ks ∷ set.h ∷ set.m ∷ set.s ∷ x.cl ∷ x.cb ∷ x.kd ∷ x.start ∷ []

abbrev pub set_in : List (List ℕ) → NumberSet
set_in lists = let at : ℕ → List ℕ = λ k. get_or lists k [] in Lent.set (at 0) (at 1) (at 2) (at 3) (at 4) (at 5) (at 6) (at 7) (at 8) (at 9)

abbrev columns_in : List (List ℕ) → Columns
columns_in lists =
    let at : ℕ → List ℕ = λ k. get_or lists k [] in
    record { numbers = set_in lists; cl = at 10; cb = at 11; kd = at 12; start = at 13 }

-- what the list holds where it is put together of an old side, these lists and a rest
pub sides-together : (old : List ℕ) (x : Columns) (rest list : List ℕ) →
    length old ≡ 10 * width list → AllWide (width list) (lists_of x) → list ≡ old ++ joined (lists_of x) rest →
    sides_of list ≡ record { old = set_in (tab 0 10 (λ k. stretch (k * width list) (width list) old)); new = x; rest = rest }
unfolding sides_of rest_of part_of
sides-together old x rest list many each is =
    let w = width list in
    let new = behind w 10 (lists_of x) list rest each (ap (drop (10 * w)) is ∙ drop_at old (joined (lists_of x) rest) (10 * w) many) in
    let first : tab 0 10 (λ k. stretch (k * w) w list) ≡ tab 0 10 (λ k. stretch (k * w) w old) =
    tab-cong _ _ 0 10 (λ k l h. ap (stretch (k * w) w) is ∙ within w k old (joined (lists_of x) rest) many h) in
    sides-of (ap set_in first) (ap columns_in new.0) new.1

-- ---- other lists in the place of the fourteen

joined-long : (w : ℕ) (xs : List (List ℕ)) (rest : List ℕ) → AllWide w xs → length (joined xs rest) ≡ length xs * w + length rest
joined-long w [] rest wide = rw (zero-mul w, zero-add (length rest))
joined-long w (x ∷ xs) rest wide =
    omega (arith, length-append x (joined xs rest), wide.0, joined-long w xs rest wide.1, suc-mul (length xs) w)

pub changed : (change : Columns → Columns) (old rest list list' : List ℕ) (x x' : Columns) → length old ≡ 10 * width list →
    AllWide (width list) (lists_of x) → AllWide (width list) (lists_of x') →
    list ≡ old ++ joined (lists_of x) rest → list' ≡ old ++ joined (lists_of x') rest → x' ≡ change x →
    SidesAre (record { old = (sides_of list).old; new = change (sides_of list).new; rest = (sides_of list).rest }) list list'
changed change old rest list list' x x' many each each' is is' e =
    let now : length list' ≡ length old + (14 * width list + length rest) =
    ap length is' ∙ length-append old (joined (lists_of x') rest) ∙ ap (λ n. length old + n) (joined-long (width list) (lists_of x') rest each') in
    let long : length list' ≡ length list =
    omega (arith, now, ap length is, length-append old (joined (lists_of x) rest), joined-long (width list) (lists_of x) rest each) in
    let wide : width list' ≡ width list = ap (λ n. n / 24) long in
    let before = sides-together old x rest list many each is in
    let after = sides-together old x' rest list' (rw wide many) (rw wide each') is' in
    record { sides = rw (before, after, wide, e); long = long }

-- ---- the new side's set in the place of the old side's

-- a list is put together of its parts
apart : (w k n : ℕ) (list : List ℕ) → drop (k * w) list ≡ joined (tab k n (λ j. stretch (j * w) w list)) (drop ((k + n) * w) list)
apart w k zero list = rw (add-zero k)
apart w k (suc n) list =
    let next : drop w (drop (k * w) list) ≡ drop (suc k * w) list = drop-drop w (k * w) list ∙ ap (λ j. drop j list) (sym (suc-mul k w)) in
    sym (take-append-drop w (drop (k * w) list))
    ∙ ap (λ l. take w (drop (k * w) list) ++ l) (next ∙ rw (add-suc k n, ← suc-add k n) (apart w (suc k) n list))

wide-parts : (list : List ℕ) (k n : ℕ) → k + n ≤ parts → AllWide (width list) (tab k n (part_of list))
wide-parts list k zero h = tt
wide-parts list k (suc n) h = (length_part list k (omega arith), wide-parts list (suc k) n (omega arith))

module _ (list : List ℕ) where
  -- what is copied
  abbrev pub new_set : List ℕ
  new_set = take (10 * width list) (drop (10 * width list) list)

  many : length new_set ≡ 10 * width list
  many = length-stretch (10 * width list) (10 * width list) list (omega arith)

  -- a part of it is one of the new side's
  part-copied : (k : ℕ) → k < 10 → stretch (k * width list) (width list) new_set ≡ stretch ((10 + k) * width list) (width list) list
  part-copied k h =
      let w = width list in
      let ends = part-ends k 10 w h in
      let at : 10 * w + k * w ≡ (10 + k) * w = sym (add-mul 10 k w) in
      ap (λ n. stretch (k * w) w (take n (drop (10 * w) list))) (omega (arith, ends))
      ∙ ap (take w) (drop-take (k * w) (10 * w - k * w) (drop (10 * w) list))
      ∙ take-take w (10 * w - k * w) (drop (k * w) (drop (10 * w) list)) (omega (arith, ends))
      ∙ ap (take w) (drop-drop (k * w) (10 * w) list ∙ ap (λ n. drop n list) at)

  set-copied : set_in (tab 0 10 (λ k. stretch (k * width list) (width list) new_set)) ≡ (sides_of list).new.numbers
  unfolding sides_of part_of
  set-copied = ap set_in (tab-cong _ _ 0 10 (λ k l h. part-copied k h))

  new-wide : AllWide (width list) (lists_of (sides_of list).new)
  unfolding sides_of
  new-wide = wide-parts list 10 14 (lit≤ tt)

  new-apart : drop (10 * width list) list ≡ joined (lists_of (sides_of list).new) (sides_of list).rest
  unfolding sides_of part_of rest_of
  new-apart = apart (width list) 10 14 list

  pub set-kept : (list' : List ℕ) → length list' ≡ length list → list' ≡ copy_within list (10 * width list) (2 * (10 * width list)) 0 →
      SidesAre (kept (sides_of list)) list list'
  set-kept list' long e =
      let w = width list in
      let twice : 2 * (10 * w) - 10 * w ≡ 10 * w = omega arith in
      let is : list' ≡ new_set ++ joined (lists_of (sides_of list).new) (sides_of list).rest = rw (e, twice, zero-add (10 * w), ← new-apart) in
      let wide : width list' ≡ w = ap (λ n. n / 24) long in
      let now = sides-together new_set (sides_of list).new (sides_of list).rest list' (rw wide many) (rw wide new-wide) is in
      record { sides = now ∙ rw (wide, set-copied); long = long }
