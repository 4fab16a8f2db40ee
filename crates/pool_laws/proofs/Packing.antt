-- A packed list has every open river's stretch, and needs no more segments than the open rivers have.
use mathlib.Core.Path.{◌≡◌, refl, sym, ap, ◌∙◌}
use mathlib.Core.Bool.{Bool, true, false, cond, ◌&&◌}
use mathlib.Core.List.{List, [], ◌∷◌, ◌++◌, append_assoc, append-nil}
use Prim.Native.Nat.{ℕ, zero, suc, ◌+◌, ◌-◌, ◌<◌, ◌≤◌}
use native.Mathlib.Nat.{add-zero, add-suc}
use native.Mathlib.Numerals.{add-one}
use native.Mathlib.Omega.{arith}
use borrow.Author.Tests.{le-leb, lt-ltb, leb-true, ltb-true}
use lib.Dec.{leb, ltb}
use lib.ListN.{length, get_or, set, take, drop, length-append, length-drop}
use lib.Seq.{take-suc, take_at, drop_at, drop-append-add, drop-drop, get_or-drop, drop-cons, set-append_seam, append_snoc}
use Rattle.lists.specs.Lists.{over, stretch, splice, any_below, sum_below}
use Rattle.lists.proofs.Below.{any-hit, any_sum, sum-add, sum-most}
use Rattle.lists.proofs.Over.{length_over, get_or-over-rest}
use Rattle.lists.proofs.Stretch.{length-stretch}
use Rattle.model.specs.Ranges.{most_segments, most_rivers}
use Rattle.model.specs.Pool.{Slot, is_open, end_of, slot_at, open_segments, holds, covered, covered_below, kept, packed}

-- ---- how many entries are kept

-- as many as segments are open rivers'
pub length-kept : (table : List Slot) (s : ℕ) (list : List ℕ) → length (kept table s list) ≡ covered_below table s
unfolding kept covered_below
length-kept table zero list = refl
length-kept table (suc s) list = by (covered table s) (kept table s list) (get_or list s 0) (covered_below table s) (length-kept table s list)
  where
    by : (b : Bool) (xs : List ℕ) (x c : ℕ) → length xs ≡ c → length (cond b (xs ++ (x ∷ [])) xs) ≡ cond b (suc c) c
    by true xs x c e = length-append xs (x ∷ []) ∙ omega arith
    by false xs x c e = e

-- ---- a loop that packs a list

-- one more entry written behind the first ones
over-snoc : (xs before : List ℕ) (v : ℕ) → length xs < length before → set (over xs before) (length xs) v ≡ over (xs ++ (v ∷ [])) before
over-snoc xs before v h =
    let e : length (xs ++ (v ∷ [])) ≡ suc (length xs) = length-append xs (v ∷ []) ∙ omega arith in
    rw (e, drop-cons before (length xs) v) (set-append_seam xs (get_or before (length xs) v) (drop (suc (length xs)) before) v ∙ sym (append_snoc xs v (drop (suc (length xs)) before)))

-- a loop that keeps the entries of open rivers: it stands at segment s, and writes the next at `to`
pub record Packing (table : List Slot) (before : List ℕ) (s to : ℕ) (list : List ℕ) : Type 0 where
  pub is : list ≡ over (kept table s before) before
  pub at : to ≡ covered_below table s
  pub left : to ≤ s
  pub long : length list ≡ length before

-- before the first segment
pub packing-start : {table : List Slot} {before : List ℕ} → Packing table before 0 0 before
unfolding kept covered_below
packing-start = record { is = refl; at = refl; left = omega arith; long = refl }

-- one more segment, by whether it is an open river's
turn : {table : List Slot} {before : List ℕ} {s to : ℕ} {list : List ℕ} (b : Bool) → covered table s ≡ b → s < length before → Packing table before s to list →
    Packing table before (suc s) (cond b (suc to) to) (cond b (set list to (get_or list s 0)) list)
unfolding kept covered_below
turn {table} {before} {s} {to} {list} true e h r =
    let many : length (kept table s before) ≡ to = length-kept table s before ∙ sym r.at in
    let v : get_or list s 0 ≡ get_or before s 0 = ap (λ l. get_or l s 0) r.is ∙ get_or-over-rest (kept table s before) before s 0 (omega (arith, r.left)) in
    let is : set list to (get_or list s 0) ≡ over (kept table s before ++ (get_or before s 0 ∷ [])) before =
    rw (v, r.is, ← many) (over-snoc (kept table s before) before (get_or before s 0) (omega (arith, r.left))) in
    let more : length (kept table s before ++ (get_or before s 0 ∷ [])) ≡ suc to = length-append (kept table s before) (get_or before s 0 ∷ []) ∙ omega arith in
    record {
      is = rw e is;
      at = rw e (ap suc r.at);
      left = omega (arith, r.left);
      long = ap length is ∙ length_over (kept table s before ++ (get_or before s 0 ∷ [])) before (omega (arith, more, r.left));
    }
turn {table} {before} {s} {to} {list} false e h r = record { is = rw e r.is; at = rw e r.at; left = omega (arith, r.left); long = r.long }

-- one more segment: its entry is written at `to` where it is an open river's
pub packing-turn : {table : List Slot} {before : List ℕ} {s to : ℕ} {list : List ℕ} → Packing table before s to list → s < length before →
    (b : Bool) {list' : List ℕ} {r : ℕ} → b ≡ covered table s → list' ≡ cond b (set list to (get_or list s 0)) list → r ≡ cond b (to + 1) to →
    Packing table before (s + 1) r list'
packing-turn {table} {before} {s} {to} {list} p h b e is next =
    let q : cond b (to + 1) to ≡ cond b (suc to) to = ap (λ k. cond b k to) (add-one to) in
    rw (is, next ∙ q, add-one s) (turn b (sym e) h p)

-- behind the last segment
pub packing-end : {table : List Slot} {before : List ℕ} {s to : ℕ} {list : List ℕ} (n : ℕ) → Packing table before s to list → s ≡ n →
    (list ≡ over (kept table n before) before) × (to ≡ covered_below table n)
packing-end {table} {before} n p e = (p.is ∙ ap (λ k. over (kept table k before) before) e, p.at ∙ ap (covered_below table) e)

-- ---- each stretch is kept

-- a river is open in slot i
pub record Open (table : List Slot) (i : ℕ) : Type 0 where
  pub slot : i < most_rivers
  pub opened : is_open (slot_at table i) ≡ true

-- a segment of an open river
pub covered-in : (table : List Slot) (i s : ℕ) → Open table i → (slot_at table i).first ≤ s → s < end_of (slot_at table i) → covered table s ≡ true
unfolding covered
covered-in table i s o low high =
    any-hit (λ k. holds (slot_at table k) s) most_rivers i o.slot (rw (o.opened, le-leb _ _ low) (lt-ltb s (end_of (slot_at table i)) high))

-- one more segment of an open river
one_more : (table : List Slot) (list : List ℕ) (s s' : ℕ) → s' ≡ suc s → covered table s ≡ true → kept table s' list ≡ kept table s list ++ (get_or list s 0 ∷ [])
unfolding kept
one_more table list s s' e c = rw (e, c)

-- a run of such segments is kept as it stands
kept_run : (table : List Slot) (list : List ℕ) (f n : ℕ) → ((s : ℕ) → f ≤ s → s < f + n → covered table s ≡ true) → f + n ≤ length list →
    kept table (f + n) list ≡ kept table f list ++ stretch f n list
kept_run table list f zero all fits = rw (add-zero f) (sym (append-nil (kept table f list)))
kept_run table list f (suc n) all fits =
    let long : length (drop f list) ≡ length list - f = length-drop f list in
    let e : take (suc n) (drop f list) ≡ take n (drop f list) ++ (get_or list (f + n) 0 ∷ []) = take-suc (drop f list) n 0 (omega arith) ∙ ap (λ x. take n (drop f list) ++ (x ∷ [])) (get_or-drop f list n 0) in
    one_more table list (f + n) (f + suc n) (omega arith) (all (f + n) (omega arith) (omega arith))
    ∙ ap (λ l. l ++ (get_or list (f + n) 0 ∷ [])) (kept_run table list f n (λ s l h. all s l (omega arith)) (omega arith))
    ∙ append_assoc (kept table f list) (take n (drop f list)) (get_or list (f + n) 0 ∷ [])
    ∙ ap (λ l. kept table f list ++ l) (sym e)

-- what is kept of more segments begins with what is kept of fewer
record Begins (xs ys : List ℕ) : Type 0 where
  rest : List ℕ
  is : ys ≡ xs ++ rest

-- s segments, and s + k
begins : (table : List Slot) (list : List ℕ) (s k : ℕ) → Begins (kept table s list) (kept table (s + k) list)
unfolding kept
begins table list s zero = record { rest = []; is = rw (add-zero s) (sym (append-nil (kept table s list))) }
begins table list s (suc k) = rw (add-suc s k) (more (covered table (s + k)) (begins table list s k) (get_or list (s + k) 0))
  where
    more : {xs ys : List ℕ} (b : Bool) → Begins xs ys → (x : ℕ) → Begins xs (cond b (ys ++ (x ∷ [])) ys)
    more {xs} true r x = record { rest = r.rest ++ (x ∷ []); is = ap (λ l. l ++ (x ∷ [])) r.is ∙ append_assoc xs r.rest (x ∷ []) }
    more false r x = r

-- a part that others stand before and behind
middle : (xs ys zs : List ℕ) (a n : ℕ) → length xs ≡ a → length ys ≡ n → take n (drop a (xs ++ (ys ++ zs))) ≡ ys
middle xs ys zs a n p q = ap (take n) (drop_at xs (ys ++ zs) a p) ∙ take_at ys zs n q

-- an open river's stretch stands in the packed list from where its first segment moves to
pub stretch-packed : (table : List Slot) (i : ℕ) (new list : List ℕ) → Open table i → end_of (slot_at table i) ≤ most_segments → most_segments ≤ length list →
    stretch (covered_below table (slot_at table i).first) (slot_at table i).segments (packed table new list)
    ≡ stretch (slot_at table i).first (slot_at table i).segments list
unfolding packed
stretch-packed table i new list o fits long =
    let f = (slot_at table i).first in
    let n = (slot_at table i).segments in
    let run = kept_run table list f n (λ s l h. covered-in table i s o l h) (omega arith) in
    let b = begins table list (f + n) (most_segments - (f + n)) in
    let q : f + n + (most_segments - (f + n)) ≡ most_segments = omega arith in
    let whole : kept table most_segments list ≡ kept table f list ++ stretch f n list ++ b.rest = ap (λ k. kept table k list) (sym q) ∙ b.is ∙ ap (λ l. l ++ b.rest) run in
    let rest = drop (length (kept table most_segments list ++ new)) list in
    let parts : kept table f list ++ stretch f n list ++ b.rest ++ new ++ rest ≡ kept table f list ++ (stretch f n list ++ (b.rest ++ (new ++ rest))) = simp append_assoc in
    ap (λ l. stretch (covered_below table f) n (l ++ new ++ rest)) whole
    ∙ ap (stretch (covered_below table f) n) parts
    ∙ middle (kept table f list) (stretch f n list) (b.rest ++ (new ++ rest)) (covered_below table f) n (length-kept table f list) (length-stretch f n list (omega arith))

-- the new river's stretch stands behind the open ones
pub new-packed : (table : List Slot) (new list : List ℕ) → stretch (covered_below table most_segments) (length new) (packed table new list) ≡ new
unfolding packed
new-packed table new list =
    let rest = drop (length (kept table most_segments list ++ new)) list in
    ap (stretch (covered_below table most_segments) (length new)) (append_assoc (kept table most_segments list) new rest)
    ∙ middle (kept table most_segments list) new rest (covered_below table most_segments) (length new) (length-kept table most_segments list) refl

-- where both fit, the length is as it was
pub length-packed : (table : List Slot) (new list : List ℕ) → covered_below table most_segments + length new ≤ length list →
    length (packed table new list) ≡ length list
unfolding packed
length-packed table new list h =
    length_over (kept table most_segments list ++ new) list (omega (arith, length-append (kept table most_segments list) new, length-kept table most_segments list))

-- the new river's entries in the place behind the open ones, in a list packed without them
pub packed-splice : (table : List Slot) (new list : List ℕ) (n : ℕ) → length new ≡ n →
    splice (covered_below table most_segments) n new (over (kept table most_segments list) list) ≡ packed table new list
unfolding packed
packed-splice table new list n e =
    let xs = kept table most_segments list in
    let at : length xs ≡ covered_below table most_segments = length-kept table most_segments list in
    let many : length (xs ++ new) ≡ length xs + n = length-append xs new ∙ ap (λ k. length xs + k) e in
    ap (λ k. splice k n new (over xs list)) (sym at)
    ∙ ap (λ l. l ++ (new ++ drop (length xs + n) (over xs list))) (take_at xs (drop (length xs) list) (length xs) refl)
    ∙ ap (λ l. xs ++ (new ++ l)) (drop-append-add xs (drop (length xs) list) n ∙ drop-drop n (length xs) list ∙ ap (λ k. drop k list) (sym many))
    ∙ sym (append_assoc xs new (drop (length (xs ++ new)) list))

-- ---- no more segments than the open rivers have

-- how many of the first s segments are the slot's
count_in : Slot → ℕ → ℕ
count_in x zero = 0
count_in x (suc s) = count_in x s + cond (holds x s) 1 0

-- they are not before its first segment, and no more than it has
record InSlot (x : Slot) (s : ℕ) : Type 0 where
  behind : count_in x s ≤ s - x.first
  most : count_in x s ≤ cond (is_open x) x.segments 0

-- one more segment, by what `holds` looks at
held : (o l h : Bool) (s f m c : ℕ) → leb f s ≡ l → ltb s (f + m) ≡ h → c ≤ s - f → c ≤ cond o m 0 →
    (c + cond (o && l && h) 1 0 ≤ suc s - f) × (c + cond (o && l && h) 1 0 ≤ cond o m 0)
held true true true s f m c p q a b = let i = leb-true f s p in let k = ltb-true s (f + m) q in (omega arith, omega arith)
held true true false s f m c p q a b = (omega arith, omega arith)
held true false h s f m c p q a b = (omega arith, omega arith)
held false l h s f m c p q a b = (omega arith, omega arith)

-- so it is of every slot
in-slot : (x : Slot) (s : ℕ) → InSlot x s
unfolding count_in
in-slot x zero = record { behind = omega arith; most = omega arith }
in-slot x (suc s) =
    let r = in-slot x s in
    let h = held (is_open x) (leb x.first s) (ltb s (end_of x)) s x.first x.segments (count_in x s) refl refl r.behind r.most in
    record { behind = h.0; most = h.1 }

-- a segment that is an open river's is counted in one slot at least
count-in : (table : List Slot) (s : ℕ) → covered_below table s ≤ sum_below most_rivers (λ i. count_in (slot_at table i) s)
unfolding covered_below covered count_in
count-in table zero = omega arith
count-in table (suc s) =
    let held = any_sum (λ i. holds (slot_at table i) s) most_rivers in
    let e = sum-add (λ i. count_in (slot_at table i) s) (λ i. cond (holds (slot_at table i) s) 1 0) most_rivers in
    step (any_below most_rivers (λ i. holds (slot_at table i) s)) (covered_below table s) _ _ _ (count-in table s) held e
  where
    step : (b : Bool) (c s h u : ℕ) → c ≤ s → cond b 1 0 ≤ h → u ≡ s + h → cond b (suc c) c ≤ u
    step true c s h u p q e = omega arith
    step false c s h u p q e = omega arith

-- of any segments no more are open rivers' than these have; they may overlap
pub below-open : (table : List Slot) (s : ℕ) → covered_below table s ≤ open_segments table
unfolding open_segments
below-open table s =
    omega (arith, count-in table s, sum-most (λ i. count_in (slot_at table i) s) (λ i. cond (is_open (slot_at table i)) (slot_at table i).segments 0) most_rivers (λ i h. (in-slot (slot_at table i) s).most))

-- ---- where segments move to

-- no segment moves back
pub below-most : (table : List Slot) (s : ℕ) → covered_below table s ≤ s
unfolding covered_below
below-most table zero = omega arith
below-most table (suc s) = up (covered table s) (covered_below table s) s (below-most table s)
  where
    up : (b : Bool) (x y : ℕ) → x ≤ y → cond b (suc x) x ≤ suc y
    up true x y h = omega arith
    up false x y h = omega arith

-- more segments, no smaller count
rise : (table : List Slot) (a k : ℕ) → covered_below table a ≤ covered_below table (a + k)
unfolding covered_below
rise table a zero = rw (add-zero a) (omega arith)
rise table a (suc k) = rw (add-suc a k) (up (covered table (a + k)) (covered_below table a) (covered_below table (a + k)) (rise table a k))
  where
    up : (b : Bool) (x y : ℕ) → x ≤ y → x ≤ cond b (suc y) y
    up true x y h = omega arith
    up false x y h = h

-- segments keep their order
pub below-rise : (table : List Slot) (a b : ℕ) → a ≤ b → covered_below table a ≤ covered_below table b
below-rise table a b h = let q : a + (b - a) ≡ b = omega arith in rw q at (rise table a (b - a))

-- a run of segments of open rivers is counted whole
count-run : (table : List Slot) (f n : ℕ) → ((s : ℕ) → f ≤ s → s < f + n → covered table s ≡ true) → covered_below table (f + n) ≡ covered_below table f + n
unfolding covered_below
count-run table f zero all = rw (add-zero f) (omega arith)
count-run table f (suc n) all = rw (add-suc f n, all (f + n) (omega arith) (omega arith)) (let e = count-run table f n (λ s l h. all s l (omega arith)) in omega arith)

-- a segment behind an open river stays behind it
pub below_apart : (table : List Slot) (i : ℕ) → Open table i → (g : ℕ) → end_of (slot_at table i) ≤ g →
    covered_below table (slot_at table i).first + (slot_at table i).segments ≤ covered_below table g
below_apart table i o g h =
    let f = (slot_at table i).first in
    let n = (slot_at table i).segments in
    omega (arith, count-run table f n (λ s l k. covered-in table i s o l k), below-rise table (f + n) g h)

-- an open river's stretch ends before the new river's
pub below-ends : (table : List Slot) (i : ℕ) → Open table i → end_of (slot_at table i) ≤ most_segments →
    covered_below table (slot_at table i).first + (slot_at table i).segments ≤ covered_below table most_segments
below-ends table i o h = below_apart table i o most_segments h

-- ---- a loop that counts

-- before the first segment
pub below-start : (table : List Slot) → 0 ≡ covered_below table 0
unfolding covered_below
below-start table = refl

-- one more segment
pub below-turn : (table : List Slot) (s to r : ℕ) (b : Bool) → to ≡ covered_below table s → b ≡ covered table s → r ≡ cond b (to + 1) to →
    r ≡ covered_below table (s + 1)
unfolding covered_below
below-turn table s to r b e q h = h ∙ rw (q, e, add-one s, add-one (covered_below table s))
