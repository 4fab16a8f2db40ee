-- Laws of `Put`: one text put behind another, and a line that has room.
use mathlib.Core.Path.{◌≡◌, refl, sym, ap, ◌∙◌}
use mathlib.Core.Bool.{Bool, true, false, cond, not, ◌||◌}
use mathlib.Core.List.{List, [], ◌∷◌, ◌++◌, append_assoc}
use Prim.Native.Nat.{ℕ, suc, ◌+◌, ◌-◌, ◌<◌, ◌≤◌, zero-le, min}
use native.Mathlib.Omega.{arith}
use lib.Dec.{leb, ltb, eqb}
use borrow.Author.Tests.{leb-true, leb-false, ltb-false, lt-ltb, ne_eqb}
use lib.ListN.{length, length-append, take, drop, drop_of_length-le}
use lib.Seq.{sets, sets-eq, set_out, length-sets, length-take-le}
use Rattle.std.proofs.Math.Bool.{or-true}
use Rattle.std.proofs.lemmas.List.{take-append-drop}
use borrow.Rule.Slice.PartMut.{put_mid, Post-is}
use Rattle.std.specs.Borrow.{MutBor}
use Rattle.lists.proofs.Shorter.{neither}
use Rattle.output.specs.Outcomes.{Put, size, due, Flushed, Room, PutLine, longest}
use Rattle.output.specs.declared.Writer.{Writer}

-- past the end nothing is stored
pub sets-out : (vs l : List ℕ) (i : ℕ) → length l ≤ i → sets l i vs ≡ l
sets-out [] l i h = refl
sets-out (v ∷ vs) l i h = rw (set_out l i v h) (sets-out vs l (suc i) (omega arith))

sets-append : (s t l : List ℕ) (i : ℕ) → sets l i (s ++ t) ≡ sets (sets l i s) (i + length s) t
sets-append [] t l i = ap (λ k. sets l k t) (omega arith)
sets-append (v ∷ s) t l i = sets-append s t _ (suc i) ∙ ap (λ k. sets (sets l i (v ∷ s)) k t) (omega arith)

-- as much of a text as there is room for, copied into its place
pub copied : (text b : List ℕ) (i : ℕ) {n : ℕ} → n ≡ min (length text) (length b - i) → i < length b →
    put_mid i ((i + n) - i) b (take n text) ≡ sets b i text
copied text b i {n} e h =
    let front = take n text in
    let rest = drop n text in
    let long : length front ≡ n = length-take-le n text (omega (arith, e)) in
    ap (λ x. take i b ++ (front ++ x)) (Post-is i (i + n) b (omega arith) ∙ ap (λ k. drop (i + k) b) (sym long))
    ∙ sym (append_assoc (take i b) front (drop (i + length front) b))
    ∙ sym (sets-eq front b i (omega (arith, e, long)))
    ∙ sym (ap (λ x. sets b i x) (sym (take-append-drop n text)) ∙ sets-append front rest b i ∙ cases (leb (length text) (length b - i)) refl)
  where
    cases : (fits : Bool) → leb (length text) (length b - i) ≡ fits → sets (sets b i (take n text)) (i + length (take n text)) (drop n text) ≡ sets b i (take n text)
    cases true f =
        let all : length text ≤ length b - i = leb-true _ _ f in
        let none : drop n text ≡ [] = drop_of_length-le text (omega (arith, e)) in
        rw none refl
    cases false f =
        let cut : length b - i < length text = leb-false _ _ f in
        let long : length (take n text) ≡ n = length-take-le n text (omega (arith, e)) in
        sets-out (drop n text) _ _ (omega (arith, e, cut, h, long, length-sets b i (take n text)))

-- where the second text begins: behind the first, or, where that was cut, past the end
sets_behind : (t l : List ℕ) (i n : ℕ) → sets l (i + min n (length l - i)) t ≡ sets l (i + n) t
sets_behind t l i n = cases (leb (i + n) (length l)) refl
  where
    cases : (fits : Bool) → leb (i + n) (length l) ≡ fits → sets l (i + min n (length l - i)) t ≡ sets l (i + n) t
    cases true e = let h : i + n ≤ length l = leb-true _ _ e in ap (λ k. sets l (i + k) t) (omega arith)
    cases false e = let h : length l < i + n = leb-false _ _ e in sets-out t l _ (omega arith) ∙ sym (sets-out t l (i + n) (omega arith))

pub put_then : {s t : List ℕ} {o r q : Writer} → Put s o r → Put t r q → Put (s ++ t) o q
put_then {s} {t} {o} {r} {q} x y =
    let b = o.buffer.now in
    let long : size r ≡ size o = ap length x.bytes ∙ length-sets b o.output.used s in
    record {
      used = omega (arith, length-append s t, x.used, y.used);
      failed = y.failed ∙ x.failed;
      bytes =
          y.bytes ∙ rw (x.used, x.bytes)
          (ap (λ k. sets (sets b o.output.used s) (o.output.used + min (length s) (k - o.output.used)) t) (sym (length-sets b o.output.used s))
          ∙ sets_behind t (sets b o.output.used s) o.output.used (length s) ∙ sym (sets-append s t b o.output.used));
      reference = y.reference ∙ x.reference;
    }

-- no more is due than the buffer has
pub due-within : (o : Writer) → (due o).bytes ≤ size o
unfolding due
due-within o = cases (o.output.failed || ltb (size o) o.output.used) refl
  where
    cases : (t : Bool) → (o.output.failed || ltb (size o) o.output.used) ≡ t → cond t 0 o.output.used ≤ size o
    cases true e = zero-le
    cases false e = ltb-false (size o) o.output.used (neither o.output.failed (ltb (size o) o.output.used) e).1

-- nothing of what the buffer has not, so that not all the bytes used are written
pub due-not_all : (o : Writer) → size o < o.output.used → eqb (due o).bytes o.output.used ≡ false
unfolding due
due-not_all o h = rw (lt-ltb (size o) o.output.used h, or-true o.output.failed) (ne_eqb 0 o.output.used (λ e. absurd (omega arith)))

-- the write that is due: all the bytes used are written, or they are lost
pub flushed : {o r : Writer} (made : Bool) → r.output.used ≡ 0 → r.output.failed ≡ (o.output.failed || not made) → r.buffer ≡ o.buffer →
    (size o < o.output.used → made ≡ false) → Flushed o r
flushed {o} {r} made used failed buffer lost = record {
  used = used;
  failed = λ h. failed ∙ rw h;
  lost = λ h. failed ∙ rw (lost h) (or-true o.output.failed);
  buffer = buffer;
}

-- room is made in the same buffer
pub room-buffer : {o from : Writer} → Room o from → from.buffer ≡ o.buffer
room-buffer {o} {from} x = cases (leb (o.output.used + longest) (size o)) refl
  where
    cases : (fits : Bool) → leb (o.output.used + longest) (size o) ≡ fits → from.buffer ≡ o.buffer
    cases true e = ap (λ (y : Writer). y.buffer) (x.kept (leb-true _ _ e))
    cases false e = (x.flushed (leb-false _ _ e)).buffer

pub room-size : {o from : Writer} → Room o from → size from ≡ size o
room-size x = ap (λ (b : MutBor (List ℕ)). length b.now) (room-buffer x)

-- a buffer that can hold any line has room for one
pub room_fits : {o from : Writer} → Room o from → longest ≤ size o → from.output.used + longest ≤ size from
room_fits {o} {from} x l = cases (leb (o.output.used + longest) (size o)) refl
  where
    cases : (fits : Bool) → leb (o.output.used + longest) (size o) ≡ fits → from.output.used + longest ≤ size from
    cases true e = let h : o.output.used + longest ≤ size o = leb-true _ _ e in rw (x.kept h) h
    cases false e = let f = x.flushed (leb-false _ _ e) in rw (f.used, f.buffer) l

pub put-line : {text : List ℕ} {o from r : Writer} → length text ≤ longest → Room o from → Put text from r → PutLine text o r
put-line {text} {o} {from} {r} h x y =
    record { from = from; room = x; put = y; whole = λ l. omega (arith, y.used, room_fits x l) }
