-- Laws of `Puts`: lines put one behind another are their text, as far as no write failed.
use mathlib.Core.Path.{◌≡◌, refl, sym, ap, ◌∙◌}
use mathlib.Core.Bool.{Bool, true, false, cond, ◌||◌}
use mathlib.Core.List.{List, [], ◌∷◌, ◌++◌, append_assoc, append-nil}
use Prim.Native.Nat.{ℕ, ◌+◌, ◌≤◌, zero-le}
use native.Mathlib.Omega.{arith}
use lib.Dec.{leb, ltb}
use borrow.Author.Tests.{leb-true, leb-false, le-ltb}
use lib.ListN.{length, take, drop, length-append}
use lib.Seq.{sets-eq, length-sets, length-take-le, take_at}
use Rattle.std.specs.Borrow.{MutBor}
use Rattle.output.specs.Listing.{text}
use Rattle.output.specs.Outcomes.{size, due, Room, PutLine, longest, bytes_due, handed_over, Puts, none, more, Lines, Fresh, Listed}
use Rattle.output.specs.declared.Writer.{Writer}
use Rattle.output.proofs.Putting.{room-size, room_fits}

-- one line
pub puts_one : {line : List ℕ} {o r : Writer} → PutLine line o r → Puts (line ∷ []) (handed_over o ++ []) o r
puts_one p = more p none

-- lines behind lines
pub puts-append : {xs ys : List (List ℕ)} {w v : List ℕ} {o m r : Writer} → Puts xs w o m → Puts ys v m r → Puts (xs ++ ys) (w ++ v) o r
puts-append none q = q
puts-append (more p ps) q = rw append_assoc (more p (puts-append ps q))

-- a line leaves the buffer's length
line-length : {line : List ℕ} {o r : Writer} → PutLine line o r → size r ≡ size o
line-length {line} {o} {r} p =
    ap length p.put.bytes ∙ length-sets p.from.buffer.now p.from.output.used line ∙ room-size p.room

line-failed : {line : List ℕ} {o r : Writer} → PutLine line o r → o.output.failed ≡ true → r.output.failed ≡ true
line-failed {line} {o} {r} p h = p.put.failed ∙ cases (leb (o.output.used + longest) (size o)) refl
  where
    cases : (fits : Bool) → leb (o.output.used + longest) (size o) ≡ fits → p.from.output.failed ≡ true
    cases true e = ap (λ x. x.output.failed) (p.room.kept (leb-true _ _ e)) ∙ h
    cases false e = (p.room.flushed (leb-false _ _ e)).failed h

-- a failed write is not forgotten
pub puts-failed : {lines : List (List ℕ)} {written : List ℕ} {o r : Writer} → Puts lines written o r → o.output.failed ≡ true → r.output.failed ≡ true
puts-failed none h = h
puts-failed (more p ps) h = puts-failed ps (line-failed p h)

-- so none failed on the way to an output that did not fail
pub none-failed : {lines : List (List ℕ)} {written : List ℕ} {o r : Writer} → Puts lines written o r → r.output.failed ≡ false → o.output.failed ≡ false
none-failed {o = o} {r = r} ps h = cases o.output.failed refl
  where
    cases : (failed : Bool) → o.output.failed ≡ failed → failed ≡ false
    cases true e = sym (puts-failed ps e) ∙ h
    cases false e = refl

-- where no write has failed, the write due before a line and the bytes used behind it are the bytes used before
handed-on : {o from : Writer} → Room o from → o.output.used ≤ size o → o.output.failed ≡ false →
    handed_over o ++ take from.output.used from.buffer.now ≡ take o.output.used o.buffer.now
unfolding bytes_due handed_over due
handed-on {o} {from} x h f = cases (leb (o.output.used + longest) (size o)) refl
  where
    cases : (fits : Bool) → leb (o.output.used + longest) (size o) ≡ fits →
        cond fits [] (take (cond (o.output.failed || ltb (size o) o.output.used) 0 o.output.used) o.buffer.now) ++ take from.output.used from.buffer.now ≡ take o.output.used o.buffer.now
    cases true e = rw (x.kept (leb-true _ _ e))
    cases false e = rw ((x.flushed (leb-false _ _ e)).used, f, le-ltb (size o) o.output.used h) (append-nil (take o.output.used o.buffer.now))

-- a line that has room stands behind the bytes used
line-bytes : {line : List ℕ} {o r : Writer} (p : PutLine line o r) → longest ≤ size o → take r.output.used r.buffer.now ≡ take p.from.output.used p.from.buffer.now ++ line
line-bytes {line} {o} {r} p l =
    let b = p.from.buffer.now in
    let room : p.from.output.used + longest ≤ size p.from = room_fits p.room l in
    let long = length-take-le p.from.output.used b (omega arith) in
    rw (p.whole l, p.put.bytes, sets-eq line b p.from.output.used (omega (arith, p.put.used, p.whole l)))
    (take_at (take p.from.output.used b ++ line) (drop (p.from.output.used + length line) b) (p.from.output.used + length line)
    (length-append (take p.from.output.used b) line ∙ omega (arith, long)))

-- Where no write failed, the bytes of the writes due and those still in the buffer are the bytes that were there and the lines' text.
pub puts-text : {lines : List (List ℕ)} {written : List ℕ} {o r : Writer} → Puts lines written o r →
    o.output.used ≤ size o → longest ≤ size o → r.output.failed ≡ false → written ++ take r.output.used r.buffer.now ≡ take o.output.used o.buffer.now ++ text lines
unfolding text
puts-text {o = o} none h l f = sym (append-nil (take o.output.used o.buffer.now))
puts-text {o = o} {r = r} (more {line} {written} {lines} {m = m} p ps) h l f =
    let long : size m ≡ size o = line-length p in
    let within : m.output.used ≤ size m = omega (arith, p.put.used, room_fits p.room l, room-size p.room) in
    let before = take p.from.output.used p.from.buffer.now in
    append_assoc (handed_over o) written (take r.output.used r.buffer.now)
    ∙ ap (λ x. handed_over o ++ x) (puts-text ps within (omega arith) f ∙ ap (λ x. x ++ text lines) (line-bytes p l))
    ∙ ap (λ x. handed_over o ++ x) (append_assoc before line (text lines))
    ∙ sym (append_assoc (handed_over o) before (line ++ text lines))
    ∙ ap (λ x. x ++ (line ++ text lines)) (handed-on p.room h (none-failed (more p ps) f))

-- no line put, one, and lines behind lines
pub lines_none : {o : Writer} → Lines [] o o
lines_none = record { written = []; puts = none }

pub lines_one : {line : List ℕ} {o r : Writer} → PutLine line o r → Lines (line ∷ []) o r
lines_one p = record { written = _; puts = puts_one p }

pub lines-append : {xs ys : List (List ℕ)} {o m r : Writer} → Lines xs o m → Lines ys m r → Lines (xs ++ ys) o r
lines-append x y = record { written = _; puts = puts-append x.puts y.puts }

pub lines_then : {lines : List (List ℕ)} {line : List ℕ} {o m r : Writer} → Lines lines o m → PutLine line m r → Lines (lines ++ (line ∷ [])) o r
lines_then x p = lines-append x (lines_one p)

-- the bytes used stay within a buffer that can hold any line
pub puts-within : {lines : List (List ℕ)} {written : List ℕ} {o r : Writer} → Puts lines written o r → o.output.used ≤ size o → longest ≤ size o → r.output.used ≤ size r
puts-within none h l = h
puts-within {o = o} (more {m = m} p ps) h l =
    let long : size m ≡ size o = line-length p in
    puts-within ps (omega (arith, p.put.used, room_fits p.room l, room-size p.room)) (omega arith)

-- so the write that is due behind the last line has all of them
pub last-due : {lines : List (List ℕ)} {written : List ℕ} {o r : Writer} → Puts lines written o r →
    o.output.used ≤ size o → longest ≤ size o → r.output.failed ≡ false → bytes_due r ≡ take r.output.used r.buffer.now
unfolding bytes_due due
last-due {r = r} ps h l f = rw (f, le-ltb (size r) r.output.used (puts-within ps h l))

-- lines put from the start
pub listed : {lines : List (List ℕ)} {written : List ℕ} {buffer : MutBor (List ℕ)} {o r : Writer} → Fresh buffer o → Puts lines written o r → Listed lines buffer r
listed {lines} {written} {buffer} {o} {r} fresh ps = record { from = o; fresh = fresh; written = written; puts = ps; text_is = whole }
  where
    whole : longest ≤ length buffer.now → r.output.failed ≡ false → written ++ bytes_due r ≡ text lines
    whole l f =
        let room : longest ≤ size o = rw fresh.buffer_is l in
        let within : o.output.used ≤ size o = rw fresh.used zero-le in
        ap (λ x. written ++ x) (last-due ps within room f) ∙ puts-text ps within room f ∙ rw fresh.used refl
