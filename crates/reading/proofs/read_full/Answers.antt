use Rattle.std.proofs.Common.{◌≡◌, ℕ, ◌+◌, ◌-◌, ◌≤◌, List, ◌++◌, rules, length, take, sym, ap, ◌∙◌, length-take-le}
use Rattle.std.proofs.KnownBytes.{Consumes-trans}
use borrow.Rule.Slice.PartMut.{put_mid, post_of}
use lib.Seq.{take-append-add, take-append-le}
use Rattle.reading.proofs.read_full.Goals as goal

-- the first bytes up to some of those written to a part
take-put_mid_some : (a k n : ℕ) (xs ys : List ℕ) → a ≤ length xs → n ≤ length ys → take (a + n) (put_mid a k xs ys) ≡ take a xs ++ take n ys
take-put_mid_some a k n xs ys within fits =
    let front = take a xs in
    let after = post_of a k xs in
    ap (λ m. take (m + n) (front ++ (ys ++ after))) (sym (length-take-le a xs within))
    ∙ take-append-add front (ys ++ after) n
    ∙ ap (λ l. front ++ l) (take-append-le n ys after fits)

pub loop-done-preserved : goal.loop-done-preserved
loop-done-preserved g c =
    let l = c.loop-done in
    let joined = take-put_mid_some l.done (length l.buffer - l.done) c.in_ok-got.got l.buffer c.read.new.buf l.invariant.1 c.in_ok-got.ensures.bound.0 in
    (search rules, search rules, rw joined (Consumes-trans _ _ _ _ _ l.invariant.2 c.in_ok-got.ensures.bytes.0))
