-- What is put into the buffer, which write is due of it, and what becomes of it. No contract can say that a write was made: its failure is
-- the system's choice.
use Rattle.std.specs.Prelude.{◌≡◌, true, false, cond, ◌||◌, List, [], ◌∷◌, ◌++◌, ℕ, ◌+◌, ◌-◌, ◌<◌, ◌≤◌, min, leb, ltb, length, take}
use Rattle.std.specs.Borrow.{MutBor}
use Rattle.std.proofs.lemmas.List.Edits.{sets}
use Rattle.output.specs.Listing.{text}
use Rattle.output.specs.declared.Writer.{Writer}
use Rattle.output.specs.declared.Stream.TheVariants.{Stdout}
use Rattle.output.specs.declared.Write.{Write}

-- how many bytes the buffer has
abbrev pub size : Writer → ℕ
size o = length o.buffer.now

-- the text stands behind the bytes used, as far as there is room: past the end nothing is stored
pub record Put (text : List ℕ) (o r : Writer) : Type 0 where
  pub used : r.output.used ≡ o.output.used + min (length text) (size o - o.output.used)
  pub failed : r.output.failed ≡ o.output.failed
  pub bytes : r.buffer.now ≡ sets o.buffer.now o.output.used text
  pub reference : r.buffer.ghost_name ≡ o.buffer.ghost_name

-- the write that is due: to standard output, the bytes used; none after a failed write or where the buffer has not so many
unfoldable pub due : Writer → Write
due o = record { stream = Stdout; bytes = cond (o.output.failed || ltb (size o) o.output.used) 0 o.output.used }

-- the bytes used are written, or lost where this write or one before it failed, or where the buffer has not so many
pub record Flushed (o r : Writer) : Type 0 where
  pub used : r.output.used ≡ 0
  pub failed : o.output.failed ≡ true → r.output.failed ≡ true
  pub lost : size o < o.output.used → r.output.failed ≡ true
  pub buffer : r.buffer ≡ o.buffer

-- the most bytes of a line: five numbers of 20 digits, and the byte behind each
abbrev pub longest : ℕ
longest = 105

-- the bytes used are written where a line might not fit behind them
pub record Room (o r : Writer) : Type 0 where
  pub kept : o.output.used + longest ≤ size o → r ≡ o
  pub flushed : size o < o.output.used + longest → Flushed o r

-- one line behind the bytes used, those written first where it might not fit; it is put whole into a buffer that can hold any line
pub record PutLine (text : List ℕ) (o r : Writer) : Type 0 where
  pub from : Writer
  pub room : Room o from
  pub put : Put text from r
  pub whole : longest ≤ size o → r.output.used ≡ from.output.used + length text

-- the bytes of the write that is due
unfoldable pub bytes_due : Writer → List ℕ
bytes_due o = take (due o).bytes o.buffer.now

-- those of the write that is due before a line is put: none where it fits
unfoldable pub handed_over : Writer → List ℕ
handed_over o = cond (leb (o.output.used + longest) (size o)) [] (bytes_due o)

-- lines put one behind another, and the bytes of the writes that were due on the way
pub data Puts : (lines : List (List ℕ)) → (written : List ℕ) → Writer → Writer → Type 0 where
  none : {o : Writer} → Puts [] [] o o
  more : {line written : List ℕ} {lines : List (List ℕ)} {o m r : Writer} →
      PutLine line o m → Puts lines written m r → Puts (line ∷ lines) (handed_over o ++ written) o r

-- the same, whatever bytes were due
pub record Lines (lines : List (List ℕ)) (o r : Writer) : Type 0 where
  pub written : List ℕ
  pub puts : Puts lines written o r

-- a writer over this buffer of which nothing is used, and no write has failed
pub record Fresh (buffer : MutBor (List ℕ)) (o : Writer) : Type 0 where
  pub used : o.output.used ≡ 0
  pub failed : o.output.failed ≡ false
  pub buffer_is : o.buffer ≡ buffer

-- lines put from the start: where no write failed, the bytes of the writes due on the way and of the one due in the end are the lines' text
pub record Listed (lines : List (List ℕ)) (buffer : MutBor (List ℕ)) (r : Writer) : Type 0 where
  pub from : Writer
  pub fresh : Fresh buffer from
  pub written : List ℕ
  pub puts : Puts lines written from r
  pub text_is : longest ≤ length buffer.now → r.output.failed ≡ false → written ++ bytes_due r ≡ text lines
