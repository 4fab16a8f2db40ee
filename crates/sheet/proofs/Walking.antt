-- Laws of `walk` and `sections_end`, for loops that go from section to section.
use mathlib.Core.Path.{◌≡◌, sym, ap, ◌∙◌}
use mathlib.Core.Bool.{true, false, cond}
use mathlib.Core.List.{List, [], ◌∷◌}
use Prim.Native.Nat.{ℕ, suc, ◌+◌, ◌<◌, ◌≤◌}
use native.Mathlib.Numerals.{add-one}
use borrow.Author.Tests.{lt-ltb, le-ltb, ltb-false}
use lib.Dec.{ltb}
use lib.ListN.{length, get_or, drop, drop_of_length-le}
use lib.Seq.{drop-cons}
use Rattle.model.specs.Ranges.{Section, outside}
use Rattle.model.specs.Sheet.{field, section_end, sections_end}
use Rattle.model.specs.Refusals.{passes, fails, nothing}
use Rattle.model.specs.Load.{walk}
use Rattle.sheet.proofs.Tests.{cond-pass}
use Rattle.sheet.proofs.InRange.{Within, within}

-- k sections are right, and the next one's count stands at `at`
pub record Walking (sheet : List ℕ) (from : ℕ) (sections : List Section) (k at : ℕ) : Type 0 where
  pub rest : walk sheet at (drop k sections) ≡ walk sheet from sections

module _ {sheet : List ℕ} {from : ℕ} {sections : List Section} {k at : ℕ} (r : Walking sheet from sections k at) where
  pub walking-end : length sections ≤ k → passes ≡ walk sheet from sections
  unfolding walk
  walking-end h = sym (rw (drop_of_length-le sections {i = k} h)) ∙ r.rest

  -- the next section
  module _ (none : Section) (h : k < length sections) where
    pub walking-short : length sheet < at + 4 → fails 2 nothing ≡ walk sheet from sections
    unfolding walk
    walking-short l = sym (rw (drop-cons sections k none h, lt-ltb _ _ l)) ∙ r.rest

    module _ (section : Section) (e : section ≡ get_or sections k none) (l : at + 4 ≤ length sheet) where
      pub walking-count : outside section.counts (field sheet at) ≡ true → fails 3 nothing ≡ walk sheet from sections
      unfolding walk
      walking-count o = sym (rw (drop-cons sections k none h, ← e, le-ltb _ _ l, o)) ∙ r.rest

      module _ (o : outside section.counts (field sheet at) ≡ false) where
        pub walking-cut : length sheet < section_end sheet at section → fails 2 nothing ≡ walk sheet from sections
        unfolding walk
        walking-cut m = sym (rw (drop-cons sections k none h, ← e, le-ltb _ _ l, o, lt-ltb _ _ m)) ∙ r.rest

        pub walking_on : section_end sheet at section ≤ length sheet → Walking sheet from sections (k + 1) (section_end sheet at section)
        unfolding walk
        walking_on m = record { rest = sym (rw (drop-cons sections k none h, ← e, le-ltb _ _ l, o, le-ltb _ _ m, add-one)) ∙ r.rest }

-- k sections lie behind `at`, for a loop that looks for the end
pub record Ending (sheet : List ℕ) (from : ℕ) (sections : List Section) (k at : ℕ) : Type 0 where
  pub rest : sections_end sheet at (drop k sections) ≡ sections_end sheet from sections

module _ {sheet : List ℕ} {from : ℕ} {sections : List Section} {k at : ℕ} (r : Ending sheet from sections k at) where
  pub ending-end : length sections ≤ k → at ≡ sections_end sheet from sections
  unfolding sections_end
  ending-end h = sym (rw (drop_of_length-le sections {i = k} h)) ∙ r.rest

  pub ending-on : (none : Section) → k < length sections → (section : Section) → section ≡ get_or sections k none →
      Ending sheet from sections (k + 1) (section_end sheet at section)
  unfolding sections_end
  ending-on none h section e = record { rest = sym (rw (drop-cons sections k none h, ← e, add-one)) ∙ r.rest }

-- a section that the walk passed
pub record Complete (sheet : List ℕ) (at : ℕ) (section : Section) : Type 0 where
  pub counts : Within section.counts (field sheet at)
  pub ends : section_end sheet at section ≤ length sheet

pub walk-pass : (sheet : List ℕ) (at : ℕ) (section : Section) (more : List Section) → walk sheet at (section ∷ more) ≡ passes →
    Complete sheet at section × (walk sheet (section_end sheet at section) more ≡ passes)
unfolding walk
walk-pass sheet at section more e =
    let end = section_end sheet at section in
    let cut = ltb (length sheet) end in
    let wrong = outside section.counts (field sheet at) in
    let after = cond cut (fails 2 nothing) (walk sheet end more) in
    let counted = cond-pass (ltb (length sheet) (at + 4)) 2 nothing (cond wrong (fails 3 nothing) after) e in
    let ranged = cond-pass wrong 3 nothing after counted.1 in
    let ended = cond-pass cut 2 nothing (walk sheet end more) ranged.1 in
    (record { counts = within _ _ ranged.0; ends = ltb-false _ _ ended.0 }, ended.1)

-- section k of sections that the walk passes
pub walking-pass : {sheet : List ℕ} {from : ℕ} {sections : List Section} {k at : ℕ} → Walking sheet from sections k at →
    (none : Section) → k < length sections → (section : Section) → section ≡ get_or sections k none → walk sheet from sections ≡ passes →
    (section_end sheet at section ≤ length sheet) × Walking sheet from sections (k + 1) (section_end sheet at section)
walking-pass {sheet} {from} {sections} {k} {at} r none h section e passed =
    let rest : walk sheet at (section ∷ drop (suc k) sections) ≡ passes =
    ap (walk sheet at) (ap (λ s. s ∷ drop (suc k) sections) e ∙ sym (drop-cons sections k none h)) ∙ r.rest ∙ passed in
    let w = walk-pass sheet at section (drop (suc k) sections) rest in
    (w.0.ends, record { rest = rw add-one (w.1 ∙ sym passed) })

-- sections that the walk passed end on the sheet
pub walk_ends : (sheet : List ℕ) (at : ℕ) (sections : List Section) → walk sheet at sections ≡ passes → at ≤ length sheet →
    sections_end sheet at sections ≤ length sheet
unfolding sections_end
walk_ends sheet at [] e h = h
walk_ends sheet at (section ∷ more) e h =
    let w = walk-pass sheet at section more e in walk_ends sheet (section_end sheet at section) more w.1 w.0.ends
