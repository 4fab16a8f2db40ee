-- Where the bands of a reach stand: one section for each reach, behind the flow rows.
use mathlib.Core.Path.{◌≡◌, refl, ap, ◌∙◌}
use mathlib.Core.Bool.{true}
use mathlib.Core.List.{List, [], ◌∷◌}
use Prim.Native.Nat.{ℕ, zero, suc, ◌+◌, ◌<◌}
use native.Mathlib.Omega.{arith}
use borrow.Author.Tests.{le-leb, leb-true}
use lib.Dec.{leb}
use lib.ListN.{length, get_or, take, replicate, length-replicate, get_or-replicate}
use Rattle.model.specs.Ranges.{Section, reach_section, row_section, gauge_section, flow_section, band_section}
use Rattle.model.specs.Sheet.{edition, sections, section_end, sections_end, count_at, reach_count_at, reach_count, band_count_at}
use Rattle.model.specs.Refusals.{passes}
use Rattle.model.specs.Load.{walk}
use Rattle.sheet.specs.Walks.{Walked}
use Rattle.sheet.proofs.Walking.{Complete, walk-pass}

-- ---- sections that stand one behind the other

module _ (sheet : List ℕ) (none : Section) where
  -- where the section behind section i stands
  sections-next : (at : ℕ) (xs : List Section) (i : ℕ) → i < length xs →
      sections_end sheet at (take (suc i) xs) ≡ section_end sheet (sections_end sheet at (take i xs)) (get_or xs i none)
  unfolding sections_end
  sections-next at [] i h = absurd (omega arith)
  sections-next at (x ∷ xs) zero h = refl
  sections-next at (x ∷ xs) (suc i) h = sections-next (section_end sheet at x) xs i (omega arith)

  -- section i, where the walk passes
  sections-complete : (at : ℕ) (xs : List Section) (i : ℕ) → i < length xs → walk sheet at xs ≡ passes →
      Complete sheet (sections_end sheet at (take i xs)) (get_or xs i none)
  unfolding sections_end
  sections-complete at [] i h e = absurd (omega arith)
  sections-complete at (x ∷ xs) zero h e = (walk-pass sheet at x xs e).0
  sections-complete at (x ∷ xs) (suc i) h e = sections-complete (section_end sheet at x) xs i (omega arith) (walk-pass sheet at x xs e).1

-- ---- a sheet with bands

module _ (sheet : List ℕ) (has : leb 3 (edition sheet) ≡ true) where
  all-sections : sections sheet ≡ reach_section (edition sheet) ∷ row_section ∷ gauge_section ∷ flow_section ∷ replicate (reach_count sheet) band_section
  unfolding sections
  all-sections = rw (le-leb 2 (edition sheet) (omega (arith, leb-true 3 (edition sheet) has)), has)

  many : length (sections sheet) ≡ 4 + reach_count sheet
  many = rw all-sections (omega (arith, length-replicate (reach_count sheet) band_section))

  -- section 4 + i
  section-four : (i : ℕ) → i < reach_count sheet → get_or (sections sheet) (4 + i) band_section ≡ band_section
  section-four i h =
      let four : 4 + i ≡ suc (suc (suc (suc i))) = omega arith in
      rw (all-sections, four) (get_or-replicate (reach_count sheet) i band_section band_section h)

  -- the bands of the first reach stand behind the flow rows
  pub band-first : band_count_at sheet 0 ≡ section_end sheet (count_at sheet 3) flow_section
  unfolding count_at sections_end
  band-first = rw all-sections

  module _ (i : ℕ) (h : i < reach_count sheet) where
    -- those of the next reach behind those of reach i
    pub band-next : band_count_at sheet (suc i) ≡ section_end sheet (band_count_at sheet i) band_section
    unfolding count_at
    band-next =
        let one : 4 + suc i ≡ suc (4 + i) = omega arith in
        ap (λ k. sections_end sheet reach_count_at (take k (sections sheet))) one
        ∙ sections-next sheet band_section reach_count_at (sections sheet) (4 + i) (omega (arith, many))
        ∙ ap (section_end sheet (sections_end sheet reach_count_at (take (4 + i) (sections sheet)))) (section-four i h)

    -- and lie on the sheet
    pub band-complete : Walked sheet → Complete sheet (band_count_at sheet i) band_section
    unfolding count_at
    band-complete e = rw (section-four i h) at (sections-complete sheet band_section reach_count_at (sections sheet) (4 + i) (omega (arith, many)) e)
