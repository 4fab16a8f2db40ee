-- The lines of a state rest on its figures and its count alone.
use mathlib.Core.Path.{◌≡◌, refl, sym, ap, ◌∙◌}
use mathlib.Core.Bool.{cond}
use mathlib.Core.List.{List, [], ◌∷◌, map}
use Prim.Native.Nat.{ℕ, suc, ◌-◌, ◌*◌, ◌%◌, ◌<◌, ◌≤◌}
use native.Mathlib.Omega.{arith}
use lib.Dec.{eqb}
use lib.ListN.{length, get_or}
use Rattle.lists.proofs.Tab.{length-tab, get_or-tab}
use Rattle.model.specs.Sheet.{interval, gauge_count, gauges, segment_count}
use Rattle.model.specs.Flow.{course_of}
use Rattle.model.specs.HalfStep.{loaded_segment}
use Rattle.model.specs.State.{State, figures_at}
use Rattle.model.specs.OwnRiver.{Alike}
use Rattle.output.specs.Text.{line}
use Rattle.output.specs.Listing.{gauge_line, step_lines, lines_at}

map-alike : {A B : Type 0} (f g : A → B) (d : A) (l : List A) → ((j : ℕ) → j < length l → f (get_or l j d) ≡ g (get_or l j d)) → map f l ≡ map g l
map-alike f g d [] h = refl
map-alike f g d (x ∷ xs) h = rw (h 0 (omega arith), map-alike f g d xs (λ j i. h (suc j) (omega arith)))

gauges-count : (sheet : List ℕ) → length (gauges sheet) ≡ gauge_count sheet
unfolding gauges
gauges-count sheet = length-tab _ 0 (gauge_count sheet)

module _ {n : ℕ} {s t : State} (a : Alike n s t) where
  -- the figures of a segment of theirs
  pub figures-alike : (i : ℕ) → i < n → figures_at s i ≡ figures_at t i
  figures-alike i h =
      sym (get_or-tab (figures_at s) n i (figures_at s i) h) ∙ ap (λ l. get_or l i (figures_at s i)) a.figures ∙ get_or-tab (figures_at t) n i (figures_at s i) h

  -- the line of a gauge there
  gauge-alike : (sheet : List ℕ) (number : ℕ) → 1 ≤ number → number ≤ n → gauge_line sheet s number ≡ gauge_line sheet t number
  unfolding gauge_line
  gauge-alike sheet number h l =
      let kd = (loaded_segment (course_of sheet 0) (number - 1)).kd in
      let there = figures_at t (number - 1) in
      ap (λ x. line s.steps number x.c x.z (kd * x.w)) (figures-alike (number - 1) (omega arith))
      ∙ ap (λ k. line k number there.c there.z (kd * there.w)) a.steps

-- the gauges are segments of a river of n
abbrev pub GaugesWithin : List ℕ → (n : ℕ) → Type 0
GaugesWithin sheet n = (j : ℕ) → j < gauge_count sheet → (1 ≤ get_or (gauges sheet) j 0) × (get_or (gauges sheet) j 0 ≤ n)

-- Two states that say the same have the same lines.
pub lines-alike : (sheet : List ℕ) {s t : State} → GaugesWithin sheet (segment_count sheet) → Alike (segment_count sheet) s t → lines_at sheet s ≡ lines_at sheet t
unfolding lines_at step_lines
lines-alike sheet {s} {t} within a =
    ap (λ k. cond (eqb (k % interval sheet) 0) (step_lines sheet s) []) a.steps
    ∙ ap (λ l. cond (eqb (t.steps % interval sheet) 0) l [])
    (map-alike (gauge_line sheet s) (gauge_line sheet t) 0 (gauges sheet)
    (λ j h. let inside = within j (rw (gauges-count sheet) at h) in gauge-alike a sheet _ inside.0 inside.1))
