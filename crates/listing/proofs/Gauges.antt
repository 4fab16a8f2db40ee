-- A step's lines, gauge by gauge.
use mathlib.Core.Path.{◌≡◌, refl, sym}
use mathlib.Core.List.{List, [], ◌∷◌, ◌++◌}
use Prim.Native.Nat.{ℕ, suc, ◌-◌, ◌%◌, ◌<◌, ◌≤◌}
use native.Mathlib.Omega.{arith}
use borrow.Author.Tests.{ne_eqb}
use lib.ListN.{get_or}
use Rattle.lists.specs.Lists.{tab}
use Rattle.lists.proofs.Tab.{get_or-tab, tab-last, map-tab}
use Rattle.model.specs.Ranges.{gauge_section}
use Rattle.model.specs.Sheet.{interval, record_field, gauge_count_at, gauge_count, gauges, segment_count}
use Rattle.model.specs.State.{State, figures_at}
use Rattle.output.specs.Listing.{gauge_line, step_lines, lines_at}
use Rattle.output.specs.Outcomes.{Lines}
use Rattle.output.specs.declared.Writer.{Writer}
use Rattle.output.proofs.Lines.{lines_none}
use Rattle.listing.specs.Shown.{Shown, HasSegment, line_at}
use Rattle.own_river_laws.proofs.Sheets.{gauge-first, gauge-last}

-- gauge j, as the sheet has it
abbrev pub gauge_at : List ℕ → (j : ℕ) → ℕ
gauge_at sheet j = record_field sheet (gauge_count_at sheet) gauge_section j 0

-- the lines of the first j gauges
unfoldable pub first_lines : List ℕ → State → (j : ℕ) → List (List ℕ)
first_lines sheet state j = tab 0 j (λ i. gauge_line sheet state (gauge_at sheet i))

-- none yet, one more, all of them
pub lines_start : (sheet : List ℕ) (s : State) → first_lines sheet s 0 ≡ []
unfolding first_lines
lines_start sheet s = refl

pub lines_more : (sheet : List ℕ) (s : State) (j : ℕ) → first_lines sheet s (suc j) ≡ first_lines sheet s j ++ (gauge_line sheet s (gauge_at sheet j) ∷ [])
unfolding first_lines
lines_more sheet s j = tab-last (λ i. gauge_line sheet s (gauge_at sheet i)) j

pub lines-all : (sheet : List ℕ) (s : State) → first_lines sheet s (gauge_count sheet) ≡ step_lines sheet s
unfolding first_lines step_lines gauges
lines-all sheet s = sym (map-tab (gauge_line sheet s) (gauge_at sheet) 0 (gauge_count sheet))

-- the step is a multiple of the interval, or has no line
pub due : (sheet : List ℕ) (s : State) {o r : Writer} → s.steps % interval sheet ≡ 0 → Lines (step_lines sheet s) o r → Lines (lines_at sheet s) o r
unfolding lines_at
due sheet s e x = rw e x

pub none-due : (sheet : List ℕ) (s : State) {o : Writer} → (s.steps % interval sheet ≡ 0 → ⊥) → Lines (lines_at sheet s) o o
unfolding lines_at
none-due sheet s n = rw (ne_eqb (s.steps % interval sheet) 0 n) lines_none

module _ (sheet kd : List ℕ) (s : State) (x : Shown sheet kd s) (j : ℕ) (h : j < gauge_count sheet) where
  -- gauge j of the list of gauges
  at-is : get_or (gauges sheet) j 0 ≡ gauge_at sheet j
  unfolding gauges
  at-is = get_or-tab (gauge_at sheet) (gauge_count sheet) j 0 h

  -- "strictly rising, from 1 to the river's last"
  gauge-from : 1 ≤ gauge_at sheet j
  gauge-from = rw at-is at (gauge-first sheet x.passed j h)

  gauge-most : gauge_at sheet j ≤ segment_count sheet
  gauge-most = rw at-is at (gauge-last sheet x.passed j h)

  pub gauge-within : HasSegment (gauge_at sheet j) kd s
  gauge-within =
      let from = gauge-from in
      let most = gauge-most in
      record {
        from = from;
        kd_long = omega (arith, x.kd_long);
        figures = record {
          channel = omega (arith, x.figures.channel);
          storage = omega (arith, x.figures.storage);
          sediment = omega (arith, x.figures.sediment);
        };
      }

  -- its line is read from the lists
  pub line-is : line_at (gauge_at sheet j) kd s ≡ gauge_line sheet s (gauge_at sheet j)
  unfolding line_at gauge_line figures_at
  line-is =
      let from = gauge-from in
      let most = gauge-most in
      rw (x.kd_is (gauge_at sheet j - 1) (omega arith))
