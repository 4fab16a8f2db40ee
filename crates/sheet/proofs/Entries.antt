-- Laws of reaches, rows, gauges and flow rows: those of a sheet, entry by entry, and the rule on starts, told by a row and the one before it.
use mathlib.Core.Path.{◌≡◌, refl, sym, ap, ◌∙◌}
use mathlib.Core.Bool.{Bool, true, false, true≢false, not, ◌||◌}
use mathlib.Core.List.{List}
use Prim.Native.Nat.{ℕ, zero, suc, ◌+◌, ◌-◌, ◌<◌, ◌≤◌}
use native.Mathlib.Omega.{arith}
use borrow.Author.Tests.{eqb-true, not-false, leb-false, ltb-false}
use lib.Dec.{eqb, ltb}
use lib.ListN.{length, get_or}
use Rattle.lists.specs.Lists.{not_rising}
use Rattle.lists.proofs.Lowest.{Searching, searching-start, searching-miss}
use Rattle.lists.proofs.Tab.{get_or-tab}
use Rattle.lists.proofs.Shorter.{neither, not-rising}
use Rattle.model.specs.Ranges.{◌to◌, outside, concentration, flows, reach_section, row_section, gauge_section}
use Rattle.model.specs.Sheet.{edition, record_field, reach_count_at, reach_fields, row_count_at, gauge_count_at, row_count, gauge_count}
use Rattle.model.specs.Sheet.{row_starts, row_concentrations, gauges, flow_row_count, flow_row_start, flow_row_top, flow_row_starts, flow_row_tops}
use Rattle.model.specs.Load.{starts_late, row_fault, gauge_fault, flow_row_fault}
use Rattle.std.specs.Prelude.{Option, None, Some, is_none, is_some, unwrap_or}
use Rattle.std.specs.Bool.{then_some}
use Rattle.sheet.specs.Entries.{Before}
use Rattle.sheet.proofs.InRange.{Within, within}

-- a reach's fields
pub reach-fields : (sheet : List ℕ) (i : ℕ) → length (reach_fields sheet i) ≡ 16
unfolding reach_fields
reach-fields sheet i = refl

pub reach-field : (sheet : List ℕ) (i k : ℕ) → k < 16 → get_or (reach_fields sheet i) k 0 ≡ record_field sheet reach_count_at (reach_section (edition sheet)) i k
unfolding reach_fields
reach-field sheet i k h = get_or-tab (record_field sheet reach_count_at (reach_section (edition sheet)) i) 16 k 0 h

-- a sheet's row j, gauge j and flow row j
module _ (sheet : List ℕ) (j : ℕ) where
  pub row-start : j < row_count sheet → get_or (row_starts sheet) j 0 ≡ record_field sheet (row_count_at sheet) row_section j 0
  unfolding row_starts
  row-start h = get_or-tab _ (row_count sheet) j 0 h

  pub row-concentration : j < row_count sheet → get_or (row_concentrations sheet) j 0 ≡ record_field sheet (row_count_at sheet) row_section j 1
  unfolding row_concentrations
  row-concentration h = get_or-tab _ (row_count sheet) j 0 h

  pub gauge : j < gauge_count sheet → get_or (gauges sheet) j 0 ≡ record_field sheet (gauge_count_at sheet) gauge_section j 0
  unfolding gauges
  gauge h = get_or-tab _ (gauge_count sheet) j 0 h

  pub flow-row-start : j < flow_row_count sheet → get_or (flow_row_starts sheet) j 0 ≡ flow_row_start sheet j
  unfolding flow_row_starts
  flow-row-start h = get_or-tab _ (flow_row_count sheet) j 0 h

  pub flow-row-top : j < flow_row_count sheet → get_or (flow_row_tops sheet) j 0 ≡ flow_row_top sheet j
  unfolding flow_row_tops
  flow-row-top h = get_or-tab _ (flow_row_count sheet) j 0 h

-- a loop over n entries whose first fields are to rise: none below j is at fault, and the one before it has this first field
pub record Passing (fault : ℕ → Bool) (n : ℕ) (rising : List ℕ) (j : ℕ) (before : Option ℕ) : Type 0 where
  pub searching : Searching fault n j
  pub last : Before rising j before

module _ {fault : ℕ → Bool} {n : ℕ} {rising : List ℕ} where
  pub passing-start : Passing fault n rising 0 None
  passing-start = record { searching = searching-start; last = refl }

  pub passing-miss : {j first : ℕ} {before : Option ℕ} → Passing fault n rising j before → j < n → fault j ≡ false → get_or rising j 0 ≡ first →
      Passing fault n rising (j + 1) (Some first)
  passing-miss {j} r h e first-is =
      let back : j + 1 - 1 ≡ j = omega arith in record { searching = searching-miss r.searching h e; last = (omega arith, rw back first-is) }

-- the first row
pub late-first : (starts : List ℕ) (j start : ℕ) → get_or starts j 0 ≡ start → j ≡ 0 → not (eqb start 0) ≡ starts_late starts j
unfolding starts_late
late-first starts zero start s e = rw (← s)
late-first starts (suc j) start s e = absurd (omega arith)

-- another row
pub late-next : (starts : List ℕ) (j : ℕ) → 0 < j → not_rising starts j ≡ starts_late starts j
unfolding starts_late
late-next starts zero h = absurd (omega arith)
late-next starts (suc j) h = refl

-- a row that keeps its rule, of the sheet's lists or of lent ones
pub record RowRight (M : ℕ) (starts concentrations : List ℕ) (j : ℕ) : Type 0 where
  pub first : j ≡ 0 → get_or starts j 0 ≡ 0
  pub rises : 0 < j → get_or starts (j - 1) 0 < get_or starts j 0
  pub start : get_or starts j 0 ≤ M
  pub figure : Within concentration (get_or concentrations j 0)

pub row-right : (M : ℕ) (starts concentrations : List ℕ) (j : ℕ) → row_fault M starts concentrations j ≡ false →
    RowRight M starts concentrations j
unfolding row_fault
row-right M starts concentrations j e =
    let two = neither (starts_late starts j || ltb M (get_or starts j 0)) _ e in
    let one = neither (starts_late starts j) _ two.0 in
    record {
      first = λ z. eqb-true _ _ (not-false _ (late-first starts j _ refl z ∙ one.0));
      rises = λ h. leb-false _ _ (sym (not-rising starts j h) ∙ late-next starts j h ∙ one.0);
      start = ltb-false _ _ one.1;
      figure = within _ _ two.1;
    }

-- a gauge that keeps its rule
pub record GaugeRight (n : ℕ) (gauges : List ℕ) (j : ℕ) : Type 0 where
  pub segment : Within (1 to n) (get_or gauges j 0)
  pub rises : 0 < j → get_or gauges (j - 1) 0 < get_or gauges j 0

pub gauge-right : (n : ℕ) (gauges : List ℕ) (j : ℕ) → gauge_fault n gauges j ≡ false → GaugeRight n gauges j
unfolding gauge_fault
gauge-right n gauges j e =
    let two = neither (outside (1 to n) (get_or gauges j 0)) _ e in
    record { segment = within _ _ two.0; rises = λ h. leb-false _ _ (sym (not-rising gauges j h) ∙ two.1) }

-- a flow row that keeps its rule
pub record FlowRowRight (M : ℕ) (starts tops : List ℕ) (j : ℕ) : Type 0 where
  pub start : Within (1 to M) (get_or starts j 0)
  pub rises : 0 < j → get_or starts (j - 1) 0 < get_or starts j 0
  pub top : Within flows (get_or tops j 0)

pub flow-row-right : (M : ℕ) (starts tops : List ℕ) (j : ℕ) → flow_row_fault M starts tops j ≡ false → FlowRowRight M starts tops j
unfolding flow_row_fault
flow-row-right M starts tops j e =
    let two = neither (outside (1 to M) (get_or starts j 0) || not_rising starts j) _ e in
    let one = neither (outside (1 to M) (get_or starts j 0)) _ two.0 in
    record { start = within _ _ one.0; rises = λ h. leb-false _ _ (sym (not-rising starts j h) ∙ one.1); top = within _ _ two.1 }

-- an entry that breaks its rule gives nothing, and one that keeps it its first field
pub breaks : (fault : Bool) (first : ℕ) → None ≡ then_some (not fault) first → fault ≡ true
breaks true first e = refl
breaks false first e = absurd (true≢false (ap is_none e))

pub keeps : (fault : Bool) {first x : ℕ} → Some x ≡ then_some (not fault) first → (fault ≡ false) × (first ≡ x)
keeps true e = absurd (true≢false (ap is_some e))
keeps false {first} e = (refl, sym (ap (λ o. unwrap_or o first) e))
