-- An entry of lent lists together with the entry before it, which the first one has not: what the rule on a row or a gauge looks at.
-- And a sheet's own entries by their kind: what tests 8, 9 and 16 look through.
use Rattle.std.specs.Prelude.{◌≡◌, Bool, List, ℕ, ◌-◌, ◌<◌, get_or, Option, None, Some}
use Rattle.model.specs.Sheet.{row_count, gauge_count, flow_row_count, row_starts, row_concentrations, gauges, flow_row_starts, flow_row_tops}
use Rattle.model.specs.Load.{row_fault, gauge_fault, flow_row_fault}
use Rattle.sheet.specs.declared.faults.Entries.{Entries}
use Rattle.sheet.specs.declared.faults.Entries.TheVariants.{Rows, Gauges, FlowRows}

-- what stands before place j of a list, before the first place nothing
abbrev pub Before : List ℕ → (j : ℕ) → (before : Option ℕ) → Type 0
Before list j None = j ≡ 0
Before list j (Some before) = (0 < j) × (get_or list (j - 1) 0 ≡ before)

-- row j of two lists, of start steps and of what begins there: a boundary row's concentration, a flow row's flow
pub record IsRow (starts figures : List ℕ) (j : ℕ) (before : Option ℕ) (start figure : ℕ) : Type 0 where
  pub before_is : Before starts j before
  pub start_is : get_or starts j 0 ≡ start
  pub figure_is : get_or figures j 0 ≡ figure

-- gauge j of a list
pub record IsGauge (gauges : List ℕ) (j : ℕ) (before : Option ℕ) (gauge : ℕ) : Type 0 where
  pub before_is : Before gauges j before
  pub gauge_is : get_or gauges j 0 ≡ gauge

-- the number of their test
abbrev pub number_of : Entries → ℕ
number_of (Rows M) = 8
number_of (Gauges n) = 9
number_of (FlowRows M) = 16

-- how many entries of a kind the sheet has
abbrev pub count_of : Entries → List ℕ → ℕ
count_of (Rows M) sheet = row_count sheet
count_of (Gauges n) sheet = gauge_count sheet
count_of (FlowRows M) sheet = flow_row_count sheet

-- their first fields, which are to rise
abbrev pub rising_of : Entries → List ℕ → List ℕ
rising_of (Rows M) sheet = row_starts sheet
rising_of (Gauges n) sheet = gauges sheet
rising_of (FlowRows M) sheet = flow_row_starts sheet

-- entry j breaks its rule
abbrev pub fault_of : Entries → List ℕ → ℕ → Bool
fault_of (Rows M) sheet = row_fault M (row_starts sheet) (row_concentrations sheet)
fault_of (Gauges n) sheet = gauge_fault n (gauges sheet)
fault_of (FlowRows M) sheet = flow_row_fault M (flow_row_starts sheet) (flow_row_tops sheet)
