-- `copy_rows` meets its contract: the rows below j are in their lists. Assumes nothing.
use mathlib.Core.List.{List}
use Prim.Native.Nat.{ℕ}
use Rattle.lists.proofs.Over.{Filling}
use Rattle.model.specs.Ranges.{row_section}
use Rattle.model.specs.Sheet.{record_field, row_count_at}
use Rattle.sheet.proofs.rows.copy_rows.Given as goal

-- field k of each row
abbrev pub row_field : List ℕ → ℕ → ℕ → ℕ
row_field sheet k j = record_field sheet (row_count_at sheet) row_section j k

abbrev pub invariant-loop-j : goal.invariant-loop-j
invariant-loop-j l = Filling (row_field l.sheet 0) l.initial.starts l.j l.starts × Filling (row_field l.sheet 1) l.initial.concentrations l.j l.concentrations
