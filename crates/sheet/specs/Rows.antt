-- Document 01 names the two lists of a river's boundary rows, "of start steps and of concentrations", and leaves how they are filled
-- to the program. Here a call of its own fills them from a sheet, tested or not, as a loading fills its lists: it tests 13, and
-- "Only an accepted call writes, and only the first entries it needs."
use Rattle.std.specs.Prelude.{List, [], ◌∷◌, ℕ}
use Rattle.lists.specs.Lists.{over, any_shorter}
use Rattle.model.specs.Sheet.{row_count}
use Rattle.model.specs.Refusals.{Finding, passes, fails, test}

-- 13. "A lent list is shorter" than the count of rows that stands on the sheet
unfoldable pub row_list_test : (sheet starts concentrations : List ℕ) → Finding
row_list_test sheet starts concentrations = test 13 (any_shorter (row_count sheet) (starts ∷ concentrations ∷ []))

-- a list afterwards: the rows' figures over its first entries, or after a refusal what was there
abbrev pub row_list_after : Finding → (figures before : List ℕ) → List ℕ
row_list_after passes figures before = over figures before
row_list_after (fails number place) figures before = before
