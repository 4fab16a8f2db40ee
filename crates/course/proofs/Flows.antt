-- A test made for one flow after another: the first that fails decides.
use mathlib.Core.Path.{◌≡◌, ◌∙◌}
use Prim.Native.Nat.{ℕ, suc, ◌+◌, ◌<◌, ◌≤◌}
use native.Mathlib.Omega.{arith}
use Rattle.lists.specs.Lists.{tab}
use Rattle.lists.proofs.Tab.{length-tab, get_or-tab}
use Rattle.model.specs.Refusals.{Place, Finding, passes, fails}
use Rattle.model.specs.Load.{test_flows}
use Rattle.sheet.proofs.Tests.{Judging, judging-stop, judging-on, judging-end}

-- the test passes for the top flow and the rows before this one
pub record InTurn (rows : ℕ) (finding : ℕ → Finding) (row : ℕ) : Type 0 where
  pub judged : Judging (tab 0 (suc rows) finding) row

module _ {rows row : ℕ} {finding : ℕ → Finding} (t : InTurn rows finding row) where
  pub flow-passes : row ≤ rows → finding row ≡ passes → InTurn rows finding (row + 1)
  flow-passes h e = record { judged = judging-on t.judged (get_or-tab finding (suc rows) row passes (omega arith) ∙ e) }

  pub flow-fails : {number : ℕ} {place : Place} → row ≤ rows → finding row ≡ fails number place → fails number place ≡ test_flows rows finding
  unfolding test_flows
  flow-fails h e = judging-stop t.judged (get_or-tab finding (suc rows) row passes (omega arith) ∙ e)

  pub flows-pass : rows < row → passes ≡ test_flows rows finding
  unfolding test_flows
  flows-pass h = judging-end t.judged (rw (length-tab finding 0 (suc rows)) (omega arith))
