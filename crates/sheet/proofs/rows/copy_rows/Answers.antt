use mathlib.Core.Path.{◌≡◌, sym, ap, ◌∙◌}
use mathlib.Core.Bool.{Bool}
use mathlib.Core.List.{List, [], ◌∷◌}
use Prim.Native.Nat.{ℕ, ◌≤◌}
use native.Mathlib.Omega.{arith}
use lib.ListN.{length}
use Rattle.std.proofs.lemmas.Result.{err_from_is_err_and}
use Rattle.lists.specs.Lists.{any_shorter, any_under}
use Rattle.lists.proofs.Shorter.{under-lengths, all-long}
use Rattle.lists.proofs.Over.{filling-turn, filling-end}
use Rattle.model.specs.Refusals.{passes, test}
use Rattle.model.specs.Sheet.{row_starts, row_concentrations, row_count}
use Rattle.model.proofs.Refusals.{test-clear}
use Rattle.sheet.specs.Rows.{row_list_test}
use Rattle.sheet.proofs.rows.copy_rows.Goals as goal

-- what the test of their lengths says of the two lists
module _ (n : ℕ) (starts concentrations : List ℕ) {short : Bool} (e : short ≡ any_under n (length starts ∷ length concentrations ∷ [])) where
  shorter : short ≡ any_shorter n (starts ∷ concentrations ∷ [])
  shorter = e ∙ under-lengths n (starts ∷ concentrations ∷ [])

  long : passes ≡ test 13 short → (n ≤ length starts) × (n ≤ length concentrations)
  long passed = let l = all-long n (starts ∷ concentrations ∷ []) (sym shorter ∙ test-clear 13 short (sym passed)) in (l.0, l.1.0)

pub returns-in_err-test-clause-found : goal.returns-in_err-test-clause-found
unfolding row_list_test
returns-in_err-test-clause-found c =
    let a = c.args in
    let p = err_from_is_err_and c.from_residual.result c.from_residual.ensures.1 in
    rw (p.1, p.2, ← c.row_count-count.ensures)
    (c.in_err-test.ensures ∙ ap (test 13) (shorter _ a.starts.now a.concentrations.now c.any_short.ensures))

pub bounds-starts-j : goal.bounds-starts-j
bounds-starts-j c =
    let a = c.args in omega (arith, (long _ a.starts.now a.concentrations.now c.any_short.ensures c.in_ok-test.ensures).0)

pub bounds-concentrations-j : goal.bounds-concentrations-j
bounds-concentrations-j c =
    let a = c.args in omega (arith, (long _ a.starts.now a.concentrations.now c.any_short.ensures c.in_ok-test.ensures).1)

pub loop-j-preserved : goal.loop-j-preserved
loop-j-preserved c =
    let a = c.args in
    let i = c.loop-j.invariant in
    let both = long _ a.starts.now a.concentrations.now c.any_short.ensures c.in_ok-test.ensures in
    (filling-turn i.0 (omega (arith, both.0)) c.row_start.ensures, filling-turn i.1 (omega (arith, both.1)) c.row_concentration.ensures)

pub returns-clause-found : goal.returns-clause-found
unfolding row_list_test
returns-clause-found c =
    let a = c.args in
    rw (← c.row_count-count.ensures)
    (c.in_ok-test.ensures ∙ ap (test 13) (shorter _ a.starts.now a.concentrations.now c.any_short.ensures))

pub returns-clause-starts : goal.returns-clause-starts
unfolding row_starts
returns-clause-starts c =
    filling-end (row_count c.args.sheet.now) c.loop-j.invariant.0 (omega arith)

pub returns-clause-concentrations : goal.returns-clause-concentrations
unfolding row_concentrations
returns-clause-concentrations c =
    filling-end (row_count c.args.sheet.now) c.loop-j.invariant.1 (omega arith)
