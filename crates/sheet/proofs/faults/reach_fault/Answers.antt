use mathlib.Core.Path.{◌≡◌, sym, ap, ap₂, ◌∙◌}
use mathlib.Core.Bool.{Bool}
use mathlib.Core.List.{List, map}
use Prim.Native.Nat.{ℕ, ◌<◌}
use native.Mathlib.Omega.{arith}
use lib.ListN.{get_or, get_or-map}
use Rattle.model.specs.Ranges.{◌to◌, outside, reach_ranges, reach_section}
use Rattle.model.specs.Sheet.{edition, record_field, reach_count_at, reach_fields}
use Rattle.limits.specs.Says.{range_says}
use Rattle.sheet.proofs.Entries.{reach-fields, reach-field}
use Rattle.sheet.proofs.InRange.{checking-hit, checking-miss, checking-end}
use Rattle.sheet.proofs.Tables.{coded_range}
use Rattle.sheet.proofs.faults.reach_fault.Goals as goal

-- the test of field k has come out so
tested : (sheet : List ℕ) (i k : ℕ) → k < 16 → {found t : Bool} {field : ℕ} →
    found ≡ outside (range_says (get_or (map coded_range (reach_ranges (edition sheet))) k (coded_range (0 to 0)))) field →
    field ≡ record_field sheet reach_count_at (reach_section (edition sheet)) i k → found ≡ t →
    outside (get_or (reach_ranges (edition sheet)) k (0 to 0)) (get_or (reach_fields sheet i) k 0) ≡ t
tested sheet i k h e f t =
    let range = ap range_says (get_or-map coded_range (reach_ranges (edition sheet)) k (0 to 0)) in
    sym (e ∙ ap₂ outside range (f ∙ sym (reach-field sheet i k h))) ∙ t

pub returns-then-outside : goal.returns-then-outside
returns-then-outside c =
    let sheet = c.args.sheet.now in
    checking-hit c.loop-k.invariant (0 to 0) (omega arith) (omega (arith, reach-fields sheet c.args.i))
    (tested sheet c.args.i c.loop-k.k (omega arith) c.outside.ensures (c.from.ensures ∙ c.reach_field.ensures (edition sheet)) c.if-outside.true)

pub loop-k-preserved : goal.loop-k-preserved
loop-k-preserved c =
    let sheet = c.args.sheet.now in
    checking-miss c.loop-k.invariant (0 to 0) (omega arith) (omega (arith, reach-fields sheet c.args.i))
    (tested sheet c.args.i c.loop-k.k (omega arith) c.outside.ensures (c.from.ensures ∙ c.reach_field.ensures (edition sheet)) c.if-outside.false)

pub returns : goal.returns
returns c = checking-end c.loop-k.invariant (omega arith)
