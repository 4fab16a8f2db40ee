use Prim.Native.Nat.{◌-◌}
use native.Mathlib.Nat.{zero-add, sub-zero}
use native.Mathlib.Decide.{dec_le}
use native.Mathlib.Omega.{arith}
use Rattle.model.specs.Sheet.{edition, reach_on, reach_of, reaches, reach_count, segment_count}
use Rattle.sheet.proofs.Segments.{segments-on, segments-end, segments-past}
use Rattle.sheet.proofs.fields.segment_count.Goals as goal

pub loop-i-init : goal.loop-i-init
unfolding segment_count reaches
loop-i-init c = (omega arith, rw (zero-add, sub-zero), omega arith)

pub loop-i-preserved : goal.loop-i-preserved
unfolding reach_on reach_of
loop-i-preserved c =
    let l = c.loop-i in
    let sheet = c.args.sheet.now in
    omega (arith, c.reach_field.ensures (edition sheet), segments-on (reach_on sheet) (reach_count sheet) l.i (omega arith))

pub returns : goal.returns
returns c =
    let l = c.loop-i in
    let sheet = c.args.sheet.now in
    let count = reach_count sheet in
    elim (dec_le count l.i) [
      | yes h ↦ omega (arith, segments-end (reach_on sheet) count l.i h)
      | no g ↦ omega (arith, segments-past sheet (count - l.i) l.i (omega arith))
    ]
