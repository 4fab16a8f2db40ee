-- `Descent::below` meets its contract: the segment itself, one of the same reach, or the first of the next. Assumes nothing.
use mathlib.Core.List.{List}
use mathlib.Core.Path.{◌≡◌}
use Prim.Native.Nat.{ℕ, ◌^◌, ◌<◌}
use native.Mathlib.Omega.{arith}
use lib.IntN.{ℤ, ◌+ℤ◌}
use lib.Signed.{mag}
use mir.Syntax.{w64}
use mir.Val.{to_z, of_z}
use Rattle.model.specs.Sheet as Sheet
use Rattle.model.specs.Flow.{own_gain}
use Rattle.terms.specs.Says.{reach_says}
use Rattle.terms.specs.declared.Reach.{Reach}
use Rattle.bands.specs.declared.Bands.{Bands}
use Rattle.halfstep.proofs.Signed.{back-abs, result}
use Rattle.course.specs.Descent.{Lower}
use Rattle.course.specs.declared.descent.Cursor.{Cursor}
use Rattle.course.proofs.Descending.{number-few, lateral-at, small_at, same_arrives, same-reach, next-arrives, next-reach}
use Rattle.course.proofs.descent.Descent.below.Goals as goal

-- the gain of the segments before the next, as the call gives it
gained : {sheet : List ℕ} {top dx n i : ℕ} {own lower : Reach} {bands : Bands} {here : Cursor} {sum : ℤ} → Lower sheet top dx n i own lower bands here →
    mag sum < 2 ^ 63 → sum ≡ to_z w64 (of_z w64 here.gain) +ℤ own_gain (reach_says own) dx →
    to_z w64 (of_z w64 sum) ≡ here.gain +ℤ own_gain (reach_says own) (Sheet.dx sheet)
gained {here = here} p fits e =
    let small = small_at p.read p.here p.less in
    result fits (rw (p.length, back-abs here.gain (omega (arith, small))) at e)

pub gain_below-gain-requires : goal.gain_below-gain-requires
gain_below-gain-requires c =
    let p = c.requires in
    let small = small_at p.read p.here p.less in
    rw (p.length, back-abs c.args.self.now.here.gain (omega (arith, small))) (lateral-at p.read p.here, small)

pub arrive-requires : goal.arrive-requires
arrive-requires c =
    let p = c.requires in
    let gain = gained p c.gain_below-gain.type_inv c.gain_below-gain.ensures in
    rw p.length (same_arrives p.read p.here gain (omega (arith, p.less, c.if-self.false)) c.if-here-self.true p.reach p.bands)

pub returns-then-here-self : goal.returns-then-here-self
returns-then-here-self c =
    let p = c.requires in
    let gain = gained p c.gain_below-gain.type_inv c.gain_below-gain.ensures in
    same-reach p.read p.here gain (omega (arith, p.less, c.if-self.false)) c.if-here-self.true p.reach p.bands (rw p.length at c.arrive.ensures)

pub overflow_add-here-2 : goal.overflow_add-here-2
overflow_add-here-2 c = let p = c.requires in omega (arith, number-few p.read p.here p.less)

pub arrive-requires-2 : goal.arrive-requires-2
arrive-requires-2 c =
    let p = c.requires in
    let gain = gained p c.gain_below-gain.type_inv c.gain_below-gain.ensures in
    rw p.length (next-arrives p.read p.here gain (omega (arith, p.less, c.if-self.false)) c.if-here-self.false p.reach p.bands)

pub returns : goal.returns
returns c =
    let p = c.requires in
    let gain = gained p c.gain_below-gain.type_inv c.gain_below-gain.ensures in
    next-reach p.read p.here gain (omega (arith, p.less, c.if-self.false)) c.if-here-self.false p.reach p.bands (rw p.length at c.arrive-2.ensures)
