-- One step: where the computed figures are within E of the exact ones, the new ones are within E + 6 of the new exact ones, and both
-- are in range again.
use mathlib.Core.List.{List, ◌++◌, map}
use Prim.Native.Nat.{ℕ, ◌+◌, ◌*◌, ◌<◌, ◌≤◌, zero-le}
use native.Mathlib.Nat.{mul-le-mul_right, min-le_left, min-le_right, min-eq_left, min-eq_right, lt_of_not-le, le_of_lt}
use native.Mathlib.Decide.{dec_le}
use native.Mathlib.Omega.{arith}
use Rattle.fractions.specs.Fractions.{Fraction}
use Rattle.fractions.proofs.Differences.{Difference, natural, UpTo, up-to-self, up-to-weaker, up-to-chain}
use Rattle.fractions.proofs.Over.{over-whole}
use Rattle.fractions.proofs.Bounds.{within-up-to, up-to-within, most-up-to}
use Rattle.rounding.specs.Nearest.{S}
use Rattle.model.specs.Ranges.{highest}
use Rattle.model.specs.Equations.{Figures, Pair, sum_v}
use Rattle.model.specs.Sweep.{top, down, up, clamp, rows, new_figures, finish, downward, stepped}
use Rattle.model.specs.ExactRiver.{ExactFigures, Along, ExactStep}
use Rattle.sweep_laws.specs.Accepted.{Accepted, AtMost}
use Rattle.sweep_laws.proofs.Accepted.{All, figures-most, rows_fit}
use Rattle.sweep_laws.proofs.Solves.{Near, sweep-solves}
use Rattle.exact_laws.specs.Close.{per_step, FiguresInRange, FiguresClose, Close}
use Rattle.exact_laws.proofs.Sides.{Differences, EachUpTo, AllUpTo, Steady, steady, right-up-to}
use Rattle.exact_laws.proofs.Comparison.{store-follows}
use Rattle.exact_laws.proofs.CommonDenominator.{FiguresOver, AllOver, common, split}
use Rattle.exact_laws.proofs.Rivers.{Rows, last, next, LeftUpTo, RightUpTo, apart, exact-rows}
use Rattle.exact_laws.proofs.Range.{whole_in_range, range}
use Rattle.exact_laws.proofs.Defect.{wholes, storage-over, sediment-over, rights-over}
use Rattle.exact_laws.proofs.Computed.{uncut, Each, computed-rows}

-- the distance of the old figures, over a common denominator
figures-over : {D E : ℕ} {f : Figures} {q : ExactFigures} {o : Differences} → 0 < D → FiguresClose E f q → FiguresOver D q o →
    (EachUpTo (E * D) (wholes D f) o) × (EachUpTo (E * D) o (wholes D f))
figures-over h close over =
    let c = within-up-to h over.c close.c in
    let z = within-up-to h over.z close.z in
    let w = within-up-to h over.w close.w in
    (record { c = c.0; z = z.0; w = w.0 }, record { c = c.1; z = z.1; w = w.1 })

-- "anything above 1,000,000,000 becomes that": no further from a figure that is at most that
module _ (D c : ℕ) {k : ℕ} {d : Difference} where
  cut_high : UpTo k (natural (c * D)) d → UpTo k (natural (clamp c * D)) d
  cut_high h = record { most = omega (arith, h.most, mul-le-mul_right D (min-le_left c highest)) }

  cut_low : UpTo 0 d (natural (highest * D)) → UpTo k d (natural (c * D)) → UpTo k d (natural (clamp c * D))
  cut_low most h = pick (dec_le c highest)
    where
      pick : Dec (c ≤ highest) → UpTo k d (natural (clamp c * D))
      pick (yes l) = rw (min-eq_left l) h
      pick (no n) = rw (min-eq_right (le_of_lt (lt_of_not-le n))) (up-to-weaker most zero-le)

-- one segment, where the channel figure c that the passes leave is within E + 6 of the exact one: cut, and with storage and sediment
figures-step : {D E : ℕ} (c : ℕ) (x : Pair) {f : Figures} {q q' : ExactFigures} {o n : Differences} {a' b' a b : Difference} →
    0 < D → Accepted x → FiguresClose E f q → FiguresOver D q o → FiguresOver D q' n → FiguresInRange q' →
    LeftUpTo D 0 x a' b' a b o n → RightUpTo D 0 x a' b' a b o n →
    UpTo ((E + per_step) * D) (natural (c * D)) n.c → UpTo ((E + per_step) * D) n.c (natural (c * D)) →
    FiguresClose (E + per_step) (new_figures x f (clamp c)) q'
unfolding new_figures
figures-step {D} {E} c x {f} {a} {b} h ok close old new range left_row right_row high low =
    let n = x.new in
    let olds = figures-over h close old in
    let more = right-up-to D x (steady (E * D) ok.old) (up-to-self _ a) (up-to-self _ b) olds.0 in
    let less = right-up-to D x (steady (E * D) ok.old) (up-to-self _ a) (up-to-self _ b) olds.1 in
    let r = rights-over D x 0 0 f in
    let z = storage-over D x f ok.new (clamp c) in
    let w = sediment-over D x f ok.new (clamp c) in
    let c-high = cut_high D c high in
    let c-low = cut_low D c (most-up-to h new.c highest range.c.most) low in
    let bound = S * ((E + per_step) * D) in
    record {
      most = figures-most x f ok close.most (clamp c) (min-le_right c highest);
      range = range;
      c = up-to-within h new.c (E + per_step) (clamp c) c-high c-low;
      z = up-to-within h new.z (E + per_step) _
          (store-follows (S + sum_v n) n.b (omega arith) c-high (up-to-chain bound z.0 r.0.z more.z right_row.each.z (omega arith)))
          (store-follows (S + sum_v n) n.b (omega arith) c-low (up-to-chain bound left_row.each.z less.z r.1.z z.1 (omega arith)));
      w = up-to-within h new.w (E + per_step) _
          (store-follows (S + n.h) n.h (omega arith) c-high (up-to-chain bound w.0 r.0.w more.w right_row.each.w (omega arith)))
          (store-follows (S + n.h) n.h (omega arith) c-low (up-to-chain bound left_row.each.w less.w r.1.w w.1 (omega arith)));
    }

-- ---- all segments

-- the distance of the old figures
olds-over : {D E : ℕ} {fs : List Figures} {old : List ExactFigures} {os : List Differences} → 0 < D → Close E fs old → AllOver D old os →
    (AllUpTo (E * D) (map (wholes D) fs) os) × (AllUpTo (E * D) os (map (wholes D) fs))
olds-over h Close.none AllOver.none = (AllUpTo.none, AllUpTo.none)
olds-over h (Close.cons close closes) (AllOver.cons over overs) =
    let e = figures-over h close over in
    let es = olds-over h closes overs in
    (AllUpTo.cons e.0 es.0, AllUpTo.cons e.1 es.1)

-- the new figures, where the channel figures cs that the passes leave are within E + 6 of the exact ones
all-step : {D E : ℕ} (above : ℕ) {xa : ℕ} {a' a : Difference} {xs : List Pair} {fs : List Figures} {cs : List ℕ} {old new : List ExactFigures}
    {os ns : List Differences} → 0 < D → Rows (LeftUpTo D 0) a' a xs os ns → Rows (RightUpTo D 0) a' a xs os ns → AllOver D old os →
    AllOver D new ns → Close E fs old → All FiguresInRange new → All Accepted xs → Near xa (rows above xs fs) cs →
    AllUpTo ((E + per_step) * D) (map (wholes D) (uncut xs fs cs)) ns → AllUpTo ((E + per_step) * D) ns (map (wholes D) (uncut xs fs cs)) →
    Close (E + per_step) (finish xs fs cs) new
unfolding new_figures
all-step above h last last AllOver.none AllOver.none Close.none All.none All.none Near.none AllUpTo.none AllUpTo.none = Close.none
all-step above h (next l ls) (next r rs) (AllOver.cons o os) (AllOver.cons n ns) (Close.cons {f} close closes) (All.cons range ranges)
    (All.cons {x} ok oks) (Near.row {x = c} row near) (AllUpTo.cons high highs) (AllUpTo.cons low lows) =
    Close.cons
    (figures-step c x h ok close o n range l r high.c low.c)
    (all-step f.c h ls rs os ns closes ranges oks near highs lows)

-- what `Close` holds, list by list
mosts : {E : ℕ} {fs : List Figures} {qs : List ExactFigures} → Close E fs qs → All (AtMost highest) fs
mosts Close.none = All.none
mosts (Close.cons close closes) = All.cons close.most (mosts closes)

ranges : {E : ℕ} {fs : List Figures} {qs : List ExactFigures} → Close E fs qs → All FiguresInRange qs
ranges Close.none = All.none
ranges (Close.cons close closes) = All.cons close.range (ranges closes)

-- accepted numbers are steady
steadies : (k : ℕ) {xs : List Pair} → All Accepted xs → All (λ x. Steady k x.old) xs
steadies k All.none = All.none
steadies k (All.cons ok oks) = All.cons (steady k ok.old) (steadies k oks)

-- there is a computed figure for each segment
each : {E : ℕ} {above' above : Fraction} {xs : List Pair} {fs : List Figures} {old new : List ExactFigures} →
    Along above' above xs old new → Close E fs old → Each xs fs
each Along.last Close.none = Each.none
-- there is a computed figure for each segment
each (Along.next row rows) (Close.cons close closes) = Each.cons (each rows closes)

-- an accepted step: 6 more
pub step-close : {E : ℕ} (u u' : ℕ) {xs : List Pair} {fs : List Figures} {old new : List ExactFigures} → u ≤ highest → u' ≤ highest →
    All Accepted xs → Close E fs old → ExactStep u u' xs old new → Close (E + per_step) (stepped u u' xs fs) new
unfolding stepped downward
step-close {E} u u' {xs} {fs} {old} {new} hu hu' oks closes solves =
    let c = common (old ++ new) in
    let parts = split old c.spread.over in
    go c.D c.above parts.0.over parts.1.over
  where
    go : (D : ℕ) → 0 < D → {os ns : List Differences} → AllOver D old os → AllOver D new ns →
        Close (E + per_step) (finish xs fs (up (down (top u') (rows u xs fs)))) new
    go D h os ns =
        let exact = exact-rows solves (over-whole D u') (over-whole D u) os ns in
        let near = sweep-solves u' (omega arith) (rows_fit u hu oks (mosts closes)) in
        let computed = computed-rows D u oks (each solves closes) near in
        let olds = olds-over h closes os in
        let G = (E + per_step) * D in
        let news = range oks (whole_in_range hu') (whole_in_range hu) (ranges closes) solves in
        all-step u h exact.0 exact.1 os ns closes news oks near
        (apart G (steadies (E * D) oks) computed.0 exact.1 (up-to-self G _) (up-to-self (E * D) _) olds.0 (omega arith))
        (apart G (steadies (E * D) oks) exact.0 computed.1 (up-to-self G _) (up-to-self (E * D) _) olds.1 (omega arith))
