-- `parts` meets its contract. After i turns the split is that of n · base^i by d; its quotient, below 2 at the start, stays below 2 · base^i. From
-- two wholes on the answer is above one whole (`nearest-ge`).
use mathlib.Core.Path.{◌≡◌}
use Prim.Native.Nat.{◌+◌, ◌*◌, ◌^◌, ◌<◌}
use Rattle.rounding.proofs.parts.Given as goal

abbrev pub invariant-loop : goal.invariant-loop
invariant-loop l =
    (l.split.divisor ≡ l.d) × (l.split.quotient * l.d + l.split.rest ≡ l.n * l.radix.base ^ l.counter) × (l.split.quotient < 2 * l.radix.base ^ l.counter)
