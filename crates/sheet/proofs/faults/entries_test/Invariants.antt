-- `entries_test` meets its contract: no entry below j is at fault, and `before` is the first field of the one before it. Assumes nothing.
use Rattle.sheet.specs.Entries.{count_of, rising_of, fault_of}
use Rattle.sheet.proofs.Entries.{Passing}
use Rattle.sheet.proofs.faults.entries_test.Given as goal

abbrev pub invariant-loop-j : goal.invariant-loop-j
invariant-loop-j l = Passing (fault_of l.entries l.sheet) (count_of l.entries l.sheet) (rising_of l.entries l.sheet) l.j l.before
