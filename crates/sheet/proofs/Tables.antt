-- The code's table of ranges is that of document 01: each range has one form in the code.
use Rattle.model.specs.Ranges as Ranges
use Rattle.limits.specs.declared.Range as Code

abbrev pub coded_range : Ranges.Range → Code.Range
coded_range r = record { low = r.low; high = r.high }
