-- What the documents call each range and section of the code.
use Rattle.model.specs.Ranges as Document
use Rattle.limits.specs.declared.Range as Code
use Rattle.limits.specs.declared.Section as CodeSection

abbrev pub range_says : Code.Range → Document.Range
range_says r = record { low = r.low; high = r.high }

abbrev pub section_says : CodeSection.Section → Document.Section
section_says s = record { counts = range_says s.counts; width = s.width }
