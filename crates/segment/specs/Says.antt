-- What document 01 calls the values of the code's types.
use Rattle.model.specs.Equations as Document
use Rattle.model.specs.Sweep as Sweep
use Rattle.terms.specs.Says.{numbers_say}
use Rattle.segment.specs.declared.Pair.{Pair}
use Rattle.segment.specs.declared.Figures.{Figures}
use Rattle.segment.specs.declared.Row.{Row}
use Rattle.segment.specs.declared.Passed.{Passed}

abbrev pub pair_says : Pair → Document.Pair
pair_says x = record { old = numbers_say x.old; new = numbers_say x.new; cl = x.cl; cb = x.cb }

abbrev pub figures_say : Figures → Document.Figures
figures_say f = record { c = f.c; z = f.z; w = f.w }

abbrev pub row_says : Row → Sweep.Row
row_says r = record { F = r.f; e = r.e; g = r.g; R = r.r }

abbrev pub passed_says : Passed → Sweep.Passed
passed_says d = record { p = d.p; y = d.y }
