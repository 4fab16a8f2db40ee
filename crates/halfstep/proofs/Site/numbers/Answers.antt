-- `Site::numbers` meets its contract: each number is cut off one part above one whole (`Cut`).
use Rattle.model.specs.HalfStep.{fractions, numbers}
use Rattle.halfstep.specs.Site.{site_says}
use Rattle.halfstep.proofs.Sums.{alike-cut, stand-for}
use Rattle.halfstep.proofs.Site.numbers.Goals as goal

pub returns : goal.returns
unfolding numbers fractions
returns c =
    stand-for {exact = numbers (site_says c.args.self)}
    (record {
      e = alike-cut c.e.ensures;
      g = alike-cut c.g.ensures;
      l = alike-cut c.l.ensures;
      a = alike-cut c.rate.ensures;
      b = alike-cut c.b.ensures;
      k = alike-cut c.rate-2.ensures;
      ks = alike-cut c.rate-3.ensures;
      h = alike-cut c.rate-h.ensures;
      m = alike-cut c.rate-4.ensures;
      s = λ small. alike-cut (c.s.ensures small);
    })
