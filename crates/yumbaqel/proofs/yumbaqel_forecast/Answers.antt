-- `yumbaqel_forecast` meets its contract.
use Rattle.std.proofs.Common.{rules}
use Rattle.forecast.specs.Says.{forecast_says}
use Rattle.yumbaqel.proofs.Handed.{forecast-left, forecast-sides}
use Rattle.yumbaqel.proofs.yumbaqel_forecast.Goals as goal

pub returns-clause-result : goal.returns-clause-result
returns-clause-result c =
    let put = c.put_forecast.ensures in
    let u = c.args.upstream1.now in
    let n = c.args.done1.now in
    forecast-left (forecast_says c.alone-answer.result) u n (c.alone-answer.ensures.result u n) (search rules) (search rules) (search rules) (search rules)
    (search rules) put.told put.above put.upstream put.done

pub returns-clause-sides : goal.returns-clause-sides
returns-clause-sides c =
    let u = c.args.upstream1.now in
    let n = c.args.done1.now in
    forecast-sides (forecast_says c.alone-answer.result) u n (c.alone-answer.ensures.result u n) c.args.sheet.now c.args.sides.now _
    c.alone-answer.ensures.sides
