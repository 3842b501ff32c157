use Rattle.std.proofs.Common.{min, ap, sym, ◌∙◌, arith}
use Rattle.sd_num.specs.Lists.{least}
use Rattle.sd_num.specs.Numbers.{low}
use Rattle.sd_plan.specs.topo.Topologies.{network}
use Rattle.sd_checker.proofs.check_root.Extremes.{lows, least_more}
use Rattle.sd_checker.proofs.check_root.waits.least_low.Goals as goal

pub loop-d-preserved : goal.loop-d-preserved
loop-d-preserved c =
    let net = network c.args.topo.now in
    c.min-least.ensures
    ∙ ap (λ l. min l c.low.result) c.loop-d.invariant
    ∙ ap (λ l. min (least (lows net c.args.x c.loop-d.d)) l) (c.low.ensures ∙ ap (λ r. low r c.args.x) c.rates-in-loop-d.ensures)
    ∙ sym (least_more net c.args.x c.loop-d.d (omega arith) (omega arith))
