use Rattle.std.proofs.Common.{subst}
use Rattle.std.proofs.lemmas.List.{take_all}
use Rattle.sd_planner.specs.Nearing.{IsNearest}
use Rattle.sd_planner.proofs.Finding.{nearest_turn}
use Rattle.sd_planner.proofs.nearest.nearest_of.Goals as goal

pub loop-neighbour-preserved : goal.loop-neighbour-preserved
loop-neighbour-preserved c =
    nearest_turn c.args.placement.now.order c.args.neighbours.now c.loop-neighbour.neighbour-index _ c.loop-neighbour.best c.closer-best.result
    c.loop-neighbour-test.true c.loop-neighbour.invariant c.closer-best.ensures

pub returns : goal.returns
returns c = subst (λ neighbours. IsNearest c.args.placement.now.order neighbours c.loop-neighbour.best)
    (take_all c.loop-neighbour.neighbour-index c.args.neighbours.now c.loop-neighbour-test.false) c.loop-neighbour.invariant
