use Rattle.std.proofs.Common.{subst}
use Rattle.sd_plan.specs.topo.Topologies.{network}
use Rattle.sd_plan.specs.declared.Absent.{Absent}
use Rattle.sd_search.specs.Finds.{IsWanted}
use Rattle.sd_search.proofs.searching.search_from.Goals as goal

pub returns : goal.returns
returns c =
    c.judge.ensures c.args.absent.now c.args.root
    (subst (λ (left : Absent). IsWanted (network c.args.topo.now) left c.args.root c.in_ok-plan.plan) c.requires.same
    (c.in_ok-plan.ensures.wanted c.requires.waits))
