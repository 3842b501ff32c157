use Rattle.std.proofs.Common.{subst}
use Rattle.sd_plan.specs.topo.Topologies.{network}
use Rattle.sd_planner.specs.Planning.{IsPlanned}
use Rattle.sd_planner.specs.declared.Planned.{Planned}
use Rattle.sd_search.proofs.Greedy.{tried_none}
use Rattle.sd_search.proofs.trials.try_root.Goals as goal

pub returns : goal.returns
returns c =
    let net = network c.args.topo.now in
    let absent = c.args.absent.now in
    tried_none net absent c.args.root c.in-NoPlan.field-0 c.in-NoPlan.field-1
    (subst (λ (what : Planned). IsPlanned net c.args.root absent what) c.in-NoPlan.is c.in_ok-plan.ensures)
