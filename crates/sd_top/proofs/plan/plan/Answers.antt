use Rattle.sd_plan.specs.topo.Topologies.{network}
use Rattle.sd_files.specs.Inputs.{topology_of}
use Rattle.sd_files.proofs.Loading.{told_goes_on, told_always}
use Rattle.sd_top.specs.Plannings.{IsPlanning, first_root}
use Rattle.sd_top.proofs.plan.plan.Goals as goal
use Rattle.sd_plan.specs.Plans.{nothing_absent}

pub returns-clause-makes : goal.returns-clause-makes
returns-clause-makes g c =
    told_goes_on network (λ texts. topology_of (texts c.args.topology.now))
    (λ texts net. IsPlanning net (first_root net) nothing_absent) _ c.in_ok-topo.topo c.plan_whole.result c.in_ok-topo.ensures.says
    (told_always _ c.plan_whole.ensures.makes)
