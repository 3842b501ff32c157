use Rattle.sd_plan.specs.topo.Topologies.{network}
use Rattle.sd_files.specs.Answering.{After}
use Rattle.sd_files.specs.Inputs.{topology_of, plan_in_file}
use Rattle.sd_files.proofs.Loading.{told_goes_on}
use Rattle.sd_top.specs.Checks.{IsJudged}
use Rattle.sd_top.proofs.check.check.Goals as goal

pub returns-clause-makes : goal.returns-clause-makes
returns-clause-makes g c =
    told_goes_on network (λ texts. topology_of (texts c.args.topology.now))
    (λ texts net. After (plan_in_file net 1 (texts c.args.plan.now)) (IsJudged net)) _ c.in_ok-topo.topo c.check_over.result c.in_ok-topo.ensures.says
    (rw c.in_ok-topo.ensures.shelf.same_held at c.check_over.ensures.makes)
