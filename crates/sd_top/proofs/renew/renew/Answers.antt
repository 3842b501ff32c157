use Rattle.sd_plan.specs.topo.Topologies.{network}
use Rattle.sd_files.specs.Answering.{After}
use Rattle.sd_files.specs.Inputs.{topology_of, plan_in_file, absent_in_file}
use Rattle.sd_files.proofs.Loading.{told_goes_on}
use Rattle.sd_top.specs.Plannings.{IsPlanning, renewed_root}
use Rattle.sd_top.proofs.renew.renew.Goals as goal

pub returns-clause-makes : goal.returns-clause-makes
returns-clause-makes g c =
    told_goes_on network (λ texts. topology_of (texts c.args.topology.now))
    (λ texts net. After (plan_in_file net 1 (texts c.args.plan.now))
    (λ old. After (absent_in_file net (texts c.args.absent.now)) (λ left. IsPlanning net (renewed_root old left) left))) _ c.in_ok-topo.topo
    c.renew_over.result c.in_ok-topo.ensures.says
    (rw c.in_ok-topo.ensures.shelf.same_held at c.renew_over.ensures.makes)
