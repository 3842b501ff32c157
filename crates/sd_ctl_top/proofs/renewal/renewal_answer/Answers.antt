use Rattle.std.proofs.Common.{Some}
use Rattle.sd_plan.specs.topo.Topologies.{network}
use Rattle.sd_files.specs.Answering.{After}
use Rattle.sd_files.specs.Inputs.{topology_of, plan_in_file, absent_in_file}
use Rattle.sd_files.proofs.Loading.{told_goes_on}
use Rattle.sd_ctl_top.specs.Findings.{IsFinding, root_after}
use Rattle.sd_ctl_top.proofs.renewal.renewal_answer.Goals as goal

pub returns-clause-makes : goal.returns-clause-makes
returns-clause-makes g c =
    told_goes_on network (λ texts. topology_of (texts c.args.files.topology.now))
    (λ texts net. After (plan_in_file net 1 (texts c.args.files.plan.now))
    (λ old. After (absent_in_file net (texts c.args.files.absent.now)) (λ left. IsFinding net left (Some (root_after old left)) c.args.settings.budget))) _ c.in_ok-topo.topo
    c.renew_over.result c.in_ok-topo.ensures.says
    (rw c.in_ok-topo.ensures.shelf.same_held at c.renew_over.ensures.makes)
