use Rattle.std.proofs.Common.{[], None}
use Rattle.sd_plan.specs.topo.Topologies.{network}
use Rattle.sd_files.specs.Inputs.{topology_of}
use Rattle.sd_files.proofs.Loading.{told_goes_on, told_always}
use Rattle.sd_ctl_top.specs.Findings.{IsFinding}
use Rattle.sd_ctl_top.proofs.whole.whole_answer.Goals as goal

pub returns-clause-makes : goal.returns-clause-makes
returns-clause-makes g c =
    told_goes_on network (λ texts. topology_of (texts c.args.topology.now))
    (λ texts net. IsFinding net (record { devices = []; links = [] }) None c.args.settings.budget) _ c.in_ok-topo.topo c.search_whole.result c.in_ok-topo.ensures.says
    (told_always _ c.search_whole.ensures.makes)
