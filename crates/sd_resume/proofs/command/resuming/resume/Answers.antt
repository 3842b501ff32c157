use Rattle.std.proofs.Common.{map, string_bytes}
use Rattle.sd_plan.specs.topo.Topologies.{network}
use Rattle.sd_files.specs.Inputs.{topology_of}
use Rattle.sd_files.specs.planfiles.PlanFiles.{AfterAllPlans}
use Rattle.sd_files.proofs.Loading.{told_goes_on}
use Rattle.sd_resume.specs.command.Resumes.{AfterBoth}
use Rattle.sd_resume.proofs.command.resuming.resume.Goals as goal

pub returns-clause-makes : goal.returns-clause-makes
returns-clause-makes g c =
    let files = c.args.files in
    told_goes_on network (λ texts. topology_of (texts files.topology.now))
    (λ texts net. AfterAllPlans net (map (λ name. texts name) (map string_bytes files.plans.now))
    (λ read. AfterBoth net read files.left (texts files.schedule.now) (texts files.opening.now))) _ c.in_ok-topo.topo c.resume_over.result
    c.in_ok-topo.ensures.says (rw c.in_ok-topo.ensures.shelf.same_held at c.resume_over.ensures.makes)
