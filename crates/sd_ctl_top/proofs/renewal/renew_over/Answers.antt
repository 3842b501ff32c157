use Rattle.std.proofs.Common.{ℕ, Some, subst}
use Rattle.sd_plan.specs.topo.Topologies.{network}
use Rattle.sd_plan.specs.declared.Absent.{Absent}
use Rattle.sd_plan.specs.declared.Plan.{Plan}
use Rattle.sd_files.specs.Answering.{After}
use Rattle.sd_files.specs.Inputs.{plan_in_file, absent_in_file}
use Rattle.sd_files.specs.Writes.{IsAllowed}
use Rattle.sd_files.proofs.Loading.{told_always, told_goes_on}
use Rattle.sd_ctl_top.specs.Findings.{IsFinding, root_after}
use Rattle.sd_ctl_top.proofs.renewal.renew_over.Goals as goal

pub returns-clause-makes : goal.returns-clause-makes
returns-clause-makes g c =
    let net = network c.args.topo.now in
    let old = c.in_ok-old.old in
    let left = c.in_ok-absent.absent in
    let budget = c.args.settings.budget in
    told_goes_on (λ (plan : Plan). plan) (λ texts. plan_in_file net 1 (texts c.args.files.plan.now))
    (λ texts plan. After (absent_in_file net (texts c.args.files.absent.now)) (λ absent. IsFinding net absent (Some (root_after plan absent)) budget)) _ old
    c.finding.result c.in_ok-old.ensures.says
    (rw c.in_ok-old.ensures.shelf.same_held at
    (told_goes_on (λ (absent : Absent). absent) (λ texts. absent_in_file net (texts c.args.files.absent.now))
    (λ texts absent. IsFinding net absent (Some (root_after old absent)) budget) _ left c.finding.result c.in_ok-absent.ensures.says
    (told_always _
    (subst (λ (root : ℕ). IsAllowed (IsFinding net left (Some root) budget) c.finding.result) c.root_after.ensures c.finding.ensures.makes))))
