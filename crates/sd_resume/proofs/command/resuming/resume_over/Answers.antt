use Rattle.std.proofs.Common.{IfSome, List, map, string_bytes, subst, sym}
use Rattle.sd_plan.specs.declared.Plan.{Plan}
use Rattle.sd_plan.specs.Plans.{Fits}
use Rattle.sd_checker.specs.Conditions.{IsAccepted}
use Rattle.sd_files.specs.Texts.{texts_of}
use Rattle.sd_files.specs.Writes.{IsAllowed}
use Rattle.sd_plan.specs.topo.Network.{Each}
use Rattle.sd_plan.specs.topo.Topologies.{network}
use Rattle.sd_resume.specs.command.Resumes.{AfterBoth}
use Rattle.sd_resume.proofs.command.Afterwards.{keeps_early, plan_among, told_planned, told_unplanned}
use Rattle.sd_resume.proofs.command.resuming.resume_over.Goals as goal

pub returns-in-Err-clause-makes : goal.returns-in-Err-clause-makes
returns-in-Err-clause-makes g c =
    let files = c.args.files in
    told_unplanned (network c.args.topo.now) (map string_bytes files.plans.now)
    (λ texts read. AfterBoth (network c.args.topo.now) read files.left (texts files.schedule.now) (texts files.opening.now)) (g.S.Shelf.held c.args.shelf.now)
    c.made.result c.in-Err.early c.made.ensures c.in-Err.ensures.makes

pub returns-in-Err-clause-gives : goal.returns-in-Err-clause-gives
returns-in-Err-clause-gives g c = plan_among c.in-Err.early c.made.result c.made.ensures c.in-Err.ensures.answered

pub returns-in-Err-clause-shelf : goal.returns-in-Err-clause-shelf
returns-in-Err-clause-shelf g c =
    keeps_early g.S.Shelf c.load_plans.result c.in-Err.early c.made.result c.args.shelf.now c.load_plans.new.shelf c.in-Err.is c.made.ensures
    c.load_plans.ensures.shelf

pub returns-in-Ok-clause-makes : goal.returns-in-Ok-clause-makes
returns-in-Ok-clause-makes g c =
    let files = c.args.files in
    told_planned (network c.args.topo.now) (map string_bytes files.plans.now)
    (λ texts read. AfterBoth (network c.args.topo.now) read files.left (texts files.schedule.now) (texts files.opening.now)) (g.S.Shelf.held c.args.shelf.now)
    c.resume_both.result (g.S.Shelf.held c.load_plans.new.shelf) c.in-Ok.plans.items c.load_plans.ensures.shelf.same_held c.in-Ok.ensures.read
    c.in-Ok.ensures.accepted
    (subst (λ (plans : List Plan). IfSome (g.S.Shelf.held c.load_plans.new.shelf)
    (λ held. IsAllowed (AfterBoth (network c.args.topo.now) plans files.left (texts_of held files.schedule.now) (texts_of held files.opening.now))
    c.resume_both.result)) c.as_slice.ensures.value c.resume_both.ensures.makes)

pub resume_both-requires-clause-fit : goal.resume_both-requires-clause-fit
resume_both-requires-clause-fit g c =
    subst (λ (plans : List Plan). Each (Fits (network c.args.topo.now)) plans) (sym c.as_slice.ensures.value) c.in-Ok.ensures.fit

pub resume_both-requires-clause-accepted : goal.resume_both-requires-clause-accepted
resume_both-requires-clause-accepted g c =
    subst (λ (plans : List Plan). Each (IsAccepted (network c.args.topo.now)) plans) (sym c.as_slice.ensures.value) c.in-Ok.ensures.accepted
