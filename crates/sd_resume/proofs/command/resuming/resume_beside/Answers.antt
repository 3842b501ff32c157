use Rattle.std.proofs.Common.{List, [], subst, sym}
use Rattle.sd_plan.specs.topo.Network.{Each}
use Rattle.sd_plan.specs.topo.Topologies.{network}
use Rattle.sd_plan.specs.declared.Plan.{Plan}
use Rattle.sd_plan.specs.Plans.{Fits}
use Rattle.sd_history.specs.World.{setting_over}
use Rattle.sd_checker.specs.Conditions.{IsAccepted}
use Rattle.sd_resume.specs.command.Played.{HasPlayed}
use Rattle.sd_resume.proofs.command.Afterwards.{each_drop}
use Rattle.sd_resume.proofs.command.resuming.resume_beside.Goals as goal

pub begin-requires-clause-fit : goal.begin-requires-clause-fit
begin-requires-clause-fit g c =
    subst (λ (plans : List Plan). Each (Fits (network c.args.topo.now)) plans) (sym c.plans_behind.ensures)
    (each_drop (Fits (network c.args.topo.now)) c.args.files.left c.args.plans.now c.requires.fit)

pub begin-requires-clause-accepted : goal.begin-requires-clause-accepted
begin-requires-clause-accepted g c =
    subst (λ (plans : List Plan). Each (IsAccepted (network c.args.topo.now)) plans) (sym c.plans_behind.ensures)
    (each_drop (IsAccepted (network c.args.topo.now)) c.args.files.left c.args.plans.now c.requires.accepted)

pub returns-clause-makes : goal.returns-clause-makes
returns-clause-makes g c =
    λ fresh. c.resume_replays-made.ensures.makes (network c.args.topo.now) c.args.plans.now c.requires.left fresh
    (subst (λ (plans : List Plan). HasPlayed c.in_ok-other.other (setting_over (network c.args.topo.now) plans) []) c.plans_behind.ensures c.in_ok-other.ensures)
