use Rattle.std.proofs.Common.{sym, subst}
use Rattle.sd_plan.specs.topo.Topologies.{network}
use Rattle.sd_files.specs.Writes.{IsAllowed}
use Rattle.sd_gen.specs.command.Cases.{IsCaseOver}
use Rattle.sd_gen.proofs.command.Judging.{case_early, case_told}
use Rattle.sd_gen.proofs.command.case_over.Goals as goal

pub returns-in-Ok-clause-makes : goal.returns-in-Ok-clause-makes
returns-in-Ok-clause-makes c =
    case_told (network c.args.topo) c.args.number c.in-Ok.plans c.replay_case.result c.in-Ok.ensures.made c.replay_case.ensures.makes

pub returns-in-Err-clause-makes : goal.returns-in-Err-clause-makes
returns-in-Err-clause-makes c =
    subst (IsAllowed (IsCaseOver (network c.args.topo) c.args.number)) (sym c.made.ensures)
    (case_early (network c.args.topo) c.args.number c.in-Err.early c.in-Err.ensures.makes)
