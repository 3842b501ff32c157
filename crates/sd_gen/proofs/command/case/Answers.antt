use Rattle.std.proofs.Common.{◌≤◌, length, sym, subst}
use Rattle.sd_plan.specs.topo.Network.{Network}
use Rattle.sd_files.specs.Writes.{IsAllowed}
use Rattle.sd_gen.specs.command.Cases.{IsCaseOver}
use Rattle.sd_gen.proofs.command.Sized.{has_two_devices}
use Rattle.sd_gen.proofs.command.case.Goals as goal

pub case_over-requires : goal.case_over-requires
case_over-requires c =
    subst (λ (net : Network). 2 ≤ length net.devices) (sym c.in_ok-topo.ensures)
    (has_two_devices c.args.fabric.leaves c.args.fabric.spines c.requires.some_spines)

pub returns-clause-makes : goal.returns-clause-makes
returns-clause-makes c = subst (λ (net : Network). IsAllowed (IsCaseOver net c.args.number) c.case_over.result) c.in_ok-topo.ensures c.case_over.ensures.makes
