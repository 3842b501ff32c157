use Rattle.std.proofs.Common.{length, sym, ap, ◌∙◌, get_or}
use Rattle.std.proofs.lemmas.Bool.{and_parts}
use Rattle.std.proofs.lemmas.Option.{slice_get-get_or}
use Rattle.sd_num.specs.Lists.{ascends, all_below}
use Rattle.sd_plan.specs.topo.Network.{Network}
use Rattle.sd_plan.specs.topo.Topologies.{network}
use Rattle.sd_plan.specs.declared.Plan.{Plan}
use Rattle.sd_premise.proofs.inputs.MonitorInputs.new.Goals as goal

pub of_devices-requires : goal.of_devices-requires
of_devices-requires c k d within =
    let plan : Plan = get_or c.args.plans.now k d in
    (and_parts (ascends plan.absent.devices) (all_below (length (network c.args.topo.now).devices) plan.absent.devices)
    (c.requires.sound k plan (slice_get-get_or c.args.plans.now k d within)).fits.absent_devices).1

pub of_links-requires : goal.of_links-requires
of_links-requires c k d within =
    let plan : Plan = get_or c.args.plans.now k d in
    (and_parts (ascends plan.absent.links) (all_below (length (network c.args.topo.now).links) plan.absent.links)
    (c.requires.sound k plan (slice_get-get_or c.args.plans.now k d within)).fits.absent_links).1

pub returns-clause-world : goal.returns-clause-world
returns-clause-world c setting net =
    c.in_ok-world.ensures.stands setting (ap (λ (n : Network). length n.devices) net ∙ sym c.devices.ensures)
    (ap (λ (n : Network). length n.links) net ∙ sym c.links.ensures)
