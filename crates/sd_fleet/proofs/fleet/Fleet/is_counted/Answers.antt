use Rattle.std.proofs.Common.{◌∙◌, subst, ◌<◌, length}
use Rattle.sd_plan.specs.topo.Network.{Network}
use Rattle.sd_history.specs.Nodes.{steps_of}
use Rattle.sd_world.proofs.membership.Queries.{counted_is}
use Rattle.sd_fleet.proofs.fleet.Fleet.is_counted.Goals as goal

pub returns : goal.returns
returns g c =
    λ setting run stands.
    c.is_counted.ensures
    ∙ counted_is c.args.self.now.fabric.membership setting (steps_of run) stands.fabric.membership c.args.d
    (subst (λ (net : Network). c.args.d < length net.devices) stands.fabric.net c.requires)
