use Rattle.std.proofs.Common.{refl}
use Rattle.sd_plan.specs.topo.Topologies.{network}
use Rattle.sd_commands.proofs.replay.Ordering.{name_known, named, unnamed}
use Rattle.sd_commands.proofs.replay.order_work.name_of.Goals as goal

pub device_name-requires : goal.device_name-requires
device_name-requires c =
    name_known c.args.replay.now c.observer.result.now c.observer.ensures (network c.topology.result.now) c.topology.ensures c.in-Some.d c.in-Some.is
    c.args.replay.now.run

pub returns-in-Some : goal.returns-in-Some
returns-in-Some c =
    named c.args.replay.now c.observer.result.now c.observer.ensures (network c.topology.result.now) c.topology.ensures c.in-Some.d c.device_name.result.now
    c.in-Some.is c.device_name.ensures

pub returns-in-None : goal.returns-in-None
returns-in-None c = unnamed c.args.replay.now c.observer.result.now c.observer.ensures _ c.in-None.is refl
