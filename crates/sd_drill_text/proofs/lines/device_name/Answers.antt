use Rattle.std.proofs.Common.{arith}
use Rattle.std.proofs.lemmas.List.{length-map}
use Rattle.sd_plan.specs.topo.Network.{device_names}
use Rattle.sd_plan.specs.topo.Topologies.{network}
use Rattle.sd_drill_text.proofs.Names.{name_short}
use Rattle.sd_drill_text.proofs.lines.device_name.Goals as goal

pub returns-clause-short : goal.returns-clause-short
returns-clause-short c =
    let net = network c.args.topo.now in
    rw c.device_name.ensures (name_short (device_names net) c.args.d
    (omega (arith, c.requires, length-map net.devices (λ device. device.name))) c.args.topo.now.is_network.names.0)
