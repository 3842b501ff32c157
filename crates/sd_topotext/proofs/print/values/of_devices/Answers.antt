use Rattle.std.proofs.Common.{ap, ◌∙◌}
use Rattle.toml.specs.Data.{string}
use Rattle.sd_plan.specs.topo.Network.{device_names, name_at}
use Rattle.sd_plan.specs.topo.Topologies.{network}
use Rattle.sd_topotext.proofs.Printing.{items_more}
use Rattle.sd_topotext.proofs.print.values.of_devices.Goals as goal

pub loop-d-preserved : goal.loop-d-preserved
loop-d-preserved c =
    items_more (λ n. string (name_at (device_names (network c.args.topo.now)) n)) c.args.devices.now c.loop-d.d-index 0 c.loop-d.items.items
    c.push.new.items.items c.in_ok-name.name
    c.loop-d-test.true c.loop-d.invariant (c.in_ok-name.ensures ∙ ap string c.device_name.ensures) c.in_ok-push.ensures
