use Rattle.std.proofs.Common.{◌<◌, subst}
use Rattle.toml.specs.Data.{table}
use Rattle.sd_plan.specs.topo.Topologies.{network}
use Rattle.sd_plan.specs.topo.Places.{no_device}
use Rattle.sd_topotext.specs.Printed.{device_tree}
use Rattle.sd_topotext.proofs.Printing.{items_more}
use Rattle.sd_topotext.proofs.print.devices_value.Goals as goal

pub loop-d-preserved : goal.loop-d-preserved
loop-d-preserved c =
    items_more (λ device. table (device_tree device)) (network c.args.topo.now).devices c.loop-d.d no_device c.loop-d.items.items c.push.new.items.items
    c.in_ok-device.device
    (subst (λ n. c.loop-d.d < n) c.devices-d-end.ensures c.loop-d-test.true) c.loop-d.invariant c.in_ok-device.ensures c.in_ok-push.ensures
