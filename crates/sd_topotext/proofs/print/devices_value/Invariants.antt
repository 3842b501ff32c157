use Rattle.std.proofs.Common.{◌≡◌, map, take}
use Rattle.toml.specs.Data.{table}
use Rattle.toml.specs.View.{items_of, items_view}
use Rattle.sd_plan.specs.topo.Topologies.{network}
use Rattle.sd_topotext.specs.Printed.{device_tree}
use Rattle.sd_topotext.proofs.print.devices_value.Given as goal

abbrev pub invariant-loop-d : goal.invariant-loop-d
invariant-loop-d l = items_view l.items.items ≡ items_of (map (λ device. table (device_tree device)) (take l.d (network l.topo).devices))
