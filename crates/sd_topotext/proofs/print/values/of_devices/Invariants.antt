use Rattle.std.proofs.Common.{◌≡◌, map, take}
use Rattle.toml.specs.Data.{string}
use Rattle.toml.specs.View.{items_of, items_view}
use Rattle.sd_plan.specs.topo.Network.{device_names, name_at}
use Rattle.sd_plan.specs.topo.Topologies.{network}
use Rattle.sd_topotext.proofs.print.values.of_devices.Given as goal

abbrev pub invariant-loop-d : goal.invariant-loop-d
invariant-loop-d l = items_view l.items.items ≡ items_of (map (λ n. string (name_at (device_names (network l.topo)) n)) (take l.d-index l.devices))
