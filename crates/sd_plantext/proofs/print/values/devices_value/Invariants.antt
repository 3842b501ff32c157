use Rattle.std.proofs.Common.{◌≡◌, map, take}
use Rattle.serde_json.specs.View.{view}
use Rattle.sd_plan.specs.topo.Topologies.{network}
use Rattle.sd_plantext.specs.PrintedTree.{device_data}
use Rattle.sd_plantext.proofs.print.values.devices_value.Given as goal

abbrev pub invariant-loop-d : goal.invariant-loop-d
invariant-loop-d l = map view l.items.items ≡ map (device_data (network l.topo)) (take l.d-index l.devices)
