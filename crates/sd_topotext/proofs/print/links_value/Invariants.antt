use Rattle.std.proofs.Common.{◌≡◌, map, take}
use Rattle.toml.specs.Data.{table}
use Rattle.toml.specs.View.{items_of, items_view}
use Rattle.sd_plan.specs.topo.Network.{device_names}
use Rattle.sd_plan.specs.topo.Topologies.{network}
use Rattle.sd_topotext.specs.Printed.{link_tree}
use Rattle.sd_topotext.proofs.print.links_value.Given as goal

abbrev pub invariant-loop-l : goal.invariant-loop-l
invariant-loop-l l =
    items_view l.items.items ≡ items_of (map (λ link. table (link_tree (device_names (network l.topo)) link)) (take l.l (network l.topo).links))
