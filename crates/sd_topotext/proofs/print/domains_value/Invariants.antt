use Rattle.std.proofs.Common.{◌≡◌, map, take}
use Rattle.toml.specs.Data.{table}
use Rattle.toml.specs.View.{items_of, items_view}
use Rattle.sd_plan.specs.topo.Network.{device_names, link_names}
use Rattle.sd_plan.specs.topo.Topologies.{network}
use Rattle.sd_topotext.specs.Printed.{domain_tree}
use Rattle.sd_topotext.proofs.print.domains_value.Given as goal

abbrev pub invariant-loop-f : goal.invariant-loop-f
invariant-loop-f l =
    items_view l.items.items
    ≡ items_of (map (λ domain. table (domain_tree (device_names (network l.topo)) (link_names (network l.topo)) domain)) (take l.f (network l.topo).domains))
