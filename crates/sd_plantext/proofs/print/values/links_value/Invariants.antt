use Rattle.std.proofs.Common.{◌≡◌, map, take}
use Rattle.serde_json.specs.View.{view}
use Rattle.sd_plan.specs.topo.Topologies.{network}
use Rattle.sd_plantext.specs.PrintedTree.{link_data}
use Rattle.sd_plantext.proofs.print.values.links_value.Given as goal

abbrev pub invariant-loop-l : goal.invariant-loop-l
invariant-loop-l l = map view l.items.items ≡ map (link_data (network l.topo)) (take l.l-index l.links)
