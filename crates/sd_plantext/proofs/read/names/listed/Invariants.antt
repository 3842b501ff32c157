use Rattle.std.proofs.Common.{◌≡◌, drop, []}
use Rattle.serde_json.specs.View.{items_view}
use Rattle.sd_plan.specs.topo.Topologies.{network}
use Rattle.sd_plantext.specs.Counted.{names_of}
use Rattle.sd_plantext.specs.Meaning.{names_from}
use Rattle.sd_plantext.proofs.read.names.listed.Given as goal

abbrev pub invariant-loop-item : goal.invariant-loop-item
invariant-loop-item l =
    names_from l.place (names_of l.kind (network l.topo)) l.listed.keys (items_view (drop l.item-index l.items))
    ≡ names_from l.place (names_of l.kind (network l.topo)) [] (items_view l.items)
