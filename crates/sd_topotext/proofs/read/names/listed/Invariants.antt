use Rattle.std.proofs.Common.{◌≡◌, drop, []}
use Rattle.toml.specs.View.{items_view}
use Rattle.sd_plan.specs.topo.Seen.{names_seen}
use Rattle.sd_topotext.specs.Meaning.{each_from, one_more}
use Rattle.sd_topotext.proofs.read.names.listed.Given as goal

abbrev pub invariant-loop-item : goal.invariant-loop-item
invariant-loop-item g l =
    each_from (one_more l.place (names_seen l.names)) l.listed.keys (items_view (drop l.item-index l.items))
    ≡ each_from (one_more l.place (names_seen l.names)) [] (items_view l.items)
