use Rattle.std.proofs.Common.{◌≡◌, drop, []}
use Rattle.toml.specs.View.{items_view}
use Rattle.indexmap.specs.IndexMap.{index_map_len, hasher_of}
use Rattle.sd_plan.specs.topo.Seen.{links_seen, names_seen}
use Rattle.sd_topotext.specs.Meaning.{each_from, one_more_link}
use Rattle.sd_topotext.proofs.read.links.all_links.Given as goal

abbrev pub invariant-loop-item : goal.invariant-loop-item
invariant-loop-item l = record {
  len : index_map_len l.links ≡ l.item-index;
  hasher : hasher_of l.links ≡ l.fn.seed;
  links : each_from (one_more_link l.version (names_seen l.devices)) (links_seen l.links) (items_view (drop l.item-index l.items))
      ≡ each_from (one_more_link l.version (names_seen l.devices)) [] (items_view l.items);
}
