use Rattle.std.proofs.Common.{◌≡◌, ◌≤◌, drop, []}
use Rattle.toml.specs.View.{items_view}
use Rattle.indexmap.specs.IndexMap.{index_map_len, hasher_of}
use Rattle.sd_plan.specs.topo.Seen.{domains_seen, names_seen}
use Rattle.sd_topotext.specs.Meaning.{each_from, one_more_domain, things_listed}
use Rattle.sd_topotext.proofs.read.domains.all_domains.Given as goal

abbrev pub invariant-loop-item : goal.invariant-loop-item
invariant-loop-item l = record {
  len : index_map_len l.domains ≡ l.item-index;
  hasher : hasher_of l.domains ≡ l.fn.seed;
  things : l.things ≡ things_listed (domains_seen l.domains);
  room : l.things ≤ 262144;
  domains : each_from (one_more_domain (names_seen l.devices) (names_seen l.links)) (domains_seen l.domains) (items_view (drop l.item-index l.items))
      ≡ each_from (one_more_domain (names_seen l.devices) (names_seen l.links)) [] (items_view l.items);
}
