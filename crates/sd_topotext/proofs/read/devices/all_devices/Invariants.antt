use Rattle.std.proofs.Common.{◌≡◌, drop, []}
use Rattle.toml.specs.View.{items_view}
use Rattle.indexmap.specs.IndexMap.{index_map_len, hasher_of}
use Rattle.sd_plan.specs.topo.Seen.{devices_seen}
use Rattle.sd_topotext.specs.Meaning.{each_from, one_more_device}
use Rattle.sd_topotext.proofs.read.devices.all_devices.Given as goal

abbrev pub invariant-loop-item : goal.invariant-loop-item
invariant-loop-item l = record {
  len : index_map_len l.devices ≡ l.item-index;
  hasher : hasher_of l.devices ≡ l.fn.seed;
  devices : each_from (one_more_device l.version l.top) (devices_seen l.devices) (items_view (drop l.item-index l.items))
      ≡ each_from (one_more_device l.version l.top) [] (items_view l.items);
}
