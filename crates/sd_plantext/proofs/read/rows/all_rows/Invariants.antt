use Rattle.std.proofs.Common.{◌≡◌, ◌+◌, length, drop}
use Rattle.std.specs.Prelude.{vec_len}
use Rattle.serde_json.specs.View.{items_view}
use Rattle.sd_plan.specs.topo.Topologies.{network}
use Rattle.sd_plantext.specs.Counted.{filled}
use Rattle.sd_plantext.specs.Meaning.{rows_from, no_rows}
use Rattle.sd_plantext.proofs.read.rows.all_rows.Given as goal

abbrev pub invariant-loop-item : goal.invariant-loop-item
invariant-loop-item l = record {
  len : vec_len l.rows ≡ length (network l.topo).devices;
  entry : l.entry ≡ filled l.rows.items + 1;
  rows : rows_from (network l.topo) l.entry l.rows.items (items_view (drop l.item-index l.items))
      ≡ rows_from (network l.topo) 1 (no_rows (network l.topo)) (items_view l.items);
}
