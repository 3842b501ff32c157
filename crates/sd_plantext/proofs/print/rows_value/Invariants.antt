use Rattle.std.proofs.Common.{◌≡◌, map}
use Rattle.serde_json.specs.View.{view}
use Rattle.sd_num.specs.Lists.{below}
use Rattle.sd_plan.specs.topo.Topologies.{network}
use Rattle.sd_plantext.specs.PrintedTree.{rows_listed}
use Rattle.sd_plantext.proofs.print.rows_value.Given as goal

abbrev pub invariant-loop-d : goal.invariant-loop-d
invariant-loop-d l = map view l.items.items ≡ rows_listed (network l.topo) l.plan (below l.d)
