use Rattle.std.proofs.Common.{◌∙◌}
use Rattle.sd_plan.specs.topo.Topologies.{network}
use Rattle.sd_plan.proofs.Over.{none_before}
use Rattle.sd_plan.proofs.table.ends.all_ends.Goals as goal

pub loop-l-init : goal.loop-l-init
loop-l-init c = c.in_ok-rows.ensures ∙ none_before (network c.args.topo.now) c.args.plan.now c.devices.result c.devices.ensures
