use Rattle.std.proofs.Common.{◌≡◌}
use Rattle.std.specs.Prelude.{map}
use Rattle.sd_num.specs.Lists.{below}
use Rattle.sd_plan.specs.topo.Topologies.{network}
use Rattle.sd_world.specs.membership.Plans.{numbered_at}
use Rattle.sd_world.proofs.membership.plans.number_all.Given as goal

abbrev pub invariant-loop-plan : goal.invariant-loop-plan
invariant-loop-plan l = record {
  numbered : l.all.items ≡ map (numbered_at (network l.topo) l.plans) (below l.plan-index);
  epoch : l.epoch ≡ l.plan-index;
}
