use Rattle.std.proofs.Common.{◌≡◌, length}
use Rattle.sd_plan.specs.topo.Topologies.{network}
use Rattle.sd_world.specs.membership.Plans.{AreSound}
use Rattle.sd_test_fleet_kit.proofs.examples.plans.plans_of.Given as goal

-- each of the plans so far can be followed, and there are as many as texts
abbrev pub invariant-loop-text : goal.invariant-loop-text
invariant-loop-text l = record {
  sound : AreSound (network l.topo) l.plans.items;
  count : length l.plans.items ≡ l.text-index;
}
