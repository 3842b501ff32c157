use Rattle.std.proofs.Common.{arith}
use Rattle.sd_plan.specs.topo.Topologies.{network}
use Rattle.sd_test_fleet_kit.proofs.examples.Followed.{followed_more}
use Rattle.sd_test_fleet_kit.proofs.examples.plans.plans_of.Goals as goal

pub loop-text-preserved : goal.loop-text-preserved
loop-text-preserved c = record {
  sound = followed_more (network c.args.topo.now) c.loop-text.plans.items c.push.new.self.items c.in_ok-plan.plan c.in-Ok.ensures.items
      c.loop-text.invariant.sound c.in_ok-plan.ensures;
  count = omega (arith, c.loop-text.invariant.count, c.in-Ok.ensures.len);
}
