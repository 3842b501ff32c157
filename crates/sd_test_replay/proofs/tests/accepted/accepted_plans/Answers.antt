use Rattle.std.proofs.Common.{arith}
use Rattle.sd_plan.specs.topo.Topologies.{network}
use Rattle.sd_plan.specs.Plans.{Fits}
use Rattle.sd_checker.specs.Conditions.{IsAccepted}
use Rattle.sd_test_replay.proofs.Longer.{each_longer}
use Rattle.sd_test_replay.proofs.tests.accepted.accepted_plans.Goals as goal

pub loop-text-preserved : goal.loop-text-preserved
loop-text-preserved c =
    let net = network c.args.topo.now in
    record {
      fit = each_longer (Fits net) c.loop-text.plans.items c.push.new.self.items c.in_ok-plan.plan c.in-Ok.ensures.items c.loop-text.invariant.fit
          c.in_ok-plan.ensures.fits;
      accepted = each_longer (IsAccepted net) c.loop-text.plans.items c.push.new.self.items c.in_ok-plan.plan c.in-Ok.ensures.items
          c.loop-text.invariant.accepted c.in_ok-plan.ensures.accepted;
      count = omega (arith, c.loop-text.invariant.count, c.in-Ok.ensures.len);
    }
