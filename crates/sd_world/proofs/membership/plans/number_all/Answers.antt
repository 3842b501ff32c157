use Rattle.std.proofs.Common.{length, refl, arith}
use Rattle.std.proofs.lemmas.Option.{slice_get_read}
use Rattle.sd_plan.specs.topo.Topologies.{network}
use Rattle.sd_world.proofs.membership.Numbering.{plans_added}
use Rattle.sd_world.proofs.membership.plans.number_all.Goals as goal

pub new-requires-clause-fits : goal.new-requires-clause-fits
new-requires-clause-fits c =
    (c.requires.sound c.loop-plan.plan-index c.plan-item.result
    (slice_get_read c.args.plans.now (length c.args.plans.now) c.loop-plan.plan-index c.plan-item.result refl c.loop-plan-test.true c.plan-item.is)).fits

pub new-requires-clause-structured : goal.new-requires-clause-structured
new-requires-clause-structured c =
    (c.requires.sound c.loop-plan.plan-index c.plan-item.result
    (slice_get_read c.args.plans.now (length c.args.plans.now) c.loop-plan.plan-index c.plan-item.result refl c.loop-plan-test.true c.plan-item.is)).structured

pub loop-plan-preserved : goal.loop-plan-preserved
loop-plan-preserved c = record {
  numbered = plans_added (network c.args.topo.now) c.args.plans.now c.loop-plan.plan-index c.loop-plan.epoch c.plan-item.result c.loop-plan.all.items
      c.push.new.self.items c.in_ok-numbered.numbered c.loop-plan-test.true c.plan-item.is
      c.loop-plan.invariant.numbered c.loop-plan.invariant.epoch c.in_ok-numbered.ensures c.in-Ok.ensures.items;
  epoch = omega (arith, c.loop-plan.invariant.epoch);
}
