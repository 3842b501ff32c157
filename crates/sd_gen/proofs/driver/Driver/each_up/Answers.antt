use Rattle.std.proofs.Common.{◌∙◌}
use Rattle.sd_gen.proofs.Turning.{turn_more}
use Rattle.sd_gen.proofs.driver.Driver.each_up.Goals as goal

pub loop-d-preserved : goal.loop-d-preserved
loop-d-preserved g c =
    record {
      leads = c.in_ok-try_if_up.ensures.leads ∙ c.loop-d.invariant.leads;
      stands =
          turn_more g.D.Driven c.args.self.now c.loop-d.self c.try_if_up.new.self c.args.turn c.args.reference c.loop-d.d c.devices-d-end.result
          c.loop-d-test.true c.devices-d-end.ensures c.loop-d.invariant.leads
          c.loop-d.invariant.stands c.in_ok-try_if_up.ensures.stands;
    }
