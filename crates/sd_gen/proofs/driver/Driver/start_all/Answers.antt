use Rattle.std.proofs.Common.{subst, ℕ}
use Rattle.sd_sched.specs.declared.Event.TheVariants.{Start}
use Rattle.sd_gen.specs.Drafts.{try}
use Rattle.sd_gen.specs.Standing.{StandsFor}
use Rattle.sd_gen.proofs.Turning.{start_more}
use Rattle.sd_gen.proofs.driver.Driver.start_all.Goals as goal

pub loop-device-preserved : goal.loop-device-preserved
loop-device-preserved g c =
    start_more g.D.Driven c.args.self.now c.loop-device.self c.try_event.new.self c.loop-device.device c.loop-device.invariant
    (λ setting x stands.
    subst (λ (eps : ℕ). StandsFor g.D.Driven c.try_event.new.self setting (try setting (Start 0 c.loop-device.device 0 0 eps) x))
    c.first_eps-eps.ensures (c.in_ok-try_event.ensures.stands setting x stands))
