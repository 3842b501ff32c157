use Rattle.std.proofs.Common.{arith}
use Rattle.sd_device.specs.Calls.{Tick}
use Rattle.sd_device.specs.Living.{Life}
use Rattle.sd_device.specs.Standing.{StandsFor}
use Rattle.sd_device.proofs.Keeping.{tick_sound}
use Rattle.sd_device.proofs.Stands.{Stood, stood}
use Rattle.sd_device.proofs.device.Device.tick.Goals as goal

stands : (c : goal.After-tick) (life : Life) → StandsFor c.args.self.now life → Stood life (Tick c.args.counter) (c.tick.new.self, c.tick.result)
stands c life h =
    stood c.args.self.now c.self.inside.registers c.tick.new.self c.tick.result life
    (Tick c.args.counter) c.self.view_is c.tick.ensures.registers c.tick.ensures.effect h (omega (arith, c.requires.floor))

pub invariant_of-self : goal.invariant_of-self
invariant_of-self c =
    tick_sound c.args.self.now c.self.inside.registers c.tick.new.self c.args.counter c.self.view_is c.tick.ensures.registers c.self.invariant

pub returns-clause-sent : goal.returns-clause-sent
returns-clause-sent c = λ life h. (stands c life h).sends

pub returns-clause-told : goal.returns-clause-told
returns-clause-told c = λ life h. (stands c life h).stands
