use Rattle.std.proofs.Common.{arith}
use Rattle.sd_device.specs.Calls.{Receive}
use Rattle.sd_device.specs.Living.{Life}
use Rattle.sd_device.specs.Standing.{StandsFor}
use Rattle.sd_device.proofs.Keeping.{message_keeps}
use Rattle.sd_device.proofs.Stands.{Stood, stood}
use Rattle.sd_device.proofs.device.Device.receive.Goals as goal

stands : (c : goal.After-receive) (life : Life) → StandsFor c.args.self.now life
    → Stood life (Receive c.args.link c.args.message.now c.args.counter) (c.receive.new.self, c.receive.result)
stands c life h =
    stood c.args.self.now c.self.inside.registers c.receive.new.self c.receive.result life
    (Receive c.args.link c.args.message.now c.args.counter) c.self.view_is c.receive.ensures.registers
    c.receive.ensures.effect h (omega (arith, c.requires.floor))

pub invariant_of-self : goal.invariant_of-self
invariant_of-self c =
    (message_keeps c.args.self.now c.self.inside.registers c.receive.new.self c.receive.result c.args.link c.args.message.now c.args.counter c.self.view_is
    c.receive.ensures.registers
    c.receive.ensures.effect c.self.invariant c.requires.floor).sound

pub returns-clause-sent : goal.returns-clause-sent
returns-clause-sent c = λ life h. (stands c life h).sends

pub returns-clause-told : goal.returns-clause-told
returns-clause-told c = λ life h. (stands c life h).stands
