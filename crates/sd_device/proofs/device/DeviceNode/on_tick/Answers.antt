use Rattle.sd_device.proofs.Keeping.{TickKeeps, tick_keeps}
use Rattle.sd_device.proofs.device.DeviceNode.on_tick.Goals as goal

kept : (c : goal.After-tick) → TickKeeps c.args.self.now c.args.counter (c.tick.new.self, c.tick.result)
kept c =
    tick_keeps c.args.self.now c.self.inside.registers c.tick.new.self c.tick.result c.args.counter c.self.view_is c.tick.ensures.registers
    c.tick.ensures.effect c.self.invariant c.requires.floor
    c.requires.counter

pub invariant_of-self : goal.invariant_of-self
invariant_of-self c = (kept c).sound

pub returns-clause-given : goal.returns-clause-given
returns-clause-given c = (kept c).given

pub returns-clause-floor : goal.returns-clause-floor
returns-clause-floor c = (kept c).floor

pub returns-clause-height : goal.returns-clause-height
returns-clause-height c = (kept c).height

pub returns-clause-clock : goal.returns-clause-clock
returns-clause-clock c = (kept c).clock

pub returns-clause-stamp : goal.returns-clause-stamp
returns-clause-stamp c = (kept c).stamp
