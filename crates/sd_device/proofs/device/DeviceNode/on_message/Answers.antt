use Rattle.sd_device.proofs.Keeping.{MessageKeeps, message_keeps}
use Rattle.sd_device.proofs.device.DeviceNode.on_message.Goals as goal

kept : (c : goal.After-receive) → MessageKeeps c.args.self.now c.args.message c.args.counter (c.receive.new.self, c.receive.result)
kept c =
    message_keeps c.args.self.now c.self.inside.registers c.receive.new.self c.receive.result c.args.link c.args.message c.args.counter c.self.view_is
    c.receive.ensures.registers
    c.receive.ensures.effect c.self.invariant c.requires.floor

pub invariant_of-self : goal.invariant_of-self
invariant_of-self c = (kept c).sound

pub returns-clause-given : goal.returns-clause-given
returns-clause-given c = (kept c).given

pub returns-clause-floor : goal.returns-clause-floor
returns-clause-floor c = (kept c).floor

pub returns-clause-ceiling : goal.returns-clause-ceiling
returns-clause-ceiling c = (kept c).ceiling

pub returns-clause-height : goal.returns-clause-height
returns-clause-height c = (kept c).height

pub returns-clause-clock : goal.returns-clause-clock
returns-clause-clock c = (kept c).clock

pub returns-clause-stamp : goal.returns-clause-stamp
returns-clause-stamp c = (kept c).stamp
