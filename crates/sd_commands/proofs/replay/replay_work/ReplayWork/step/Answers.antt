use Rattle.std.proofs.Common.{Ok, refl}
use Rattle.sd_commands.proofs.replay.Refusing.{taken_accepted, taken_refused}
use Rattle.sd_commands.proofs.replay.replay_work.ReplayWork.step.Goals as goal

pub returns-in-Ok-clause-takes : goal.returns-in-Ok-clause-takes
returns-in-Ok-clause-takes g c =
    taken_accepted g.V.Observer c.accept.result c.args.self.now.replay c.step.new.self c.accept.new.self.replay c.args.line.now c.accept.new.self.text.items
    c.accept.ensures.same c.in-Ok.field-0 (Ok c.in-Ok.field-0) refl c.accept.ensures.accepted
    c.accept.ensures.text c.in-Ok.ensures.line c.in-Ok.ensures.refusal c.in-Ok.ensures.accepted

pub returns-in-Err-clause-takes : goal.returns-in-Err-clause-takes
returns-in-Err-clause-takes g c =
    taken_refused g.V.Observer c.refuse.result c.args.self.now.replay c.step.new.self c.refuse.new.self.replay c.args.line.now c.refuse.new.self.text.items
    c.refuse.ensures.same c.in-Err.fault c.refuse.ensures.refused c.refuse.ensures.text
    c.in-Err.ensures.refused
