use Rattle.std.proofs.Common.{Ok, refl, take}
use Rattle.sd_io.proofs.stream.Windows.{ends_at}
use Rattle.sd_commands.proofs.replay.Refusing.{front_accepted}
use Rattle.sd_commands.proofs.replay.Stepping.{stays}
use Rattle.sd_commands.proofs.replay.replay_work.ReplayWork.step_front.Goals as goal

pub returns-in_ok-accept-in-Ok-clause-ends : goal.returns-in_ok-accept-in-Ok-clause-ends
returns-in_ok-accept-in-Ok-clause-ends g c = ends_at c.args.text.now c.in-Some.front.len c.in-Some.ensures.newline c.in-Some.ensures.short

pub returns-in_ok-accept-in-Ok-clause-takes : goal.returns-in_ok-accept-in-Ok-clause-takes
returns-in_ok-accept-in-Ok-clause-takes g c =
    front_accepted g.V.Observer c.args.self.now.replay c.step_event.new.self c.accept.new.self.replay (take c.in-Some.front.len c.args.text.now)
    c.accept.new.self.text.items c.in-Some.front.event c.accept.ensures.same c.in-Some.ensures.event c.in-Ok.field-0 (Ok c.in-Ok.field-0) refl
    c.in-Ok.ensures.answered.cause c.in-Ok.ensures.accepted c.in_ok-accept-in-Ok.ensures.text

pub returns-in-Err-clause-takes : goal.returns-in-Err-clause-takes
returns-in-Err-clause-takes g c =
    λ setting events replayed. stays g.V.Observer setting events c.args.self.now.replay c.step_event.new.self
    (λ s run stands. (c.in-Err.ensures.answered.refused s run stands).0) replayed
