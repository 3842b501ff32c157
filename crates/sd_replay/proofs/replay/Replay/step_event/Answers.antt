-- An event after which its device answers as before has happened already, and else the event happens in the general way.
use Rattle.std.proofs.lemmas.Result.{on_ok_weaker}
use Rattle.sd_replay.proofs.Answered.{answered_done, answered_after}
use Rattle.sd_replay.proofs.Tried.{happened}
use Rattle.sd_replay.proofs.replay.Replay.step_event.Goals as goal

pub returns-in-Some-clause-accepted : goal.returns-in-Some-clause-accepted
returns-in-Some-clause-accepted g c = λ setting run stands. (happened g.N.Node g.V.Observer c.args.self.now c.try_quick.new.self c.args.event.now c.try_quick.result c.in-Some.field-0
    c.try_quick.ensures c.in-Some.is setting run stands).stepped

pub returns-in-Some-clause-answered : goal.returns-in-Some-clause-answered
returns-in-Some-clause-answered g c =
    answered_done g.N.Node g.V.Observer c.args.self.now c.try_quick.new.self c.args.event.now _
    (λ setting run stands. (happened g.N.Node g.V.Observer c.args.self.now c.try_quick.new.self c.args.event.now c.try_quick.result c.in-Some.field-0
    c.try_quick.ensures c.in-Some.is setting run stands).stepped)

pub returns-in-None-clause-answered : goal.returns-in-None-clause-answered
returns-in-None-clause-answered g c =
    answered_after g.N.Node g.V.Observer c.args.self.now c.try_quick.new.self _ c.args.event.now c.advance.result
    (c.try_quick.ensures.stands c.in-None.is) c.advance.ensures.answered

pub returns-in-None-clause-accepted : goal.returns-in-None-clause-accepted
returns-in-None-clause-accepted g c =
    on_ok_weaker c.advance.result (λ steps setting run stands. (steps setting run (c.try_quick.ensures.stands c.in-None.is setting run stands)).stepped)
    c.advance.ensures.accepted
