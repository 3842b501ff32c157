-- An event after which its device answers as before has happened already, and else the event happens in the general way.
use Rattle.sd_replay.proofs.Answered.{answered_done, answered_after}
use Rattle.sd_replay.proofs.replay.Replay.step_outcome.Goals as goal

pub returns-then-try_quick_to-clause-accepted : goal.returns-then-try_quick_to-clause-accepted
returns-then-try_quick_to-clause-accepted g c = c.try_quick_to.ensures.accepted c.if-try_quick_to.true

pub returns-then-try_quick_to-clause-answered : goal.returns-then-try_quick_to-clause-answered
returns-then-try_quick_to-clause-answered g c =
    answered_done g.N.Node g.V.Observer c.args.self.now c.try_quick_to.new.self c.args.event.now _
    (λ setting run stands. (c.try_quick_to.ensures.accepted c.if-try_quick_to.true setting run stands).stepped)

pub returns-in-Ok-clause-answered : goal.returns-in-Ok-clause-answered
returns-in-Ok-clause-answered g c =
    answered_after g.N.Node g.V.Observer c.args.self.now c.try_quick_to.new.self _ c.args.event.now _
    (c.try_quick_to.ensures.stands c.if-try_quick_to.false) c.in-Ok.ensures.answered

pub returns-in-Err-clause-answered : goal.returns-in-Err-clause-answered
returns-in-Err-clause-answered g c =
    answered_after g.N.Node g.V.Observer c.args.self.now c.try_quick_to.new.self _ c.args.event.now _
    (c.try_quick_to.ensures.stands c.if-try_quick_to.false) c.in-Err.ensures.answered

pub returns-in-Ok-clause-accepted : goal.returns-in-Ok-clause-accepted
returns-in-Ok-clause-accepted g c = λ setting run stands.
    c.in-Ok.ensures.accepted setting run (c.try_quick_to.ensures.stands c.if-try_quick_to.false setting run stands)
