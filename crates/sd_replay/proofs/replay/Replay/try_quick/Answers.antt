-- What happened by the numbers of the event is the event itself.
use Rattle.std.proofs.Common.{Option, option_map, sym, subst}
use Rattle.sd_sched.specs.declared.Event.{Event}
use Rattle.sd_fleet.specs.declared.messages.Sent.{Sent}
use Rattle.sd_replay.specs.Replaying.{IsTried, ticked}
use Rattle.sd_replay.proofs.replay.Replay.try_quick.Given.{Over}
use Rattle.sd_replay.proofs.replay.Replay.try_quick.Goals.{After-tick}
use Rattle.sd_replay.proofs.replay.Replay.try_quick.Goals as goal

-- a tick was tried
tried : (g : Over) (c : After-tick g) → IsTried g.N.Node g.V.Observer c.args.self.now c.tick.new.self c.args.event.now (option_map ticked c.tick.result)
tried g c =
    subst (λ (e : Event). IsTried g.N.Node g.V.Observer c.args.self.now c.tick.new.self e (option_map ticked c.tick.result)) (sym c.in-Tick.is) c.tick.ensures

pub returns-in-Some : goal.returns-in-Some
returns-in-Some g c =
    subst (λ (sent : Option Sent). IsTried g.N.Node g.V.Observer c.args.self.now c.tick.new.self c.args.event.now (option_map ticked sent)) c.in-Some.is (tried g c.before)

pub returns-in-None : goal.returns-in-None
returns-in-None g c =
    subst (λ (sent : Option Sent). IsTried g.N.Node g.V.Observer c.args.self.now c.tick.new.self c.args.event.now (option_map ticked sent)) c.in-None.is (tried g c.before)

pub returns-in-Recv : goal.returns-in-Recv
returns-in-Recv g c =
    subst (λ (e : Event). IsTried g.N.Node g.V.Observer c.args.self.now c.hear.new.self e c.hear.result) (sym c.in-Recv.is) c.hear.ensures

pub returns-in_default : goal.returns-in_default
returns-in_default g c = record { accepted = tt; stands = λ no setting run stands. stands }
