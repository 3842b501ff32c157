use Rattle.std.proofs.Common.{subst, take, ℕ, Option}
use Rattle.sd_files.specs.work.Taking.{TakesFront}
use Rattle.sd_files.specs.declared.work.Taken.TheVariants as taken
use Rattle.sd_replay.specs.Devices.{HasReplayed}
use Rattle.sd_commands.specs.replay.Replays.{replay_work}
use Rattle.sd_commands.specs.contracts.replay.observer.WaitObserverObserver.TheImpl.{ghosts}
use Rattle.sd_commands.proofs.replay.Working.{order_stays, order_takes}
use Rattle.sd_commands.proofs.replay.order_work.OrderWorkLineWork.take_front.Goals as goal

pub returns-in_ok-add_reported-in-Some-clause-takes :
    goal.returns-in_ok-add_reported-in-Some-clause-takes
returns-in_ok-add_reported-in-Some-clause-takes c =
    order_takes c.args.self.now (record { replayed = c.add_reported.new.replayed }) (take c.in-Some.len c.args.text.now) c.add_reported.new.replayed.text.items
    taken.Accepted
    (λ setting events replayed.
    c.in_ok-add_reported-in-Some.ensures setting events (take c.in-Some.len c.args.text.now) (c.reports-reports.ensures setting events replayed)
    (subst
    (λ (found : Option ℕ). TakesFront (replay_work setting) events c.args.text.now (HasReplayed ghosts c.step_front.new.self.replay setting)
    c.step_front.new.self.text.items found)
    c.in-Some.is (c.in_ok-len.ensures.takes setting events replayed)))

pub returns-in-None-clause-takes : goal.returns-in-None-clause-takes
returns-in-None-clause-takes c =
    order_stays c.args.self.now (record { replayed = c.step_front.new.self })
    (λ setting events replayed.
    subst
    (λ (found : Option ℕ). TakesFront (replay_work setting) events c.args.text.now (HasReplayed ghosts c.step_front.new.self.replay setting)
    c.step_front.new.self.text.items found)
    c.in-None.is (c.in_ok-len.ensures.takes setting events replayed))
