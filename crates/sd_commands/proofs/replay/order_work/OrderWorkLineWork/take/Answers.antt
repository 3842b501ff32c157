use Rattle.std.proofs.Common.{subst}
use Rattle.sd_files.specs.work.Taking.{Takes}
use Rattle.sd_files.specs.declared.work.Taken.{Taken}
use Rattle.sd_files.specs.declared.work.Taken.TheVariants as taken
use Rattle.sd_replay.specs.Devices.{HasReplayed}
use Rattle.sd_commands.specs.replay.Replays.{replay_work}
use Rattle.sd_commands.specs.contracts.replay.observer.WaitObserverObserver.TheImpl.{ghosts}
use Rattle.sd_commands.proofs.replay.Working.{order_takes}
use Rattle.sd_commands.proofs.replay.order_work.OrderWorkLineWork.take.Goals as goal

pub returns-in_ok-add_reported-in-Accepted-clause-takes :
    goal.returns-in_ok-add_reported-in-Accepted-clause-takes
returns-in_ok-add_reported-in-Accepted-clause-takes c =
    order_takes c.args.self.now (record { replayed = c.add_reported.new.replayed }) c.args.line.now c.add_reported.new.replayed.text.items taken.Accepted
    (λ setting events replayed.
    c.in_ok-add_reported-in-Accepted.ensures setting events c.args.line.now (c.reports-reports.ensures setting events replayed)
    (subst (λ (w : Taken). Takes (replay_work setting) events c.args.line.now (HasReplayed ghosts c.step.new.self.replay setting) c.step.new.self.text.items w)
    c.in-Accepted.is (c.in_ok-step.ensures.takes setting events replayed)))

pub returns-in-Refused-clause-takes : goal.returns-in-Refused-clause-takes
returns-in-Refused-clause-takes c =
    order_takes c.args.self.now (record { replayed = c.step.new.self }) c.args.line.now c.step.new.self.text.items taken.Refused (λ setting events replayed.
    subst (λ (w : Taken). Takes (replay_work setting) events c.args.line.now (HasReplayed ghosts c.step.new.self.replay setting) c.step.new.self.text.items w)
    c.in-Refused.is (c.in_ok-step.ensures.takes setting events replayed))
