use Rattle.std.proofs.Common.{sym}
use Rattle.sd_commands.proofs.replay.Reporting.{latest_behind}
use Rattle.sd_commands.proofs.replay.observer.WaitObserverObserver.seen.Goals as goal

pub returns-clause-told : goal.returns-clause-told
returns-clause-told c = λ reports stands. record { waits = c.seen.ensures.told reports stands.waits; device = sym (latest_behind reports _) }
