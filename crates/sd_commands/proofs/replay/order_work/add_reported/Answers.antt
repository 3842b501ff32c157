use Rattle.std.proofs.Common.{arith}
use Rattle.sd_commands.proofs.replay.Working.{order_reports, order_silent}
use Rattle.sd_commands.proofs.replay.order_work.add_reported.Goals as goal

pub returns-in_ok-add_waits : goal.returns-in_ok-add_waits
returns-in_ok-add_waits c =
    λ setting events line was takes.
    order_reports setting events line c.args.replayed.now.text.items c.add_waits.new.replayed.text.items c.args.replayed.now.replay
    c.add_waits.new.replayed.replay c.add_waits.ensures.same c.args.before c.reports.result was
    (λ more r. c.reports.ensures setting more r) c.if-reports-before.true
    (λ more r. c.in_ok-add_waits.ensures.text setting more r) takes

pub returns-else-reports-before : goal.returns-else-reports-before
returns-else-reports-before c =
    λ setting events line was takes.
    order_silent setting events line c.args.replayed.now.text.items c.args.replayed.now.replay c.args.before c.reports.result was
    (λ more r. c.reports.ensures setting more r) (λ more. omega (arith, more, c.if-reports-before.false)) takes
