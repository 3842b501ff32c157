use Rattle.std.proofs.Common.{sym}
use Rattle.sd_monitors.specs.clocks.Sights.{sight_of}
use Rattle.sd_monitors.proofs.clocks.delay.DelayMonitor.observe.Goals as goal

pub returns-in-Some-clause-stands : goal.returns-in-Some-clause-stands
returns-in-Some-clause-stands c setting earlier net =
    c.read.ensures.stands setting earlier (sight_of c.args.seen.now) net (sym c.reference.ensures) c.in-Some.is

pub returns-in-Some-clause-holds : goal.returns-in-Some-clause-holds
returns-in-Some-clause-holds c setting earlier net =
    c.read.ensures.holds setting earlier (sight_of c.args.seen.now) net (sym c.reference.ensures) c.in-Some.is
