use Rattle.std.proofs.Common.{sym, ap, ◌∙◌}
use Rattle.sd_monitors.specs.clocks.Sights.{sight_of}
use Rattle.sd_monitors.specs.clocks.Drifts.{DriftKept}
use Rattle.sd_monitors.proofs.clocks.Holding.{stands_unread}
use Rattle.sd_monitors.proofs.clocks.drift.DriftMonitor.observe.Goals as goal

pub returns-in-Some-clause-stands : goal.returns-in-Some-clause-stands
returns-in-Some-clause-stands c setting earlier stands may = c.read.ensures.stands setting earlier (sight_of c.args.seen.now)
    (record { reading = sym c.reading_of.ensures ∙ c.in-Some.is; life = c.begins_life-begins.ensures }) stands may

pub returns-in-Some-clause-holds : goal.returns-in-Some-clause-holds
returns-in-Some-clause-holds c setting earlier stands may = c.read.ensures.holds setting earlier (sight_of c.args.seen.now)
    (record { reading = sym c.reading_of.ensures ∙ c.in-Some.is; life = c.begins_life-begins.ensures }) stands may

pub returns-in-None-clause-stands : goal.returns-in-None-clause-stands
returns-in-None-clause-stands c setting earlier stands may =
    stands_unread setting c.args.self.now earlier (sight_of c.args.seen.now) (sym c.reading_of.ensures ∙ c.in-None.is) stands may

pub returns-in-None-clause-holds : goal.returns-in-None-clause-holds
returns-in-None-clause-holds c setting earlier stands may =
    ap (λ (kept : DriftKept). kept.holds) c.self.view_is ∙ (returns-in-None-clause-stands c setting earlier stands may).holds
