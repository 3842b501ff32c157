use Rattle.std.proofs.Common.{sym, ap, ◌∙◌, subst, arith}
use Rattle.sd_monitors.specs.clocks.Tickings.{TickKept, TickStands}
use Rattle.sd_monitors.specs.clocks.TickView.{tick_kept}
use Rattle.sd_monitors.proofs.clocks.Passing.{receipt_passes}
use Rattle.sd_monitors.proofs.clocks.tick.TickMonitor.receive.Goals as goal

pub returns-clause-stands : goal.returns-clause-stands
returns-clause-stands c setting earlier s device counter message is may stood =
    let stands : TickStands setting (tick_kept c.self.inside) earlier =
    subst (λ (kept : TickKept). TickStands setting kept earlier) (sym c.self.view_is) stood in
    receipt_passes setting s earlier c.args.reference device counter message (tick_kept c.self.inside) _ is may (omega arith)
    (ap (λ owed. record (tick_kept c.self.inside) { holds = c.holds_still-self-inside.result; owed = owed }) c.holds_still-self-inside.ensures.same
    ∙ ap (λ holds. record (tick_kept c.self.inside) { holds = holds }) c.holds_still-self-inside.ensures.answer)
    stands

pub returns-clause-holds : goal.returns-clause-holds
returns-clause-holds c setting earlier s device counter message is may stands =
    (returns-clause-stands c setting earlier s device counter message is may stands).holds
