use Rattle.std.proofs.Common.{ℕ, ◌-◌, ◌<◌, ◌^◌, ◌==◌, List, length, get_or, if◌then◌else◌, refl, sym, ap, ◌∙◌, subst, arith}
use Rattle.sd_monitors.specs.clocks.Tickings.{TickKept, TickStands}
use Rattle.sd_monitors.specs.clocks.TickView.{tick_kept}
use Rattle.sd_monitors.proofs.clocks.Passing.{tick_passes}
use Rattle.sd_monitors.proofs.clocks.tick.TickMonitor.tick.Goals as goal

pub returns-clause-stands : goal.returns-clause-stands
returns-clause-stands c setting earlier s counter is may low stood =
    let stands : TickStands setting (tick_kept c.self.inside) earlier =
    subst (λ (kept : TickKept). TickStands setting kept earlier) (sym c.self.view_is) stood in
    let same = c.holds_still-self-inside.ensures.same in
    tick_passes setting s earlier c.args.reference c.args.device counter (tick_kept c.self.inside) _ is may low (omega arith)
    (record {
      within = subst (λ (kept : TickKept). c.args.device < length kept.owed) (sym c.self.view_is) c.requires;
      holds = c.holds_still-self-inside.ensures.answer;
      limit = refl;
      ticks = c.tick.ensures;
      places = c.renew.ensures.places ∙ ap (λ (xs : List ℕ). length xs) same;
      others = λ k apart. c.renew.ensures.others k apart ∙ ap (λ (xs : List ℕ). get_or xs k 0) same;
      here = c.renew.ensures.here
          ∙ ap (λ (xs : List ℕ). if get_or xs c.args.device 0 == 2 ^ 64 - 1 then 2 ^ 64 - 1 else c.args.reference) same;
    })
    stands

pub returns-clause-holds : goal.returns-clause-holds
returns-clause-holds c setting earlier s counter is may low stands = (returns-clause-stands c setting earlier s counter is may low stands).holds
