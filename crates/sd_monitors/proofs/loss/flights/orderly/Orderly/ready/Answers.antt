use Rattle.std.proofs.Common.{◌≡◌, true, sym, ◌∙◌, ap, subst}
use Rattle.std.specs.List.{All}
use Rattle.sd_monitors.specs.declared.loss.flights.orderly.Entry.{Entry}
use Rattle.sd_monitors.specs.loss.flights.OrderlyKept.{waits_at, AreInOrder}
use Rattle.sd_monitors.proofs.loss.flights.orderly.Orderly.ready.Goals as goal

pub invariant_of-self : goal.invariant_of-self
invariant_of-self c = record { order = subst AreInOrder (sym c.reserve_exact.ensures.items) (c.drop_all_received.ensures.order c.args.self.now.order) }

pub returns-in-Ok-clause-flights : goal.returns-in-Ok-clause-flights
returns-in-Ok-clause-flights c n = ap (λ es. waits_at es n) c.reserve_exact.ensures.items ∙ c.drop_all_received.ensures.flights n

pub returns-in-Ok-clause-kept : goal.returns-in-Ok-clause-kept
returns-in-Ok-clause-kept c roomless =
    subst (All (λ (e : Entry). e.waits ≡ true)) (sym c.reserve_exact.ensures.items) c.drop_all_received.ensures.waiting

pub returns-in-Err-clause-flights : goal.returns-in-Err-clause-flights
returns-in-Err-clause-flights c n = ap (λ es. waits_at es n) c.reserve_exact.ensures.items ∙ c.drop_all_received.ensures.flights n

pub returns-in-Err-clause-kept : goal.returns-in-Err-clause-kept
returns-in-Err-clause-kept c roomless =
    subst (All (λ (e : Entry). e.waits ≡ true)) (sym c.reserve_exact.ensures.items) c.drop_all_received.ensures.waiting
