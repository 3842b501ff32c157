use Rattle.std.proofs.Common.{◌≡◌, None, nat_eq, cond, ◌∙◌, ap}
use Rattle.sd_monitors.specs.declared.loss.flights.orderly.Entry.{Entry}
use Rattle.sd_monitors.specs.loss.flights.OrderlyKept.{waits_at}
use Rattle.sd_monitors.proofs.loss.flights.InOrder.{waits_there, struck_out}
use Rattle.sd_monitors.proofs.loss.flights.orderly.strike.Goals as goal

pub returns-clause-waited : goal.returns-clause-waited
returns-clause-waited c number here =
    let entry = c.index_mut-entry.result.now in
    waits_there number c.args.entries.now.items c.args.place entry c.requires.order c.requires.place c.index_mut-entry.ensures.value (here entry)

pub returns-clause-flights : goal.returns-clause-flights
returns-clause-flights c number here n =
    let entry = c.index_mut-entry.result.now in
    let entries = c.args.entries.now.items in
    let same : entry.flight.number ≡ number = ap (λ (e : Entry). e.flight.number) c.index_mut-entry.ensures.value ∙ here entry in
    struck_out n entries c.args.place entry c.requires.order c.requires.place c.index_mut-entry.ensures.value
    ∙ ap (λ m. cond (nat_eq m n) None (waits_at entries n)) same
