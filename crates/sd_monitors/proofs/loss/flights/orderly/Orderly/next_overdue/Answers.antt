use Rattle.std.proofs.Common.{◌≤◌, None, nat_eq, cond, sym, ◌∙◌, ap, subst, arith}
use Rattle.sd_monitors.specs.declared.loss.flights.orderly.Entry.{Entry}
use Rattle.sd_monitors.specs.loss.flights.OrderlyKept.{waits_at, AreInOrder}
use Rattle.sd_monitors.proofs.loss.flights.InOrder.{order_rest, without_waiting, late, all_late}
use Rattle.sd_monitors.proofs.loss.flights.orderly.Orderly.next_overdue.Goals as goal

pub returns-in_default-clause-none : goal.returns-in_default-clause-none
returns-in_default-clause-none c n f at =
    let entries = c.drop_received.new.entries.items in
    let seen = c.in-Some.ensures.item.3 in
    let order = c.drop_received.ensures.order c.args.self.now.order in
    late c.args.reference n f entries
    (all_late c.args.reference entries order
    (λ d _. subst (λ (e : Entry). c.args.reference ≤ e.flight.due) (seen.1 d) (omega (arith, c.if-first-reference.false)))) at

pub invariant_of-self-2 : goal.invariant_of-self-2
invariant_of-self-2 c =
    let order = c.drop_received.ensures.order c.args.self.now.order in
    record { order = subst AreInOrder (sym c.pop_front.ensures.rest) (order_rest c.drop_received.new.entries.items order) }

pub returns-clause-flights : goal.returns-clause-flights
returns-clause-flights c n =
    let entry = c.in-Some-pop_front.entry in
    let items = c.in-Some-pop_front.ensures.items in
    let order = subst AreInOrder items (c.drop_received.ensures.order c.args.self.now.order) in
    without_waiting n entry c.pop_front.new.self.items order
    ∙ ap (λ o. cond (nat_eq entry.flight.number n) None o) (ap (λ es. waits_at es n) (sym items) ∙ c.drop_received.ensures.flights n)
