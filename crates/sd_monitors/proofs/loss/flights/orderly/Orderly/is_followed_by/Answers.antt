use Rattle.std.proofs.Common.{◌-◌, arith, sym, subst}
use Rattle.std.specs.VecDeque.{deque_len}
use Rattle.std.proofs.lemmas.Bool.{le-leb, leb-true}
use Rattle.sd_monitors.specs.declared.loss.flights.orderly.Entry.{Entry}
use Rattle.sd_monitors.specs.loss.flights.OrderlyKept.{IsBefore}
use Rattle.sd_monitors.proofs.loss.flights.InOrder.{before_all}
use Rattle.sd_monitors.proofs.loss.flights.orderly.Orderly.is_followed_by.Goals as goal

pub returns-then-last-flight : goal.returns-then-last-flight
returns-then-last-flight c =
    let deque = c.args.self.now.entries in
    let place = deque_len deque - 1 in
    let last = c.in-Some.last.now in
    let flight = c.args.flight.now in
    let seen = c.in-Some.ensures.item.3 in (
      λ no_later. before_all deque.items place last flight c.args.self.now.order (omega (arith, seen.0, deque.ok.0)) seen.1
          (c.if-last-flight.true, leb-true last.flight.due flight.due no_later),
      λ before. le-leb last.flight.due flight.due
          (subst (λ (e : Entry). IsBefore e.flight flight) (sym (seen.1 last)) (before place last (omega (arith, seen.0, deque.ok.0)))).1,
    )
