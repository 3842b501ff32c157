use Rattle.std.proofs.Common.{◌≤◌, subst, arith}
use Rattle.std.proofs.lemmas.Bool.{ltb-false}
use Rattle.sd_monitors.specs.declared.loss.flights.orderly.Entry.{Entry}
use Rattle.sd_monitors.proofs.loss.flights.InOrder.{late, all_late}
use Rattle.sd_monitors.proofs.loss.flights.orderly.Orderly.may_be_overdue.Goals as goal

pub returns-in-Some : goal.returns-in-Some
returns-in-Some c not_past n f at =
    let entries = c.args.self.now.entries.items in
    let seen = c.in-Some.ensures.item.3 in
    let due = ltb-false c.in-Some.first.now.flight.due c.args.reference not_past in
    late c.args.reference n f entries
    (all_late c.args.reference entries c.args.self.now.order
    (λ d _. subst (λ (e : Entry). c.args.reference ≤ e.flight.due) (seen.1 d) (omega (arith, due)))) at
