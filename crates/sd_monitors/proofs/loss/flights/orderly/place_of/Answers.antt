use Rattle.sd_monitors.proofs.loss.flights.InOrder.{none_there}
use Rattle.sd_monitors.proofs.loss.flights.orderly.place_of.Goals as goal

pub returns-in_default-get-clause-none : goal.returns-in_default-get-clause-none
returns-in_default-get-clause-none c =
    let place = c.place_from-place in
    let seen = c.in-Some-get.ensures.item.3 in
    none_there c.args.number c.args.entries.now.items place.result c.in-Some-get.entry.now c.requires place.ensures.before place.ensures.after seen.0 seen.1
    c.if-entry-number.false
