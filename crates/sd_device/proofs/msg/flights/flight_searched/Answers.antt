use Rattle.sd_device.proofs.msg.Places.{none_there}
use Rattle.sd_device.proofs.msg.flights.flight_searched.Goals as goal

pub returns-then-flight-number-clause-none : goal.returns-then-flight-number-clause-none
returns-then-flight-number-clause-none c top h =
    let place = c.place_from-place in
    let seen = c.in_ok-flight.ensures.item.3 in
    none_there top c.args.number c.args.flights.now.items place.result c.in_ok-flight.flight.now h (place.ensures.before top h) (place.ensures.after top h)
    seen.0 seen.1 c.if-flight-number.true
