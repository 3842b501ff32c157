use Rattle.std.proofs.Common.{arith}
use Rattle.sd_device.proofs.msg.Places.{found_here, found_none}
use Rattle.sd_device.proofs.msg.flights.flight_given.Goals as goal

pub returns-in-Some-clause-flight : goal.returns-in-Some-clause-flight
returns-in-Some-clause-flight c =
    let found = c.in-Some.ensures in
    found_here c.args.last c.args.number c.args.flights.now.items c.in-Some.place c.in-Some.flight.now c.requires (omega (arith, c.if-number-eq0.false))
    (omega (arith, c.if-number-last.false)) found.place found.item found.number

pub returns-in-Some-flight_searched-clause-flight : goal.returns-in-Some-flight_searched-clause-flight
returns-in-Some-flight_searched-clause-flight c =
    let found = c.in-Some-flight_searched.ensures in
    found_here c.args.last c.args.number c.args.flights.now.items c.in-Some-flight_searched.place c.in-Some-flight_searched.flight.now c.requires
    (omega (arith, c.if-number-eq0.false)) (omega (arith, c.if-number-last.false)) found.place found.item found.number

pub returns-in-None-flight_searched-clause-fault : goal.returns-in-None-flight_searched-clause-fault
returns-in-None-flight_searched-clause-fault c =
    found_none c.args.last c.args.number c.args.flights.now.items (omega (arith, c.if-number-eq0.false)) (omega (arith, c.if-number-last.false))
    (c.in-None-flight_searched.ensures.none c.args.last c.requires)
