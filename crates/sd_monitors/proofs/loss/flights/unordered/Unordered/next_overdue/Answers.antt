use Rattle.std.specs.BinaryHeap.{heap_items}
use Rattle.sd_monitors.specs.loss.flights.UnorderedKept.{flight_in}
use Rattle.sd_monitors.proofs.loss.flights.Listing.{listed_taken, none_overdue}
use Rattle.sd_monitors.proofs.loss.flights.unordered.Unordered.next_overdue.Goals as goal

pub invariant_of-self : goal.invariant_of-self
invariant_of-self c =
    let was = c.entries.self in
    let popped = c.in-Some.ensures.popped in
    record {
      listed = listed_taken (flight_in was.flights) (flight_in c.take_overdue.new.flights) (heap_items was.dues)
          (heap_items c.pop_before.new.dues) popped.0 c.in-Some.number c.args.reference c.take_overdue.result
          was.listed popped.1 popped.2 c.take_overdue.ensures.flights c.take_overdue.ensures.none;
      heap = c.in-Some.ensures.heap;
    }

pub returns-clause-none : goal.returns-clause-none
returns-clause-none c =
    let was = c.entries.self in
    none_overdue (flight_in was.flights) (heap_items was.dues) c.args.reference was.listed c.in_default.ensures.none
