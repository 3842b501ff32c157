use Rattle.std.specs.BinaryHeap.{heap_items}
use Rattle.sd_monitors.specs.loss.flights.UnorderedKept.{flight_in}
use Rattle.sd_monitors.proofs.loss.flights.Listing.{listed_more}
use Rattle.sd_monitors.proofs.loss.flights.unordered.Unordered.add.Goals as goal

pub invariant_of-self : goal.invariant_of-self
invariant_of-self c =
    record {
      listed = listed_more (flight_in c.args.self.now.flights) (flight_in c.keep.new.flights) (heap_items c.args.self.now.dues)
          (heap_items c.list.new.dues) c.args.flight
          c.args.self.now.listed c.keep.ensures.flights c.list.ensures.entries;
      heap = c.list.ensures.heap;
    }
