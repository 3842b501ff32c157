use Rattle.std.specs.BinaryHeap.{heap_items}
use Rattle.sd_monitors.specs.loss.flights.UnorderedKept.{flight_in}
use Rattle.sd_monitors.proofs.loss.flights.Listing.{none_overdue}
use Rattle.sd_monitors.proofs.loss.flights.unordered.Unordered.may_be_overdue.Goals as goal

pub returns : goal.returns
returns c none = none_overdue (flight_in c.args.self.now.flights) (heap_items c.args.self.now.dues) c.args.reference c.args.self.now.listed
    (c.begin_before.ensures none)
