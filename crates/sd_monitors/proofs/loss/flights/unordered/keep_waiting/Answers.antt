use Rattle.std.proofs.Common.{◌≡◌, filter, subst, rules, List}
use Rattle.std.specs.List.Sorted.{IsPermutation}
use Rattle.std.specs.BinaryHeap.{heap_items}
use Rattle.std.proofs.lemmas.Fn.{filter_same}
use Rattle.sd_monitors.specs.loss.flights.UnorderedKept.{Entry, flight_in, is_waiting}
use Rattle.sd_monitors.proofs.loss.flights.Listing.{listed_waiting, all_waiting}
use Rattle.sd_monitors.proofs.loss.flights.unordered.keep_waiting.Goals as goal

-- in another order they are those of flights that wait
entries : (c : goal.After-retain)
    → IsPermutation (filter (is_waiting (flight_in c.args.flights.now)) (heap_items c.args.dues.now)) (heap_items c.retain.new.self)
entries c =
    let told = c.retain.ensures.filtered in
    let is : told.0 ≡ filter (is_waiting (flight_in c.args.flights.now)) (heap_items c.args.dues.now) =
    filter_same _ (is_waiting (flight_in c.args.flights.now)) _ (λ x b f' called. search rules) (heap_items c.args.dues.now) told.0 told.1 in
    subst (λ (es : List Entry). IsPermutation es (heap_items c.retain.new.self)) is told.2

pub returns-clause-listed : goal.returns-clause-listed
returns-clause-listed c h = listed_waiting (flight_in c.args.flights.now) (heap_items c.args.dues.now) (heap_items c.retain.new.self) h (entries c)

pub returns-clause-kept : goal.returns-clause-kept
returns-clause-kept c = all_waiting (flight_in c.args.flights.now) (heap_items c.args.dues.now) (heap_items c.retain.new.self) (entries c)
