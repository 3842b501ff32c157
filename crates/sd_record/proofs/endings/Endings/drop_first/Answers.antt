use Rattle.std.proofs.Common.{arith}
use Rattle.std.specs.BinaryHeap.{heap_items}
use Rattle.std.proofs.lemmas.List.Sorted.{length_permutation}
use Rattle.sd_record.proofs.Listing.{listed_before, listed_less}
use Rattle.sd_record.proofs.endings.Endings.drop_first.Goals as goal

pub returns-clause-kept : goal.returns-clause-kept
returns-clause-kept c =
    λ ending there.
    (let items = heap_items c.args.self.now.heap in
    let count = length_permutation items _ c.in-Some.ensures.permutation in
    listed_less items (heap_items c.pop.new.self) c.in-Some.field-0 ending (omega (arith, count)) c.in-Some.ensures.top c.in-Some.ensures.permutation
    there)

pub returns-clause-less : goal.returns-clause-less
returns-clause-less c =
    λ ending there.
    listed_before (heap_items c.args.self.now.heap) (heap_items c.pop.new.self) c.in-Some.field-0 ending c.in-Some.ensures.permutation there
