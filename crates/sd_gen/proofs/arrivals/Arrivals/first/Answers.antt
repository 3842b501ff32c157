use Rattle.std.specs.BinaryHeap.{heap_items}
use Rattle.std.proofs.Common.{sym, arith}
use Rattle.sd_gen.proofs.arrivals.Soonest.{first_is, none_is}
use Rattle.sd_gen.proofs.arrivals.Arrivals.first.Goals as goal

pub returns-in-Some-clause-first : goal.returns-in-Some-clause-first
returns-in-Some-clause-first c top waiting stands =
    sym (first_is c.in-Some.field-0.now (heap_items c.args.self.now.heap) top waiting stands.numbers stands.same c.in-Some.ensures.item.3.0
    c.in-Some.ensures.lookup
    (c.in-Some.ensures.greatest c.args.self.now.ordered))

pub returns-in-None-clause-first : goal.returns-in-None-clause-first
returns-in-None-clause-first c top waiting stands =
    let empty = c.in-None.ensures.item.3 in sym (none_is (heap_items c.args.self.now.heap) waiting stands.same (omega (arith, empty)))
