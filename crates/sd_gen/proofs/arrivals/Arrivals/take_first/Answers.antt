use Rattle.std.proofs.Common.{arith}
use Rattle.std.specs.BinaryHeap.{heap_items}
use Rattle.std.proofs.lemmas.List.Sorted.{length_permutation}
use Rattle.sd_gen.proofs.arrivals.Soonest.{first_is, rest_is, numbered_without, took}
use Rattle.sd_gen.proofs.arrivals.Arrivals.take_first.Goals as goal

pub returns : goal.returns
returns c top waiting stands =
    let x = c.in-Some.field-0 in
    let items = heap_items c.args.self.now.heap in
    let rest = heap_items c.pop.new.self in
    let popped = c.in-Some.ensures.permutation in
    let count = length_permutation items _ popped in
    let is = first_is x items top waiting stands.numbers stands.same (omega (arith, count)) c.in-Some.ensures.top
    (c.in-Some.ensures.heap_order c.args.self.now.ordered).1 in
    took _ x.0 top waiting is
    (record {
      numbers = numbered_without 0 top x.0.number waiting stands.numbers;
      same = rest_is x items rest top waiting stands.numbers stands.same (omega (arith, count)) c.in-Some.ensures.top popped;
    })
