use Rattle.std.specs.BinaryHeap.{heap_items}
use Rattle.sd_gen.proofs.arrivals.Soonest.{one_more, numbered_more}
use Rattle.sd_gen.proofs.arrivals.Arrivals.add.Goals as goal

pub returns-in-Ok : goal.returns-in-Ok
returns-in-Ok c top waiting above stands =
    record {
      numbers = numbered_more 0 top waiting c.args.arrival stands.numbers above;
      same = one_more (heap_items c.args.self.now.heap) (heap_items c.push.new.self) waiting c.args.arrival stands.same c.in-Ok.ensures.permutation;
    }
