use Rattle.std.specs.BinaryHeap.{heap_items}
use Rattle.sd_record.proofs.Listing.{listed_more, only_more, still_listed}
use Rattle.sd_record.proofs.endings.Endings.add.Goals as goal

pub returns-in-Ok-clause-added : goal.returns-in-Ok-clause-added
returns-in-Ok-clause-added c =
    listed_more (heap_items c.args.self.now.heap) (heap_items c.push.new.self) c.args.ending c.in-Ok.ensures.permutation

pub returns-in-Ok-clause-kept : goal.returns-in-Ok-clause-kept
returns-in-Ok-clause-kept c =
    λ other there.
    still_listed (heap_items c.args.self.now.heap) (heap_items c.push.new.self) c.args.ending other c.in-Ok.ensures.permutation there

pub returns-in-Ok-clause-only : goal.returns-in-Ok-clause-only
returns-in-Ok-clause-only c =
    λ other there.
    only_more (heap_items c.args.self.now.heap) (heap_items c.push.new.self) c.args.ending other c.in-Ok.ensures.permutation there
