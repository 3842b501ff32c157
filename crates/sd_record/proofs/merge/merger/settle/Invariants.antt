use Rattle.std.proofs.Common.{length}
use Rattle.sd_record.specs.merge.Queues.{HasLeft, merged_waiting}
use Rattle.sd_record.proofs.merge.merger.settle.Given as goal

abbrev pub invariant-lines : goal.invariant-lines
invariant-lines l = HasLeft l.fn.logs l.logs l.fn.text.items l.text.items

abbrev pub decreases-lines : goal.decreases-lines
decreases-lines l = length (merged_waiting l.logs)
