use Rattle.std.proofs.Common.{◌≡◌, drop}
use Rattle.sd_replay.specs.wait.Waiting.{worst_among}
use Rattle.sd_replay.proofs.wait.transactions.worst_of.Given as goal

abbrev pub invariant-loop-t : goal.invariant-loop-t
invariant-loop-t l = worst_among l.worst (drop l.t-index l.ended) ≡ worst_among l.fn.first l.ended
