use Rattle.std.proofs.Common.{◌≡◌, ◌++◌, take}
use Rattle.sd_replay.specs.wait.Waiting.{ended_bytes}
use Rattle.sd_replay.proofs.wait.printing.add_ended.Given as goal

abbrev pub invariant-loop-t : goal.invariant-loop-t
invariant-loop-t l = l.text.items ≡ l.fn.text.items ++ ended_bytes l.line (take l.t-index l.ended)
