use Rattle.std.proofs.Common.{take}
use Rattle.sd_planner.specs.Flags.{AreSet}
use Rattle.sd_planner.proofs.backups.flags.set_flags.Given as goal

abbrev pub invariant-loop-number : goal.invariant-loop-number
invariant-loop-number l = AreSet (take l.number-index l.numbers) l.value l.fn.flags l.flags
