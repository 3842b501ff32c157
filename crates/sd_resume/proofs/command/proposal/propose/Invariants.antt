use Rattle.std.proofs.Common.{◌≡◌}
use Rattle.sd_resume.specs.Numbers.{shift_of}
use Rattle.sd_resume.specs.Told.{shift_told, stamp_at}
use Rattle.sd_resume.proofs.command.proposal.propose.Given as goal

-- the shift is told by the devices before
abbrev pub invariant-loop-d : goal.invariant-loop-d
invariant-loop-d l = shift_of l.shift ≡ shift_told l.left l.messages (stamp_at l.one) (stamp_at l.other) l.d
