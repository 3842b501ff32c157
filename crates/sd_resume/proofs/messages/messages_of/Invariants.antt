use Rattle.std.proofs.Common.{◌≤◌, ◌-◌}
use Rattle.sd_resume.specs.Messages.{HasSentWithin}
use Rattle.sd_resume.proofs.messages.messages_of.Given as goal

-- the count lies between the two
abbrev pub invariant-loop-least : goal.invariant-loop-least
invariant-loop-least l =
    record {
      some : l.least ≤ l.most;
      within : HasSentWithin l.fleet l.least l.most;
    }

abbrev pub decreases-loop-least : goal.decreases-loop-least
decreases-loop-least l = l.most - l.least
