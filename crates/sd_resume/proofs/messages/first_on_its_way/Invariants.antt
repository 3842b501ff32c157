use Rattle.sd_resume.specs.Messages.{HasNoneOnItsWay}
use Rattle.sd_resume.proofs.messages.first_on_its_way.Given as goal

-- none of those before is on its way
abbrev pub invariant-loop-before : goal.invariant-loop-before
invariant-loop-before l = HasNoneOnItsWay l.fleet l.before
