use Rattle.std.proofs.Common.{Bool, subst}
use Rattle.sd_resume.specs.Messages.{HasSent}
use Rattle.sd_resume.proofs.comparing.compare_messages.Goals as goal

pub returns-in-None-clause-agree : goal.returns-in-None-clause-agree
returns-in-None-clause-agree c =
    record {
      sent = subst (λ (b : Bool). HasSent c.args.first.now c.args.shift.now.messages b) c.if-not-has_sent.false c.has_sent.ensures;
      sent_none = subst (λ (b : Bool). HasSent c.args.second.now 0 b) c.if-not-has_sent-2.false c.has_sent-2.ensures;
      quiet = c.first_on_its_way.ensures.none c.in-None.is;
    }
