use Rattle.std.proofs.Common.{ap, nat_eq}
use Rattle.sd_resume.proofs.messages.has_sent.Goals as goal

pub returns : goal.returns
returns c = λ setting run stands. ap (λ n. nat_eq n c.args.messages) (c.messages_of.ensures setting run stands)
