use Rattle.sd_history.specs.World.{setting_over}
use Rattle.sd_resume.specs.law.Law.{whole}
use Rattle.sd_resume.proofs.command.Agreed.{agreed_makes, dishonest_makes}
use Rattle.sd_resume.proofs.command.comparing.compare_premises.Goals as goal

pub returns-in-Ok-clause-makes : goal.returns-in-Ok-clause-makes
returns-in-Ok-clause-makes c =
    λ shift net front plans events others opened.
    agreed_makes shift net front plans c.args.one.now c.args.other.now events others opened c.count.result c.count-in-Ok.result c.agree_answer.result
    (rw (c.premises.ensures.lent, c.premises-2.ensures.lent) at c.in-Ok.ensures.honest)
    (c.count.ensures.count (whole net front plans) events opened.first) (c.count-in-Ok.ensures.count (setting_over net plans) others opened.second)
    c.agree_answer.ensures.text c.agree_answer.ensures.status c.agree_answer.ensures.only

pub returns-in-Err-clause-makes : goal.returns-in-Err-clause-makes
returns-in-Err-clause-makes c =
    λ shift net front plans events others opened.
    dishonest_makes shift net front plans c.args.one.now c.args.other.now events others opened c.in-Err.dishonesty c.dishonest_answer.result
    (rw (c.premises.ensures.lent, c.premises-2.ensures.lent) at c.in-Err.ensures.differs) c.dishonest_answer.ensures.text
    c.dishonest_answer.ensures.status c.dishonest_answer.ensures.only
