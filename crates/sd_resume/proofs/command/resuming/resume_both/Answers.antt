use Rattle.sd_resume.proofs.command.resuming.resume_both.Goals as goal

pub returns-clause-makes : goal.returns-clause-makes
returns-clause-makes g c = c.resume_beside-made.ensures.makes c.in_ok-one.ensures
