use Rattle.sd_record.proofs.endings.Endings.first_before.Goals as goal

pub returns-in_default-clause-none : goal.returns-in_default-clause-none
returns-in_default-clause-none c = λ ending there. absurd (c.in_default.ensures.none ending there)
