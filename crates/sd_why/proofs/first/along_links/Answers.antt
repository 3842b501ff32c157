use Rattle.sd_why.proofs.first.along_links.Goals as goal

pub deep_from_all-requires-clause-connected : goal.deep_from_all-requires-clause-connected
deep_from_all-requires-clause-connected c = c.in_ok-reason.ensures.connected c.in_default.is
