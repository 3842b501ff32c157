use Rattle.sd_monitors.proofs.loss.flights.runs.redirect.Goals as goal

pub returns-clause-beside : goal.returns-clause-beside
returns-clause-beside c t r = ((c.get_mut.follows.holds c.args.end).3 c.requires).0 (t, r)
