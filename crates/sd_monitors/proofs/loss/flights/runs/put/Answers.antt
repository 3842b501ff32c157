use Rattle.sd_monitors.proofs.loss.flights.runs.put.Goals as goal

pub returns-clause-beside : goal.returns-clause-beside
returns-clause-beside c t r = c.in-Ok.ensures.updates.0 (t, r)
