use Rattle.std.proofs.Common.{◌∙◌, ap}
use Rattle.sd_monitors.specs.loss.flights.OrderlyKept.{waits_at}
use Rattle.sd_monitors.proofs.loss.flights.InOrder.{pushed}
use Rattle.sd_monitors.proofs.loss.flights.orderly.Orderly.add.Goals as goal

pub returns-clause-flights : goal.returns-clause-flights
returns-clause-flights c n = ap (λ es. waits_at es n) c.push_back_reserved.ensures.items ∙ pushed n c.args.self.now.entries.items c.args.flight c.requires.order
