use Rattle.std.proofs.Common.{sym, ap}
use Rattle.std.specs.Option.{is_some}
use Rattle.sd_monitors.proofs.loss.flights.InOrder.{absent, absent_out}
use Rattle.sd_monitors.proofs.loss.flights.orderly.Orderly.receive.Goals as goal

pub returns-in-None-clause-waited : goal.returns-in-None-clause-waited
returns-in-None-clause-waited c = sym (ap is_some (absent c.args.number c.args.self.now.entries.items c.in-None.ensures.none))

pub returns-in-None-clause-flights : goal.returns-in-None-clause-flights
returns-in-None-clause-flights c n = absent_out n c.args.number c.args.self.now.entries.items c.in-None.ensures.none
