use Rattle.std.proofs.Common.{Err, Ok}
use Rattle.sd_plan.specs.topo.Topologies.{network}
use Rattle.sd_files.proofs.work.Writing.{adds_handed_on}
use Rattle.sd_commands.proofs.twoway.Standing.{adds_work}
use Rattle.sd_commands.proofs.twoway.work.ExchangesLineWork.finish.Goals as goal

pub returns-in_err-write_bounds-clause-writes : goal.returns-in_err-write_bounds-clause-writes
returns-in_err-write_bounds-clause-writes g c =
    λ work xs does. adds_handed_on (Unit {0}) c.from_residual.result _ _ _ _ c.from_residual.ensures.1
    (adds_work (Unit {0}) (network c.args.self.now.topo.now) c.args.self.now.tally work xs (g.O.Sink.written c.args.out.now)
    (g.O.Sink.written c.write_bounds.new.out) (Err c.in_err-write_bounds.field-0.0) c.args.self.now.fits does
    c.in_err-write_bounds.ensures.writes)

pub returns-clause-writes : goal.returns-clause-writes
returns-clause-writes g c =
    λ work xs does. adds_work (Unit {0}) (network c.args.self.now.topo.now) c.args.self.now.tally work xs (g.O.Sink.written c.args.out.now)
    (g.O.Sink.written c.write_bounds.new.out) (Ok c.in_ok-write_bounds.field-0) c.args.self.now.fits does c.in_ok-write_bounds.ensures.writes
