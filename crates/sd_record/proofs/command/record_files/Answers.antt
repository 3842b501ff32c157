use Rattle.std.proofs.Common.{map, string_bytes}
use Rattle.sd_plan.specs.topo.Topologies.{network}
use Rattle.sd_record.proofs.Lawful.{log_is_recorded}
use Rattle.sd_record.proofs.Recordings.{behind_topology, without_topology}
use Rattle.sd_record.proofs.command.record_files.Goals as goal

pub returns-in-Ok-clause-outcome : goal.returns-in-Ok-clause-outcome
returns-in-Ok-clause-outcome g c =
    behind_topology (map string_bytes c.args.files.plans.now) c.args.files.log.now (g.O.Sink.written c.args.out.now) (g.O.Sink.written c.record_over.new.out)
    c.record_over.result network c.args.files.topology.now (g.S.Shelf.held c.args.shelf.now) (g.S.Shelf.held c.load_topology.new.shelf) c.in-Ok.topo
    c.load_topology.ensures.shelf.same_held c.in-Ok.ensures.says c.record_over.ensures.outcome

pub returns-in-Err-clause-outcome : goal.returns-in-Err-clause-outcome
returns-in-Err-clause-outcome g c =
    without_topology (map string_bytes c.args.files.plans.now) c.args.files.log.now (g.O.Sink.written c.args.out.now) (g.O.Sink.written c.write_answer.new.out)
    c.write_answer.result network c.args.files.topology.now (g.S.Shelf.held c.args.shelf.now) c.in-Err.why c.in-Err.ensures.says
    c.write_answer.ensures.writes

pub returns-in-Ok-clause-lawful : goal.returns-in-Ok-clause-lawful
returns-in-Ok-clause-lawful g c = log_is_recorded

pub returns-in-Err-clause-lawful : goal.returns-in-Err-clause-lawful
returns-in-Err-clause-lawful g c = log_is_recorded
