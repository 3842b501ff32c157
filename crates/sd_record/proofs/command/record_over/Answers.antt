use Rattle.std.proofs.Common.{List, map, string_bytes, subst, sym}
use Rattle.sd_plan.specs.topo.Topologies.{network}
use Rattle.sd_plan.specs.declared.Plan.{Plan}
use Rattle.sd_world.specs.membership.Plans.{AreSound}
use Rattle.sd_record.proofs.Recordings.{ends_early, records_behind}
use Rattle.sd_record.proofs.command.record_over.Goals as goal

-- plans that are accepted can be followed
pub record_log-requires-clause-sound : goal.record_log-requires-clause-sound
record_log-requires-clause-sound g c =
    subst (λ (plans : List Plan). AreSound (network c.args.topo.now) plans) (sym c.as_slice.ensures.value)
    (λ i plan at. record { fits = c.in-Ok.ensures.fit i plan at; structured = (c.in-Ok.ensures.accepted i plan at).structure })

pub returns-in-Ok-clause-outcome : goal.returns-in-Ok-clause-outcome
returns-in-Ok-clause-outcome g c =
    records_behind (map string_bytes c.args.files.plans.now) c.args.files.log.now (g.O.Sink.written c.args.out.now) (g.O.Sink.written c.record_log.new.out)
    c.record_log.result (network c.args.topo.now) (g.S.Shelf.held c.args.shelf.now) (g.S.Shelf.held c.load_plans.new.shelf) c.in-Ok.plans.items
    c.as_slice.result.now c.load_plans.ensures.shelf.same_held c.as_slice.ensures.value c.in-Ok.ensures.read c.in-Ok.ensures.accepted
    c.record_log.ensures.outcome

pub returns-in-Err-clause-outcome : goal.returns-in-Err-clause-outcome
returns-in-Err-clause-outcome g c =
    ends_early (map string_bytes c.args.files.plans.now) c.args.files.log.now (g.O.Sink.written c.args.out.now) (g.O.Sink.written c.write_answer.new.out)
    c.write_answer.result (network c.args.topo.now) (g.S.Shelf.held c.args.shelf.now) c.in-Err.early c.made.result c.made.ensures c.in-Err.ensures.makes
    c.write_answer.ensures.writes
