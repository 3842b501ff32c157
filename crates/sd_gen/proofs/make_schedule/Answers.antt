use Rattle.std.proofs.Common.{refl}
use Rattle.sd_plan.specs.topo.Topologies.{network}
use Rattle.sd_history.specs.World.{Setting}
use Rattle.sd_gen.proofs.Making.{are_scheduled, are_history}
use Rattle.sd_gen.proofs.make_schedule.Goals as goal

pub returns-clause-events : goal.returns-clause-events
returns-clause-events c =
    let setting : Setting = record { net = network c.args.topo.now; plans = c.args.plans.now } in
    are_scheduled c.in_ok-recording-2.recording setting c.args.number c.into_events.result c.into_events.ensures
    (c.in_ok-recording-2.ensures setting c.args.topo.now.is_network (c.in_ok-recording.ensures setting refl refl))

pub returns-clause-history : goal.returns-clause-history
returns-clause-history c =
    let setting : Setting = record { net = network c.args.topo.now; plans = c.args.plans.now } in
    are_history c.in_ok-recording-2.recording setting c.args.number c.into_events.result c.into_events.ensures
    (c.in_ok-recording-2.ensures setting c.args.topo.now.is_network (c.in_ok-recording.ensures setting refl refl))
