-- What is seen of the step, how devices stand after it, and what is found of it.
use Rattle.std.proofs.Common.{length, refl, arith, sym, ap, ◌∙◌}
use Rattle.std.proofs.Props.{props}
use Rattle.std.proofs.Math.Logic.{∥∥₁_elim, ∥∥₁_map}
use Rattle.sd_history.specs.Steps.{seen_of}
use Rattle.sd_history.specs.Nodes.{steps_of}
use Rattle.sd_replay.specs.Sights.{sight_by}
use Rattle.sd_replay.proofs.Looking.{lines_are, found_of}
use Rattle.sd_replay.proofs.Observing.{named, step_to, can_show, can_see, ask_merely, seen_on, found_on, made_of, named_within, parents_within, acting_within}
use Rattle.sd_replay.proofs.monitors.Monitors.look.Goals as goal

pub judge-broken-requires : goal.judge-broken-requires
judge-broken-requires g c =
    ask_merely c.args.self.now.premises
    (sight_by c.args.event.now c.args.outcome.now c.deref.result.now)
    (∥∥₁_map c.requires.step (λ has.
    can_see has.setting has.accepted.next.step (steps_of has.run) c.args.event.now c.args.outcome.now
    (step_to g.N.Node c.args.fleet.now has.setting has.run c.args.event.now c.args.outcome.now has.accepted) c.deref.result.now
    (c.deref.ensures.value ∙ c.collect.ensures.flights has.setting has.run c.args.event.now c.args.outcome.now has.accepted (record { first = refl; count = refl }))
    c.args.self.now.premises has.has_seen.premises
    (let few = c.collect.ensures.few in let same = ap length c.deref.ensures.value in omega (arith, few, same, c.requires.room))))

pub alarms_of-alarms-requires-clause-device : goal.alarms_of-alarms-requires-clause-device
alarms_of-alarms-requires-clause-device g c =
    named (length c.args.fleet.now.fabric.net.devices) c.device.result
    (λ d at. ∥∥₁_elim c.requires.step (search props)
    (λ has. named_within g.N.Node c.args.self.now c.args.fleet.now c.args.event.now c.args.outcome.now has d (sym c.device.ensures ∙ at)))

pub alarms_of-alarms-requires-clause-parents : goal.alarms_of-alarms-requires-clause-parents
alarms_of-alarms-requires-clause-parents g c =
    ∥∥₁_elim c.requires.step (search props) (parents_within g.N.Node c.args.self.now c.args.fleet.now c.args.event.now c.args.outcome.now)

pub alarms_of-alarms-requires-clause-acting : goal.alarms_of-alarms-requires-clause-acting
alarms_of-alarms-requires-clause-acting g c =
    ∥∥₁_elim c.requires.step (search props) (acting_within g.N.Node c.args.self.now c.args.fleet.now c.args.event.now c.args.outcome.now)

pub returns-clause-stands : goal.returns-clause-stands
returns-clause-stands g c = λ setting run accepted has_seen.
    let collected = c.deref.ensures.value ∙ c.collect.ensures.flights setting run c.args.event.now c.args.outcome.now accepted (record { first = refl; count = refl }) in
    record {
      premises =
          seen_on setting accepted.next.step (steps_of run) c.args.event.now c.args.outcome.now
          (step_to g.N.Node c.args.fleet.now setting run c.args.event.now c.args.outcome.now accepted) c.deref.result.now collected c.judge-broken.new.premises
          (c.judge-broken.ensures.stands setting (seen_of (steps_of run))
          (can_show setting accepted.next.step (steps_of run) c.args.event.now c.args.outcome.now
          (step_to g.N.Node c.args.fleet.now setting run c.args.event.now c.args.outcome.now accepted) c.deref.result.now collected) has_seen.premises);
      parent_table =
          (c.alarms_of-alarms.ensures setting run
          (made_of g.N.Node c.args.fleet.now setting run c.args.event.now c.args.outcome.now accepted c.device.result c.device.ensures) has_seen.parent_table).stands;
    }

pub returns-clause-found : goal.returns-clause-found
returns-clause-found g c = λ setting run accepted has_seen.
    let collected = c.deref.ensures.value ∙ c.collect.ensures.flights setting run c.args.event.now c.args.outcome.now accepted (record { first = refl; count = refl }) in
    lines_are setting accepted.next.step (steps_of run) _
    (found_on setting accepted.next.step (steps_of run) c.args.event.now c.args.outcome.now
    (step_to g.N.Node c.args.fleet.now setting run c.args.event.now c.args.outcome.now accepted) c.deref.result.now collected c.judge-broken.result
    c.alarms_of-alarms.result
    (c.judge-broken.ensures.breaks setting (seen_of (steps_of run))
    (can_show setting accepted.next.step (steps_of run) c.args.event.now c.args.outcome.now
    (step_to g.N.Node c.args.fleet.now setting run c.args.event.now c.args.outcome.now accepted) c.deref.result.now collected) has_seen.premises)
    (c.alarms_of-alarms.ensures setting run
    (made_of g.N.Node c.args.fleet.now setting run c.args.event.now c.args.outcome.now accepted c.device.result c.device.ensures) has_seen.parent_table).looped
    (c.alarms_of-alarms.ensures setting run
    (made_of g.N.Node c.args.fleet.now setting run c.args.event.now c.args.outcome.now accepted c.device.result c.device.ensures) has_seen.parent_table).roots)

pub returns-clause-devices : goal.returns-clause-devices
returns-clause-devices g c = λ setting run accepted has_seen.
    let collected = c.deref.ensures.value ∙ c.collect.ensures.flights setting run c.args.event.now c.args.outcome.now accepted (record { first = refl; count = refl }) in
    found_of setting accepted.next.step (steps_of run) _
    (found_on setting accepted.next.step (steps_of run) c.args.event.now c.args.outcome.now
    (step_to g.N.Node c.args.fleet.now setting run c.args.event.now c.args.outcome.now accepted) c.deref.result.now collected c.judge-broken.result
    c.alarms_of-alarms.result
    (c.judge-broken.ensures.breaks setting (seen_of (steps_of run))
    (can_show setting accepted.next.step (steps_of run) c.args.event.now c.args.outcome.now
    (step_to g.N.Node c.args.fleet.now setting run c.args.event.now c.args.outcome.now accepted) c.deref.result.now collected) has_seen.premises)
    (c.alarms_of-alarms.ensures setting run
    (made_of g.N.Node c.args.fleet.now setting run c.args.event.now c.args.outcome.now accepted c.device.result c.device.ensures) has_seen.parent_table).looped
    (c.alarms_of-alarms.ensures setting run
    (made_of g.N.Node c.args.fleet.now setting run c.args.event.now c.args.outcome.now accepted c.device.result c.device.ensures) has_seen.parent_table).roots) accepted.stands.fabric.accepted
