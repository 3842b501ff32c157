use Rattle.std.proofs.Common.{[], refl, sym, ◌∙◌, subst}
use Rattle.sd_history.specs.World.{Setting}
use Rattle.sd_plan.specs.topo.Topologies.{network}
use Rattle.sd_world.specs.membership.Plans.{AreSound}
use Rattle.sd_replay.proofs.Going.{are_sound, first_stands}
use Rattle.sd_replay.proofs.replay.Replay.over.Goals as goal

pub fleet_and_monitors-requires-clause-sound : goal.fleet_and_monitors-requires-clause-sound
fleet_and_monitors-requires-clause-sound g c =
    subst (λ net. AreSound net c.args.plans.now) (sym c.in_ok-event_output.ensures.net)
    (are_sound (network c.args.topo) c.args.plans.now c.args.plans.now refl c.requires.fit c.requires.accepted)

pub invariant_of-result : goal.invariant_of-result
invariant_of-result g c =
    let setting : Setting = record { net = network c.args.topo; plans = c.args.plans.now } in
    record {
      run =
          ∣ record {
            setting = setting;
            steps = [];
            stands =
                first_stands g.N.Node g.V.Observer c.args.topo c.args.plans.now c.in_ok-fleet.fleet c.in_ok-fleet.monitors c.in_ok-event_output.event_output
                c.args.observer setting refl refl c.requires.some c.requires.fit c.requires.accepted
                (c.in_ok-fleet.ensures.fleet setting (sym c.in_ok-event_output.ensures.net) refl)
                (c.in_ok-fleet.ensures.monitors setting (sym c.in_ok-event_output.ensures.net) refl)
                c.in_ok-event_output.ensures.net c.in_ok-event_output.ensures.lines c.in_ok-event_output.ensures.tally c.in_ok-event_output.ensures.ended
                c.requires.observer;
          } ∣₁;
    }

pub returns : goal.returns
returns g c =
    record {
      stands = λ setting net plans.
          first_stands g.N.Node g.V.Observer c.args.topo c.args.plans.now c.in_ok-fleet.fleet c.in_ok-fleet.monitors c.in_ok-event_output.event_output
          c.args.observer setting net plans c.requires.some c.requires.fit c.requires.accepted
          (c.in_ok-fleet.ensures.fleet setting (net ∙ sym c.in_ok-event_output.ensures.net) plans)
          (c.in_ok-fleet.ensures.monitors setting (net ∙ sym c.in_ok-event_output.ensures.net) plans)
          c.in_ok-event_output.ensures.net c.in_ok-event_output.ensures.lines c.in_ok-event_output.ensures.tally c.in_ok-event_output.ensures.ended
          c.requires.observer;
    }
