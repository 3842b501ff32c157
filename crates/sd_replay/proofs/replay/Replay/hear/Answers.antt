-- The fleet has made the step, the monitors look at it, and it is noted; nothing is told.
use Rattle.std.proofs.Common.{◌∙◌, None, Some, refl, sym, ap, subst, arith}
use Rattle.std.proofs.Math.Logic.{∥∥₁_map}
use Rattle.sd_sched.specs.declared.Event.TheVariants.{Recv}
use Rattle.sd_fleet.specs.declared.Outcome.{Outcome}
use Rattle.sd_fleet.specs.Standing as fleets
use Rattle.sd_fleet.specs.Keeping.{outcome_keeping}
use Rattle.sd_history.specs.Nodes.{steps_of}
use Rattle.sd_premise.specs.Calm.{IsCalmReceipt}
use Rattle.sd_replay.specs.Replaying.{quick_outcome}
use Rattle.sd_replay.specs.Standing.{IsQuickStep}
use Rattle.sd_replay.specs.Troubles.{found_by}
use Rattle.sd_replay.proofs.Going.{with_fleet, stands_prepared}
use Rattle.sd_replay.proofs.Happening.{IsDone, numbers_merely, tally_merely, devices_merely, stands_on, run_on}
use Rattle.sd_replay.proofs.Staying.{quick_receipt, can_look}
use Rattle.sd_replay.proofs.replay.Replay.hear.Given.{Over}
use Rattle.sd_replay.proofs.replay.Replay.hear.Goals.{After-note}
use Rattle.sd_replay.proofs.replay.Replay.hear.Goals as goal

pub invariant_of-self : goal.invariant_of-self
invariant_of-self g c =
    record {
      run =
          ∥∥₁_map c.ready_for.new.self.run
          (with_fleet g.N.Node g.V.Observer c.ready_for.new.self.fleet c.hear.new.self c.ready_for.new.self.monitors c.ready_for.new.self.event_output
          c.ready_for.new.self.observer (λ setting run. subst (λ f. fleets.StandsFor g.N.Node f setting run) (sym (c.hear.ensures.same c.in_default.is))));
    }

pub collect-requires-clause-room : goal.collect-requires-clause-room
collect-requires-clause-room g c =
    (let room = c.ready_for.ensures.monitors c.if-not-ready_for.false in omega (arith, room, c.in-Some.ensures.few))

pub collect-requires-clause-numbers : goal.collect-requires-clause-numbers
collect-requires-clause-numbers g c =
    numbers_merely g.N.Node g.V.Observer c.ready_for.new.self.fleet c.ready_for.new.self.monitors c.ready_for.new.self.event_output c.ready_for.new.self.observer c.hear.new.self
    (Recv c.args.reference c.args.d c.args.counter c.args.message) (outcome_keeping c.ready_for.new.self.fleet.fabric c.args.d (Some c.in-Some.heard.flight) c.in-Some.heard.sent)
    c.in-Some.ensures.accepted c.ready_for.new.self.run

pub hear-trouble-requires-clause-step : goal.hear-trouble-requires-clause-step
hear-trouble-requires-clause-step g c =
    ∥∥₁_map c.ready_for.new.self.run
    (can_look g.N.Node g.V.Observer c.ready_for.new.self.fleet c.hear.new.self c.ready_for.new.self.monitors c.collect.new.self c.ready_for.new.self.event_output
    c.ready_for.new.self.observer (Recv c.args.reference c.args.d c.args.counter c.args.message) (outcome_keeping c.ready_for.new.self.fleet.fabric c.args.d (Some c.in-Some.heard.flight) c.in-Some.heard.sent)
    (IsQuickStep (λ s. IsCalmReceipt s c.args.reference c.args.d c.args.counter c.in-Some.heard.flight c.collect.new.self.sent.items) c.args.reference c.args.d) c.in-Some.ensures.accepted
    (quick_receipt g.N.Node c.ready_for.new.self.fleet c.hear.new.self c.args.reference c.args.d c.args.counter c.args.message c.in-Some.heard.flight
    c.in-Some.heard.sent c.collect.new.self.sent.items c.in-Some.ensures.accepted c.in-Some.ensures.stays
    (λ setting run accepted. c.collect.ensures.flights setting run (Recv c.args.reference c.args.d c.args.counter c.args.message) (outcome_keeping c.ready_for.new.self.fleet.fabric c.args.d (Some c.in-Some.heard.flight) c.in-Some.heard.sent) accepted
    (record { first = refl; count = refl })))
    c.collect.ensures.stands)

pub note-requires-clause-room : goal.note-requires-clause-room
note-requires-clause-room g c =
    tally_merely g.N.Node g.V.Observer c.ready_for.new.self.fleet c.ready_for.new.self.monitors c.ready_for.new.self.event_output c.ready_for.new.self.observer c.hear.new.self
    (Recv c.args.reference c.args.d c.args.counter c.args.message) (outcome_keeping c.ready_for.new.self.fleet.fabric c.args.d (Some c.in-Some.heard.flight) c.in-Some.heard.sent)
    c.in-Some.ensures.accepted c.ready_for.new.self.run

pub note-requires-clause-devices : goal.note-requires-clause-devices
note-requires-clause-devices g c =
    devices_merely g.N.Node g.V.Observer c.ready_for.new.self.fleet c.ready_for.new.self.monitors c.ready_for.new.self.event_output c.ready_for.new.self.observer c.hear.new.self
    (Recv c.args.reference c.args.d c.args.counter c.args.message) (outcome_keeping c.ready_for.new.self.fleet.fabric c.args.d (Some c.in-Some.heard.flight) c.in-Some.heard.sent)
    c.in-Some.ensures.accepted (found_by c.hear-trouble.result None c.args.reference)
    (λ setting run made has_seen.
    c.hear-trouble.ensures.devices setting (c.in-Some.ensures.accepted setting run made).next.step (steps_of run)
    ((quick_receipt g.N.Node c.ready_for.new.self.fleet c.hear.new.self c.args.reference c.args.d c.args.counter c.args.message c.in-Some.heard.flight
    c.in-Some.heard.sent c.collect.new.self.sent.items c.in-Some.ensures.accepted c.in-Some.ensures.stays
    (λ setting run accepted. c.collect.ensures.flights setting run (Recv c.args.reference c.args.d c.args.counter c.args.message) (outcome_keeping c.ready_for.new.self.fleet.fabric c.args.d (Some c.in-Some.heard.flight) c.in-Some.heard.sent) accepted
    (record { first = refl; count = refl }))) setting run made)
    (c.collect.ensures.stands setting (steps_of run) has_seen)) c.ready_for.new.self.run

-- what was done
done : (g : Over) (c : After-note g)
    → IsDone g.N.Node g.V.Observer c.ready_for.new.self.fleet c.hear.new.self c.ready_for.new.self.monitors c.hear-trouble.new.self c.ready_for.new.self.event_output
    c.note.new.self c.ready_for.new.self.observer c.ready_for.new.self.observer (Recv c.args.reference c.args.d c.args.counter c.args.message)
    (outcome_keeping c.ready_for.new.self.fleet.fabric c.args.d (Some c.in-Some.heard.flight) c.in-Some.heard.sent) (found_by c.hear-trouble.result None c.args.reference)
done g c =
    record {
      accepts = c.in-Some.ensures.accepted;
      has_seen = λ setting run made has_seen.
          c.hear-trouble.ensures.stands setting (c.in-Some.ensures.accepted setting run made).next.step (steps_of run)
          ((quick_receipt g.N.Node c.ready_for.new.self.fleet c.hear.new.self c.args.reference c.args.d c.args.counter c.args.message c.in-Some.heard.flight
          c.in-Some.heard.sent c.collect.new.self.sent.items c.in-Some.ensures.accepted c.in-Some.ensures.stays
          (λ setting run accepted. c.collect.ensures.flights setting run (Recv c.args.reference c.args.d c.args.counter c.args.message) (outcome_keeping c.ready_for.new.self.fleet.fabric c.args.d (Some c.in-Some.heard.flight) c.in-Some.heard.sent) accepted
          (record { first = refl; count = refl }))) setting run made)
          (c.collect.ensures.stands setting (steps_of run) has_seen);
      finds = λ setting run made has_seen.
          c.hear-trouble.ensures.found setting (c.in-Some.ensures.accepted setting run made).next.step (steps_of run)
          ((quick_receipt g.N.Node c.ready_for.new.self.fleet c.hear.new.self c.args.reference c.args.d c.args.counter c.args.message c.in-Some.heard.flight
          c.in-Some.heard.sent c.collect.new.self.sent.items c.in-Some.ensures.accepted c.in-Some.ensures.stays
          (λ setting run accepted. c.collect.ensures.flights setting run (Recv c.args.reference c.args.d c.args.counter c.args.message) (outcome_keeping c.ready_for.new.self.fleet.fabric c.args.d (Some c.in-Some.heard.flight) c.in-Some.heard.sent) accepted
          (record { first = refl; count = refl }))) setting run made)
          (c.collect.ensures.stands setting (steps_of run) has_seen);
      report = refl;
      topology = c.note.ensures.noted.topology;
      tally = c.note.ensures.noted.tally;
      lines = c.note.ensures.noted.lines;
      ended = c.note.ensures.ended;
      tells = refl;
    }

pub invariant_of-self-2 : goal.invariant_of-self-2
invariant_of-self-2 g c =
    record {
      run =
          ∥∥₁_map c.ready_for.new.self.run
          (run_on g.N.Node g.V.Observer c.ready_for.new.self.fleet c.hear.new.self c.ready_for.new.self.monitors c.hear-trouble.new.self c.ready_for.new.self.event_output
          c.note.new.self c.ready_for.new.self.observer c.ready_for.new.self.observer (Recv c.args.reference c.args.d c.args.counter c.args.message)
          (outcome_keeping c.ready_for.new.self.fleet.fabric c.args.d (Some c.in-Some.heard.flight) c.in-Some.heard.sent) (found_by c.hear-trouble.result None c.args.reference) (done g c));
    }

pub returns-then-not-ready_for : goal.returns-then-not-ready_for
returns-then-not-ready_for g c = record { accepted = tt; stands = λ no. c.ready_for.ensures.stands }

pub returns-in_default : goal.returns-in_default
returns-in_default g c =
    record {
      accepted = tt;
      stands = λ no setting run stands.
          stands_prepared g.N.Node g.V.Observer c.ready_for.new.self.fleet c.hear.new.self c.ready_for.new.self.monitors c.ready_for.new.self.event_output
          c.ready_for.new.self.observer setting run (λ s r. subst (λ f. fleets.StandsFor g.N.Node f s r) (sym (c.hear.ensures.same c.in_default.is)))
          (c.ready_for.ensures.stands setting run stands);
    }

pub returns : goal.returns
unfolding done
returns g c =
    record {
      accepted = λ setting run before.
          let stands = c.ready_for.ensures.stands setting run before in
          let accepted = c.in-Some.ensures.accepted setting run stands.made in
          record {
            stepped =
                record {
                  next = accepted.next;
                  happens = accepted.happens;
                  stands =
                      stands_on g.N.Node g.V.Observer c.ready_for.new.self.fleet c.hear.new.self c.ready_for.new.self.monitors c.hear-trouble.new.self
                      c.ready_for.new.self.event_output c.note.new.self c.ready_for.new.self.observer c.ready_for.new.self.observer
                      (Recv c.args.reference c.args.d c.args.counter c.args.message) (outcome_keeping c.ready_for.new.self.fleet.fabric c.args.d (Some c.in-Some.heard.flight) c.in-Some.heard.sent)
                      (found_by c.hear-trouble.result None c.args.reference) (done g c.before.before.before) setting run stands;
                };
            comes = sym accepted.comes ∙ ap (quick_outcome (Some c.in-Some.heard.flight) c.in-Some.heard.sent) (ap (λ (o : Outcome). o.acted) accepted.comes);
          };
      stands = λ none. cc;
    }
