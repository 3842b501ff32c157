-- The fleet has made the step, the monitors look at it, and it is noted; nothing is told.
use Rattle.std.proofs.Common.{◌∙◌, [], None, refl, sym, ap, subst}
use Rattle.std.proofs.Math.Logic.{∥∥₁_map}
use Rattle.sd_sched.specs.declared.Event.TheVariants.{Tick}
use Rattle.sd_fleet.specs.declared.Outcome.{Outcome}
use Rattle.sd_fleet.specs.Standing as fleets
use Rattle.sd_fleet.specs.Keeping.{outcome_keeping}
use Rattle.sd_history.specs.Nodes.{steps_of}
use Rattle.sd_premise.specs.Calm.{IsCalmTick}
use Rattle.sd_replay.specs.Replaying.{quick_outcome}
use Rattle.sd_replay.specs.Standing.{IsQuickStep}
use Rattle.sd_replay.specs.Troubles.{found_by}
use Rattle.sd_replay.proofs.Going.{with_fleet, stands_prepared}
use Rattle.sd_replay.proofs.Happening.{IsDone, tally_merely, devices_merely, stands_on, run_on}
use Rattle.sd_replay.proofs.Staying.{quick_tick, none_collected, can_look}
use Rattle.sd_replay.proofs.replay.Replay.rest.Given.{Over}
use Rattle.sd_replay.proofs.replay.Replay.rest.Goals.{After-note}
use Rattle.sd_replay.proofs.replay.Replay.rest.Goals as goal

pub invariant_of-self : goal.invariant_of-self
invariant_of-self g c =
    record {
      run =
          ∥∥₁_map c.args.self.now.run
          (with_fleet g.N.Node g.V.Observer c.args.self.now.fleet c.rest.new.self c.args.self.now.monitors c.args.self.now.event_output
          c.args.self.now.observer (λ setting run. subst (λ f. fleets.StandsFor g.N.Node f setting run) (sym (c.rest.ensures.same c.if-not-rest.true))));
    }

pub rest-trouble-requires : goal.rest-trouble-requires
rest-trouble-requires g c =
    record {
      step =
          ∥∥₁_map c.args.self.now.run
          (can_look g.N.Node g.V.Observer c.args.self.now.fleet c.rest.new.self c.args.self.now.monitors c.args.self.now.monitors c.args.self.now.event_output
          c.args.self.now.observer (Tick c.args.reference c.args.d c.args.counter) (outcome_keeping c.args.self.now.fleet.fabric c.args.d None (record { first = 0; count = 0 }))
          (IsQuickStep (λ s. IsCalmTick s c.args.reference c.args.d c.args.counter []) c.args.reference c.args.d) (c.rest.ensures.accepted c.if-not-rest.false)
          (quick_tick g.N.Node c.args.self.now.fleet c.rest.new.self c.args.reference c.args.d c.args.counter
          (record { first = 0; count = 0 }) [] (c.rest.ensures.accepted c.if-not-rest.false) (c.rest.ensures.stays c.if-not-rest.false)
          (none_collected g.N.Node c.rest.new.self (Tick c.args.reference c.args.d c.args.counter)
          (outcome_keeping c.args.self.now.fleet.fabric c.args.d None (record { first = 0; count = 0 })) refl))
          (λ setting steps seen. seen));
    }

pub note-requires-clause-room : goal.note-requires-clause-room
note-requires-clause-room g c =
    tally_merely g.N.Node g.V.Observer c.args.self.now.fleet c.args.self.now.monitors c.args.self.now.event_output c.args.self.now.observer c.rest.new.self
    (Tick c.args.reference c.args.d c.args.counter) (outcome_keeping c.args.self.now.fleet.fabric c.args.d None (record { first = 0; count = 0 }))
    (c.rest.ensures.accepted c.if-not-rest.false) c.args.self.now.run

pub note-requires-clause-devices : goal.note-requires-clause-devices
note-requires-clause-devices g c =
    devices_merely g.N.Node g.V.Observer c.args.self.now.fleet c.args.self.now.monitors c.args.self.now.event_output c.args.self.now.observer c.rest.new.self
    (Tick c.args.reference c.args.d c.args.counter) (outcome_keeping c.args.self.now.fleet.fabric c.args.d None (record { first = 0; count = 0 }))
    (c.rest.ensures.accepted c.if-not-rest.false) (found_by c.rest-trouble.result None c.args.reference)
    (λ setting run made has_seen.
    c.rest-trouble.ensures.devices setting ((c.rest.ensures.accepted c.if-not-rest.false) setting run made).next.step (steps_of run)
    ((quick_tick g.N.Node c.args.self.now.fleet c.rest.new.self c.args.reference c.args.d c.args.counter
    (record { first = 0; count = 0 }) [] (c.rest.ensures.accepted c.if-not-rest.false) (c.rest.ensures.stays c.if-not-rest.false)
    (none_collected g.N.Node c.rest.new.self (Tick c.args.reference c.args.d c.args.counter)
    (outcome_keeping c.args.self.now.fleet.fabric c.args.d None (record { first = 0; count = 0 })) refl)) setting run made)
    has_seen) c.args.self.now.run

-- what was done
done : (g : Over) (c : After-note g)
    → IsDone g.N.Node g.V.Observer c.args.self.now.fleet c.rest.new.self c.args.self.now.monitors c.rest-trouble.new.self c.args.self.now.event_output
    c.note.new.self c.args.self.now.observer c.args.self.now.observer (Tick c.args.reference c.args.d c.args.counter)
    (outcome_keeping c.args.self.now.fleet.fabric c.args.d None (record { first = 0; count = 0 })) (found_by c.rest-trouble.result None c.args.reference)
done g c =
    record {
      accepts = (c.rest.ensures.accepted c.if-not-rest.false);
      has_seen = λ setting run made has_seen.
          c.rest-trouble.ensures.stands setting ((c.rest.ensures.accepted c.if-not-rest.false) setting run made).next.step (steps_of run)
          ((quick_tick g.N.Node c.args.self.now.fleet c.rest.new.self c.args.reference c.args.d c.args.counter
          (record { first = 0; count = 0 }) [] (c.rest.ensures.accepted c.if-not-rest.false) (c.rest.ensures.stays c.if-not-rest.false)
          (none_collected g.N.Node c.rest.new.self (Tick c.args.reference c.args.d c.args.counter)
          (outcome_keeping c.args.self.now.fleet.fabric c.args.d None (record { first = 0; count = 0 })) refl)) setting run made)
          has_seen;
      finds = λ setting run made has_seen.
          c.rest-trouble.ensures.found setting ((c.rest.ensures.accepted c.if-not-rest.false) setting run made).next.step (steps_of run)
          ((quick_tick g.N.Node c.args.self.now.fleet c.rest.new.self c.args.reference c.args.d c.args.counter
          (record { first = 0; count = 0 }) [] (c.rest.ensures.accepted c.if-not-rest.false) (c.rest.ensures.stays c.if-not-rest.false)
          (none_collected g.N.Node c.rest.new.self (Tick c.args.reference c.args.d c.args.counter)
          (outcome_keeping c.args.self.now.fleet.fabric c.args.d None (record { first = 0; count = 0 })) refl)) setting run made)
          has_seen;
      report = refl;
      topology = c.note.ensures.noted.topology;
      tally = c.note.ensures.noted.tally;
      lines = c.note.ensures.noted.lines;
      ended = c.note.ensures.ended;
      tells = refl;
    }

pub invariant_of-self-2 : goal.invariant_of-self-2
invariant_of-self-2 g c =
    record {
      run =
          ∥∥₁_map c.args.self.now.run
          (run_on g.N.Node g.V.Observer c.args.self.now.fleet c.rest.new.self c.args.self.now.monitors c.rest-trouble.new.self c.args.self.now.event_output
          c.note.new.self c.args.self.now.observer c.args.self.now.observer (Tick c.args.reference c.args.d c.args.counter)
          (outcome_keeping c.args.self.now.fleet.fabric c.args.d None (record { first = 0; count = 0 })) (found_by c.rest-trouble.result None c.args.reference) (done g c));
    }

pub returns-then-not-rest : goal.returns-then-not-rest
returns-then-not-rest g c =
    record {
      accepted = tt;
      stands = λ no setting run.
          stands_prepared g.N.Node g.V.Observer c.args.self.now.fleet c.rest.new.self c.args.self.now.monitors c.args.self.now.event_output
          c.args.self.now.observer setting run (λ s r. subst (λ f. fleets.StandsFor g.N.Node f s r) (sym (c.rest.ensures.same c.if-not-rest.true)));
    }

pub returns : goal.returns
unfolding done
returns g c =
    record {
      accepted = λ setting run stands.
          let accepted = (c.rest.ensures.accepted c.if-not-rest.false) setting run stands.made in
          record {
            stepped =
                record {
                  next = accepted.next;
                  happens = accepted.happens;
                  stands =
                      stands_on g.N.Node g.V.Observer c.args.self.now.fleet c.rest.new.self c.args.self.now.monitors c.rest-trouble.new.self
                      c.args.self.now.event_output c.note.new.self c.args.self.now.observer c.args.self.now.observer
                      (Tick c.args.reference c.args.d c.args.counter) (outcome_keeping c.args.self.now.fleet.fabric c.args.d None (record { first = 0; count = 0 }))
                      (found_by c.rest-trouble.result None c.args.reference) (done g c.before) setting run stands;
                };
            comes = sym accepted.comes ∙ ap (quick_outcome None (record { first = 0; count = 0 })) (ap (λ (o : Outcome). o.acted) accepted.comes);
          };
      stands = λ none. cc;
    }
