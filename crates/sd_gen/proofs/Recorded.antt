-- A recording goes on with each event that its fleet accepts.
use Rattle.std.specs.Prelude.{◌≡◌, ◌≢◌, ◌∷◌, ◌++◌, [], reverse}
use Rattle.std.proofs.Common.{ap, sym, ◌∙◌, inl, inr}
use Rattle.std.proofs.lemmas.List.{reverse-append}
use Rattle.sd_device.specs.contracts.device.DeviceNode.TheImpl.{ghosts as device}
use Rattle.sd_sched.specs.declared.Event.{Event}
use Rattle.sd_history.specs.declared.ApplyFault.{ApplyFault}
use Rattle.sd_history.specs.declared.ApplyFault.TheVariants.{Memory}
use Rattle.sd_history.specs.World.{Setting}
use Rattle.sd_history.specs.Steps.{events_of}
use Rattle.sd_history.specs.Nodes.{steps_of}
use Rattle.sd_fleet.specs.declared.Outcome.{Outcome}
use Rattle.sd_fleet.specs.Standing as fleets
use Rattle.sd_gen.specs.Driving.{Run, IsAccepted, IsRefused}
use Rattle.sd_gen.specs.Recording.{StandsFor}
use Rattle.sd_gen.specs.declared.recording.Recording.{Recording}

-- an event that the fleet accepted was added
pub added : (old new : Recording) (e : Event) (outcome : Outcome) (setting : Setting) (run : Run) → new.events ≡ old.events ++ e ∷ []
    → fleets.IsAccepted device new.fleet setting run e outcome
    → StandsFor old setting run → IsAccepted StandsFor new setting run e outcome
added old new e outcome setting run more accepted stands =
    record {
      next = accepted.next;
      happens = accepted.happens;
      comes = accepted.comes;
      is_run = accepted.stands.is_run;
      stands =
          record {
            fleet = accepted.stands;
            events =
                more ∙ ap (λ es. es ++ e ∷ []) stands.events ∙ sym (reverse-append (e ∷ []) (events_of (steps_of run)))
                ∙ ap (λ (x : Event). reverse (x ∷ events_of (steps_of run))) (sym accepted.happens);
          };
    }

-- one that it refused was not
pub refused : (old new : Recording) (e : Event) (fault : ApplyFault) (setting : Setting) (run : Run) → new.events ≡ old.events
    → fleets.StandsFor device new.fleet setting run
    → fleets.IsFault fault setting (steps_of run) e → fault ≢ Memory → StandsFor old setting run → IsRefused StandsFor new setting run e
refused old new e fault setting run same stands is other before =
    record {
      why = fault;
      refused = elim is [ inl it ↦ it | inr memory ↦ absurd (other memory.0) ];
      stands = record { fleet = stands; events = same ∙ before.events };
    }
