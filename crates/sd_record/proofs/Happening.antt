-- An event happens to a recorder, or is refused.
use Rattle.std.specs.Prelude.{◌≡◌, true, false, List, ◌∷◌, ◌++◌, Option, Some, None}
use Rattle.std.specs.Prelude.{ℕ}
use Rattle.std.proofs.Common.{append_assoc, sym, ◌∙◌, ap, inl, inr, Vec, Global}
use Rattle.sd_device.specs.contracts.device.DeviceNode.TheImpl.{ghosts as device}
use Rattle.sd_device.specs.declared.registers.Registers.{Registers}
use Rattle.sd_sched.specs.declared.Event.{Event}
use Rattle.sd_history.specs.World.{Setting}
use Rattle.sd_history.specs.Steps.{Step, events_of}
use Rattle.sd_history.specs.Chronicle.{chronicle}
use Rattle.sd_history.specs.Nodes.{IsRun, NodeStep, steps_of}
use Rattle.sd_history.specs.Refusals.{refusal}
use Rattle.sd_history.specs.declared.ApplyFault.{ApplyFault}
use Rattle.sd_history.proofs.Accepting.{run_is_accepted}
use Rattle.sd_fleet.specs.Standing as fleets
use Rattle.sd_fleet.specs.declared.Outcome.{Outcome}
use Rattle.sd_fleet.specs.declared.fleet.Fleet.{Fleet}
use Rattle.sd_record.specs.Printed.{line_bytes, schedule_text}
use Rattle.sd_record.specs.Recorded.{add, add_unless, is_refusal}
use Rattle.sd_record.specs.Standing.{Came, HoldsSince}
use Rattle.sd_record.specs.declared.recorder.Recorder.{Recorder}
use Rattle.sd_record.proofs.Keeping.{keeps_after}
use Rattle.sd_record.proofs.Standing.{steps_are}

-- an event that happened to the fleet, once there was room, is one more
pub happened : (old : Recorder) (ready fleet : Fleet Registers device) (text : Vec ℕ Global) (e : Event) (outcome : Outcome)
    → ((setting : Setting) (run : List (NodeStep Registers)) → fleets.StandsFor device old.fleet setting run → fleets.StandsFor device ready setting run)
    → fleets.HasHappened device ready fleet e outcome → text.items ≡ old.text.items ++ line_bytes e
    → (setting : Setting) (start events : List Event) → HoldsSince old setting start events
    → Came (record old { fleet = fleet; text = text }) setting start (add setting e events) None
happened old ready fleet text e outcome prepared happens printed setting start events h =
    let run = h.stands.run in
    let it = happens.accepted setting run (prepared setting run h.stands.fleet) in
    let is : IsRun device setting (it.next ∷ run) = it.stands.is_run in
    let steps : steps_of run ≡ chronicle setting events = steps_are old setting events h.stands in
    let free : refusal setting (chronicle setting events) e ≡ None =
    ap (λ (s : List Step). refusal setting s e) (sym steps) ∙ ap (refusal setting (steps_of run)) (sym it.happens) ∙ is.1 in
    let k = keeps_after setting it.next.step (steps_of run) (run_is_accepted device setting (it.next ∷ run) is) old h.stands.keeps in (
      e ∷ events,
      ap (λ (o : Option ApplyFault). add_unless o e events) free,
      record {
        stands =
            record {
              net = h.stands.net;
              run = it.next ∷ run;
              fleet = it.stands;
              happened = ap (λ (x : Event). x ∷ events_of (steps_of run)) it.happens ∙ ap (λ (es : List Event). e ∷ es) h.stands.happened;
              keeps = record { looked = k.looked; listed = k.listed; named = k.named; sent = k.sent; ended = k.ended };
            };
        text =
            ap (λ t. t ++ line_bytes e) h.text ∙ append_assoc (schedule_text start) old.text.items (line_bytes e)
            ∙ ap (λ t. schedule_text start ++ t) (sym printed);
      },
    )

-- one that the fleet refused is told
pub refused : (old : Recorder) (e : Event) (why : ApplyFault)
    → ((setting : Setting) (run : List (NodeStep Registers)) → fleets.StandsFor device old.fleet setting run → fleets.IsFault why setting (steps_of run) e)
    → is_refusal why ≡ true
    → (new : Recorder) (setting : Setting) (start events : List Event) → HoldsSince old setting start events
    → Came new setting start (add setting e events) (Some why)
refused old e why told other new setting start events h =
    let run = h.stands.run in
    let fault : refusal setting (steps_of run) e ≡ Some why = elim (told setting run h.stands.fleet) [ inl it ↦ it | inr memory ↦ absurd (never (sym (ap is_refusal memory.0) ∙ other)) ] in
    ap (λ (o : Option ApplyFault). add_unless o e events)
    (ap (λ (s : List Step). refusal setting s e) (sym (steps_are old setting events h.stands)) ∙ fault)
  where
    never : false ≡ true → ⊥
    never same = cc
