-- The parts of a step make the registers that follow, and what comes of it.
use Rattle.std.proofs.Common.{◌≡◌, ◌≤◌, not, ◌&&◌, None, length, sym, ◌∙◌, ap, subst}
use Rattle.std.specs.Prelude.{if◌then◌else◌}
use Rattle.sd_plan.specs.topo.Topologies.{network}
use Rattle.sd_world.specs.membership.Memberships.{can_close_in}
use Rattle.sd_fleet.specs.Registers.{Registers, kept}
use Rattle.sd_fleet.specs.Causes.{refusal_in}
use Rattle.sd_fleet.specs.Outcomes.{first_number}
use Rattle.sd_fleet.specs.Room.{most_sent_in}
use Rattle.sd_fleet.specs.Sound.{IsSound}
use Rattle.sd_fleet.specs.Stepping.{IsAfter, acts_named, is_new_named, entered_in, outcome_in}
use Rattle.sd_fleet.specs.declared.Outcome.{Outcome}
use Rattle.sd_fleet.proofs.Finishing.{Parts, is_after, sent_same, room_after, entered_by}
use Rattle.sd_fleet.proofs.FabricKeeping.{sound_next}
use Rattle.sd_fleet.proofs.Outcoming.{same_outcome}
use Rattle.sd_fleet.proofs.fabric.Fabric.note.Goals as goal

pub send-sent-requires-clause-room : goal.send-sent-requires-clause-room
send-sent-requires-clause-room c =
    let old : Registers = kept (network c.self.inside.topology) c.self.inside.membership c.self.inside.book in
    let accepted : refusal_in old c.args.event.now ≡ None = subst (λ r. refusal_in r c.args.event.now ≡ None) (sym c.self.view_is) c.requires.accepted in
    let room : most_sent_in old c.args.event.now ≤ old.book.room =
    subst (λ (r : Registers). most_sent_in r c.args.event.now ≤ r.book.room) (sym c.self.view_is) c.requires.room in
    room_after old c.deliver.new.book c.args.event.now c.args.reply.now accepted c.requires.tells room c.deliver.ensures.last c.deliver.ensures.room

-- what the fabric kept, and keeps

abbrev old : goal.After-note_report → Registers
old c = kept (network c.self.inside.topology) c.self.inside.membership c.self.inside.book

abbrev new : goal.After-note_report → Registers
new c = kept (network c.self.inside.topology) c.close-outcome.new.membership c.sweep.new.book

was_accepted : (c : goal.After-note_report) → refusal_in (old c) c.args.event.now ≡ None
was_accepted c = subst (λ r. refusal_in r c.args.event.now ≡ None) (sym c.self.view_is) c.requires.accepted

parts : (c : goal.After-note_report)
    → Parts (old c) c.args.event.now c.args.reply.now c.deliver.new.book c.send-sent.new.book c.sweep.new.book c.observe.new.self c.close-outcome.new.membership
parts c =
    record {
      delivers = c.deliver.ensures.flights;
      delivers_last = c.deliver.ensures.last;
      delivers_size = c.deliver.ensures.size;
      sends = c.send-sent.ensures.flights;
      sends_last = c.send-sent.ensures.last;
      sends_size = c.send-sent.ensures.size;
      sweeps = c.sweep.ensures.flights;
      sweeps_last = c.sweep.ensures.last;
      sweeps_size = c.sweep.ensures.size;
      observes = c.observe.ensures.registers;
      closes = c.close-outcome.ensures.membership;
    }

comes_after : (c : goal.After-note_report) → IsAfter (old c) c.args.event.now c.args.reply.now (new c)
comes_after c =
    is_after (old c) c.args.event.now c.args.reply.now c.deliver.new.book c.send-sent.new.book c.sweep.new.book c.observe.new.self
    c.close-outcome.new.membership (parts c)

sound : (c : goal.After-note_report) → IsSound (new c)
sound c = sound_next (old c) (new c) c.args.event.now c.args.reply.now c.self.invariant (was_accepted c)
    (comes_after c) c.close-outcome.ensures.sound c.sweep.ensures.given

after : (c : goal.After-note_report) → IsAfter c.args.self.now c.args.event.now c.args.reply.now (new c)
after c = subst (λ r. IsAfter r c.args.event.now c.args.reply.now (new c)) c.self.view_is (comes_after c)

abbrev made : goal.After-note_report → Outcome
made c =
    record {
      report = c.note_report.new.noted;
      taken = c.deliver.new.taken;
      first_sent = c.send-sent.result.first;
      sent = c.send-sent.result.count;
      activated = c.entering-outcome.result;
      acted = c.acts-outcome.result;
      closed = c.close-outcome.result;
      ended = c.ends-outcome.result;
    }

outcome : (c : goal.After-note_report) → made c ≡ outcome_in c.args.self.now c.args.event.now c.args.reply.now
outcome c =
    let sent = sent_same (old c) c.deliver.new.book c.args.event.now c.args.reply.now c.deliver.ensures.last in
    same_outcome (made c) (outcome_in (old c) c.args.event.now c.args.reply.now)
    c.note_report.ensures
    c.deliver.ensures.flight
    (c.send-sent.ensures.first ∙ ap first_number sent)
    (c.send-sent.ensures.count ∙ ap length sent)
    (c.entering-outcome.ensures
    ∙ ap (λ b. if b && not c.is_new-was_new.result then c.device-device.result else None) c.is_new-is_new_now.ensures
    ∙ ap (λ b. if is_new_named c.observe.new.self c.device-device.result && not b then c.device-device.result else None) c.is_new-was_new.ensures
    ∙ ap (λ d. if is_new_named c.observe.new.self d && not (is_new_named c.self.inside.membership d) then d else None) c.device-device.ensures
    ∙ entered_by c.self.inside.membership c.observe.new.self c.args.event.now
    ∙ ap (λ r. entered_in c.self.inside.membership r c.args.event.now) c.observe.ensures.registers)
    (c.acts-outcome.ensures ∙ ap (acts_named c.self.inside.membership) c.device-device.ensures)
    (c.close-outcome.ensures.closed ∙ ap can_close_in c.observe.ensures.registers)
    c.ends-outcome.ensures
    ∙ ap (λ r. outcome_in r c.args.event.now c.args.reply.now) c.self.view_is

pub invariant_of-self : goal.invariant_of-self
invariant_of-self c = sound c

pub returns-clause-after : goal.returns-clause-after
returns-clause-after c = after c

pub returns-clause-comes : goal.returns-clause-comes
returns-clause-comes c = outcome c

pub returns-clause-sound : goal.returns-clause-sound
returns-clause-sound c = sound c
