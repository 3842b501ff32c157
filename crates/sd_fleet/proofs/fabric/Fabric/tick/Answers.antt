-- The parts of a tick make the registers that follow, and tell what was sent.
use Rattle.std.proofs.Common.{◌≡◌, ◌≤◌, ◌++◌, ◌+◌, None, Some, false, List, length, filter, refl, arith, sym, ◌∙◌, ap, subst}
use Rattle.sd_num.specs.Lists.{at_place}
use Rattle.sd_device.specs.declared.msg.Flight.{Flight}
use Rattle.sd_sched.specs.declared.Event.TheVariants as event
use Rattle.sd_sched.specs.declared.Event.{Event}
use Rattle.sd_world.specs.declared.membership.AnswerSummary.{AnswerSummary}
use Rattle.sd_world.specs.world.Registers.{is_open}
use Rattle.sd_world.specs.membership.Memberships as memberships
use Rattle.sd_world.proofs.membership.Observing.{same_answers}
use Rattle.sd_fleet.specs.Registers.{Registers, kept}
use Rattle.sd_fleet.specs.Causes.{refusal_in}
use Rattle.sd_fleet.specs.Doing.{replied}
use Rattle.sd_fleet.specs.FabricView.{registers_seen}
use Rattle.sd_fleet.specs.Keeping.{SendsTo}
use Rattle.sd_fleet.specs.Outcomes.{first_number}
use Rattle.sd_fleet.specs.Room.{ends_in}
use Rattle.sd_fleet.specs.Sending.{sent_by, sent_in}
use Rattle.sd_fleet.specs.Sound.{IsSound}
use Rattle.sd_fleet.specs.Staying.{StaysAt}
use Rattle.sd_fleet.proofs.Admitted.{device_known}
use Rattle.sd_fleet.proofs.Finishing.{Parts, is_after, sent_same, sound_delivered, room_after}
use Rattle.sd_fleet.proofs.FabricKeeping.{named_answers, sent_few, sent_room}
use Rattle.sd_fleet.proofs.Staying.{following, epoch_is}
use Rattle.sd_fleet.proofs.Steady.{tick_tells, not_closed}
use Rattle.sd_fleet.proofs.TickRests.{sound_rest, stays_at}
use Rattle.sd_fleet.proofs.fabric.Fabric.tick.Goals as goal

accepts : (seen now : Registers) (e : Event) → seen ≡ now → refusal_in now e ≡ None → refusal_in seen e ≡ None
accepts seen now e same accepted = subst (λ r. refusal_in r e ≡ None) (sym same) accepted

pub epoch_at-epoch-requires : goal.epoch_at-epoch-requires
epoch_at-epoch-requires c =
    named_answers (registers_seen c.self.inside) (event.Tick c.args.reference c.args.d c.args.counter) c.self.invariant
    (accepts (registers_seen c.self.inside) c.args.self.now (event.Tick c.args.reference c.args.d c.args.counter) c.self.view_is c.requires.accepted)

pub send_by-sent-requires-clause-sound : goal.send_by-sent-requires-clause-sound
send_by-sent-requires-clause-sound c =
    sound_delivered (registers_seen c.self.inside) c.purge.new.self c.self.invariant c.purge.ensures.given c.purge.ensures.last c.purge.ensures.size

pub send_by-sent-requires-clause-known : goal.send_by-sent-requires-clause-known
send_by-sent-requires-clause-known c =
    device_known (registers_seen c.self.inside) (event.Tick c.args.reference c.args.d c.args.counter)
    (accepts (registers_seen c.self.inside) c.args.self.now (event.Tick c.args.reference c.args.d c.args.counter) c.self.view_is c.requires.accepted)
    c.args.d refl

pub send_by-sent-requires-clause-room : goal.send_by-sent-requires-clause-room
send_by-sent-requires-clause-room c =
    room_after (registers_seen c.self.inside) c.purge.new.self (event.Tick c.args.reference c.args.d c.args.counter)
    (replied c.args.effect.now (following c.epoch_at-epoch.result))
    (accepts (registers_seen c.self.inside) c.args.self.now (event.Tick c.args.reference c.args.d c.args.counter) c.self.view_is c.requires.accepted)
    (tick_tells c.args.reference c.args.d c.args.counter c.args.effect.now (following c.epoch_at-epoch.result))
    (subst (λ (r : Registers). ends_in r c.args.d ≤ r.book.room) (sym c.self.view_is) c.requires.room)
    c.purge.ensures.last c.purge.ensures.room

pub note_rest-requires-clause-room : goal.note_rest-requires-clause-room
note_rest-requires-clause-room c = omega (arith, c.self.invariant.events)

pub note_rest-requires-clause-range : goal.note_rest-requires-clause-range
note_rest-requires-clause-range c =
    named_answers (registers_seen c.self.inside) (event.Tick c.args.reference c.args.d c.args.counter) c.self.invariant
    (accepts (registers_seen c.self.inside) c.args.self.now (event.Tick c.args.reference c.args.d c.args.counter) c.self.view_is c.requires.accepted)

pub note_rest-requires-clause-closed : goal.note_rest-requires-clause-closed
note_rest-requires-clause-closed c = subst (λ (r : Registers). is_open r.membership.world.window ≡ false) (sym c.self.view_is) c.requires.shut

-- what the fabric kept, what happened, and what it keeps

abbrev old : goal.After-note_rest → Registers
old c = registers_seen c.self.inside

abbrev ticked : goal.After-note_rest → Event
ticked c = event.Tick c.args.reference c.args.d c.args.counter

abbrev mid : goal.After-note_rest → Registers
mid c = kept (old c).net (old c).membership c.purge.new.self

abbrev new : goal.After-note_rest → Registers
new c = kept (old c).net c.note_rest.new.self c.send_by-sent.new.book

was_accepted : (c : goal.After-note_rest) → refusal_in (old c) (ticked c) ≡ None
was_accepted c = accepts (old c) c.args.self.now (ticked c) c.self.view_is c.requires.accepted

was_shut : (c : goal.After-note_rest) → is_open (old c).membership.world.window ≡ false
was_shut c = subst (λ (r : Registers). is_open r.membership.world.window ≡ false) (sym c.self.view_is) c.requires.shut

-- no more was sent than there are links, and than there is room for

sound : (c : goal.After-note_rest) → IsSound (new c)
sound c =
    let few = sent_few (mid c) (ticked c) (replied c.args.effect.now (following c.epoch_at-epoch.result))
    (sound_delivered (old c) c.purge.new.self c.self.invariant c.purge.ensures.given c.purge.ensures.last c.purge.ensures.size) in
    let links = c.self.invariant.net.links in
    sound_rest (old c) c.args.reference c.args.d c.args.counter c.send_by-sent.new.book c.note_rest.new.self c.self.invariant (was_accepted c)
    c.note_rest.ensures.tick c.note_rest.ensures.sound c.send_by-sent.ensures.given
    (omega (arith, c.send_by-sent.ensures.last, c.purge.ensures.last, few, links))
    (c.send_by-sent.ensures.size ∙ c.purge.ensures.size)

pub returns-clause-few : goal.returns-clause-few
returns-clause-few c =
    let reply = replied c.args.effect.now (following c.epoch_at-epoch.result) in
    let same = ap length (sent_same (old c) c.purge.new.self (ticked c) reply c.purge.ensures.last) in
    let most = sent_room (old c) (ticked c) reply (was_accepted c) (tick_tells c.args.reference c.args.d c.args.counter c.args.effect.now
    (following c.epoch_at-epoch.result)) in
    let here : c.send_by-sent.result.count ≤ ends_in (old c) c.args.d = omega (arith, c.send_by-sent.ensures.count, same, most) in
    subst (λ (r : Registers). c.send_by-sent.result.count ≤ ends_in r c.args.d) c.self.view_is here

-- what was sent, by what the device answers

module _ (c : goal.After-note_rest) (a : AnswerSummary) (at : at_place (old c).membership.answers c.args.d None (λ x. x) ≡ Some a) where
  sent_alike : sent_by (mid c) c.args.reference c.args.d c.epoch_at-epoch.result c.args.effect.now ≡ sent_in (mid c) (ticked c) (replied c.args.effect.now a)
  sent_alike =
      ap (λ n. sent_by (mid c) c.args.reference c.args.d n c.args.effect.now)
      (c.epoch_at-epoch.ensures ∙ epoch_is (old c) c.args.reference c.args.d c.args.counter a (was_accepted c) at)

  observed : c.note_rest.new.self ≡ memberships.registers_after (old c).membership (ticked c) (Some a)
  observed = c.note_rest.ensures.tick ∙ same_answers (old c).membership (ticked c) c.args.d a refl at

  parts : Parts (old c) (ticked c) (replied c.args.effect.now a) c.purge.new.self c.send_by-sent.new.book c.send_by-sent.new.book c.note_rest.new.self
      c.note_rest.new.self
  parts =
      record {
        delivers = c.purge.ensures.flights;
        delivers_last = c.purge.ensures.last;
        delivers_size = c.purge.ensures.size;
        sends = c.send_by-sent.ensures.flights ∙ ap (λ fs. c.purge.new.self.flights ++ filter (λ (f : Flight). f.reaches) fs) sent_alike;
        sends_last = c.send_by-sent.ensures.last ∙ ap (λ (fs : List Flight). c.purge.new.self.last + length fs) sent_alike;
        sends_size = c.send_by-sent.ensures.size;
        sweeps = refl;
        sweeps_last = refl;
        sweeps_size = refl;
        observes = observed;
        closes = not_closed (old c).membership c.args.reference c.args.d c.args.counter a (was_shut c) c.note_rest.new.self observed;
      }

  sends : SendsTo (old c) (ticked c) (replied c.args.effect.now a) c.send_by-sent.result (new c)
  sends =
      let same = sent_alike ∙ sent_same (old c) c.purge.new.self (ticked c) (replied c.args.effect.now a) c.purge.ensures.last in
      record {
        after = is_after (old c) (ticked c) (replied c.args.effect.now a) c.purge.new.self c.send_by-sent.new.book c.send_by-sent.new.book
            c.note_rest.new.self c.note_rest.new.self parts;
        first = c.send_by-sent.ensures.first ∙ ap first_number same;
        count = c.send_by-sent.ensures.count ∙ ap length same;
      }

pub invariant_of-self : goal.invariant_of-self
invariant_of-self c = sound c

pub returns-clause-sound : goal.returns-clause-sound
returns-clause-sound c = sound c

pub returns-clause-stays : goal.returns-clause-stays
returns-clause-stays c =
    subst (λ (r : Registers). StaysAt r.membership c.note_rest.new.self c.args.d) c.self.view_is
    (stays_at (old c).membership c.note_rest.new.self c.args.reference c.args.d c.args.counter c.note_rest.ensures.tick)

pub returns-clause-sends : goal.returns-clause-sends
returns-clause-sends c = λ answers at.
    subst (λ r. SendsTo r (ticked c) (replied c.args.effect.now answers) c.send_by-sent.result (new c)) c.self.view_is
    (sends c answers (subst (λ (r : Registers). at_place r.membership.answers c.args.d None (λ x. x) ≡ Some answers) (sym c.self.view_is) at))
