-- Only the time goes on.
use Rattle.std.proofs.Common.{◌≡◌, None, Some, false, arith, sym, subst}
use Rattle.sd_num.specs.Lists.{at_place}
use Rattle.sd_sched.specs.declared.Event.TheVariants as event
use Rattle.sd_device.specs.declared.Effect.TheVariants.{Quiet}
use Rattle.sd_world.specs.world.Registers.{is_open}
use Rattle.sd_fleet.specs.Registers.{Registers, kept}
use Rattle.sd_fleet.specs.Causes.{refusal_in}
use Rattle.sd_fleet.specs.Doing.{replied}
use Rattle.sd_fleet.specs.FabricView.{registers_seen}
use Rattle.sd_fleet.specs.Sound.{IsSound}
use Rattle.sd_fleet.specs.Stepping.{IsAfter}
use Rattle.sd_fleet.specs.Staying.{StaysAt}
use Rattle.sd_fleet.proofs.FabricKeeping.{named_answers}
use Rattle.sd_fleet.proofs.TickRests.{after_rest, sound_rest, stays_at}
use Rattle.sd_fleet.proofs.fabric.Fabric.rest.Goals as goal

pub note_rest-requires-clause-room : goal.note_rest-requires-clause-room
note_rest-requires-clause-room c = omega (arith, c.self.invariant.events)

pub note_rest-requires-clause-range : goal.note_rest-requires-clause-range
note_rest-requires-clause-range c =
    named_answers (registers_seen c.self.inside) (event.Tick c.args.reference c.args.d c.args.counter) c.self.invariant
    (subst (λ r. refusal_in r (event.Tick c.args.reference c.args.d c.args.counter) ≡ None) (sym c.self.view_is) c.requires.accepted)

pub note_rest-requires-clause-closed : goal.note_rest-requires-clause-closed
note_rest-requires-clause-closed c = subst (λ (r : Registers). is_open r.membership.world.window ≡ false) (sym c.self.view_is) c.requires.shut

abbrev old : goal.After-note_rest → Registers
old c = registers_seen c.self.inside

abbrev new : goal.After-note_rest → Registers
new c = kept (old c).net c.note_rest.new.self c.purge.new.self

sound : (c : goal.After-note_rest) → IsSound (new c)
sound c =
    sound_rest (old c) c.args.reference c.args.d c.args.counter c.purge.new.self c.note_rest.new.self c.self.invariant
    (subst (λ r. refusal_in r (event.Tick c.args.reference c.args.d c.args.counter) ≡ None) (sym c.self.view_is) c.requires.accepted)
    c.note_rest.ensures.tick c.note_rest.ensures.sound c.purge.ensures.given (omega (arith, c.purge.ensures.last)) c.purge.ensures.size

pub invariant_of-self : goal.invariant_of-self
invariant_of-self c = sound c

pub returns-clause-sound : goal.returns-clause-sound
returns-clause-sound c = sound c

pub returns-clause-stays : goal.returns-clause-stays
returns-clause-stays c =
    subst (λ (r : Registers). StaysAt r.membership c.note_rest.new.self c.args.d) c.self.view_is
    (stays_at (old c).membership c.note_rest.new.self c.args.reference c.args.d c.args.counter c.note_rest.ensures.tick)

pub returns-clause-after : goal.returns-clause-after
returns-clause-after c =
    λ answers at.
    subst (λ r. IsAfter r (event.Tick c.args.reference c.args.d c.args.counter) (replied Quiet answers) (new c)) c.self.view_is
    (after_rest (old c) c.args.reference c.args.d c.args.counter c.purge.new.self c.note_rest.new.self c.note_rest.ensures.tick
    c.purge.ensures.flights c.purge.ensures.last c.purge.ensures.size
    (subst (λ (r : Registers). is_open r.membership.world.window ≡ false) (sym c.self.view_is) c.requires.shut)
    answers (subst (λ (r : Registers). at_place r.membership.answers c.args.d None (λ x. x) ≡ Some answers) (sym c.self.view_is) at))
