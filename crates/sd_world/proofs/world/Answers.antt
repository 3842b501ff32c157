-- What the registers tell is what the words on histories say.
use Rattle.std.specs.Prelude.{◌≡◌, ℕ, ◌<◌, false, List, length, nat_le, Option, Some, None, IfSome}
use Rattle.std.proofs.Common.{subst, sym}
use Rattle.std.proofs.lemmas.Bool.{leb-false}
use Rattle.sd_num.specs.Lists.{map_or}
use Rattle.sd_plan.specs.declared.topo.Thing.{Thing}
use Rattle.sd_plan.specs.declared.topo.Thing.TheVariants as thing
use Rattle.sd_sched.specs.declared.Event.{Event}
use Rattle.sd_sched.specs.Events.{device_of, link_of}
use Rattle.sd_history.specs.World.{Setting, Seen, is_up, has_failed, has_ever_failed, was_made, latest_reading, joined_in_window}
use Rattle.sd_history.specs.Refusals.{unknown_device, unknown_link}
use Rattle.sd_world.specs.world.Registers.{Registers, up_at, failed_at, ever_failed_at, made_at, reading_at, joins_at, HasThing, HasNamed}
use Rattle.sd_world.specs.world.Standing.{Stands, StandsAt}

at_device : (r : Registers) (setting : Setting) (seen : List Seen) (d : ℕ) → Stands r setting seen → d < length setting.net.devices → StandsAt r seen d
at_device r setting seen d stands within = stands.devices d (subst (λ (n : ℕ). d < n) (sym stands.device_count) within)

pub up_stands : (r : Registers) (setting : Setting) (seen : List Seen) (d : ℕ) → Stands r setting seen → d < length setting.net.devices
    → up_at r d ≡ is_up seen d
up_stands r setting seen d stands within = (at_device r setting seen d stands within).up

pub ever_failed_stands : (r : Registers) (setting : Setting) (seen : List Seen) (d : ℕ) → Stands r setting seen → d < length setting.net.devices
    → ever_failed_at r d ≡ has_ever_failed seen d
ever_failed_stands r setting seen d stands within = (at_device r setting seen d stands within).ever_failed

pub made_stands : (r : Registers) (setting : Setting) (seen : List Seen) (d : ℕ) → Stands r setting seen → d < length setting.net.devices
    → made_at r d ≡ was_made seen d
made_stands r setting seen d stands within = (at_device r setting seen d stands within).made

pub reading_stands : (r : Registers) (setting : Setting) (seen : List Seen) (d : ℕ) → Stands r setting seen → d < length setting.net.devices
    → reading_at r d ≡ latest_reading seen d
reading_stands r setting seen d stands within = (at_device r setting seen d stands within).reading

pub joins_stands : (r : Registers) (setting : Setting) (seen : List Seen) (d : ℕ) → Stands r setting seen → d < length setting.net.devices
    → joins_at r d ≡ joined_in_window seen d
joins_stands r setting seen d stands within = (at_device r setting seen d stands within).joins

pub failed_stands : (r : Registers) (setting : Setting) (seen : List Seen) (x : Thing) → Stands r setting seen → HasThing r x
    → failed_at r x ≡ has_failed seen x
failed_stands r setting seen (thing.Device d) stands within = (stands.devices d within).failed
failed_stands r setting seen (thing.Link l) stands within = stands.links l within

-- an event that names no unknown device and no unknown link names what is in range
in_range : (count : ℕ) (o : Option ℕ) → map_or o false (λ x. nat_le count x) ≡ false → IfSome o (λ x. x < count)
in_range count None known = tt
in_range count (Some x) known = leb-false count x known

pub named_stands : (r : Registers) (setting : Setting) (seen : List Seen) (e : Event) → Stands r setting seen → unknown_device setting e ≡ false
    → unknown_link setting e ≡ false → HasNamed r e
named_stands r setting seen e stands device link =
    record {
      device = subst (λ (n : ℕ). IfSome (device_of e) (λ d. d < n)) (sym stands.device_count) (in_range (length setting.net.devices) (device_of e) device);
      link = subst (λ (n : ℕ). IfSome (link_of e) (λ l. l < n)) (sym stands.link_count) (in_range (length setting.net.links) (link_of e) link);
    }
