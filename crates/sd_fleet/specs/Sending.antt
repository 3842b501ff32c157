-- The flights of a message over the ends below its sender, by what a fabric keeps.
use Rattle.std.specs.Prelude.{◌≡◌, ℕ, ◌+◌, ◌*◌, List, [], ◌∷◌, length, not, ◌&&◌}
use Rattle.sd_num.specs.Lists.{map_or}
use Rattle.sd_plan.specs.topo.Network.{Network, delay_of}
use Rattle.sd_plan.specs.topo.Limits.{IsNetwork}
use Rattle.sd_plan.specs.declared.topo.Thing.TheVariants as thing
use Rattle.sd_plan.specs.declared.End.{End}
use Rattle.sd_device.specs.declared.msg.Flight.{Flight}
use Rattle.sd_device.specs.declared.Effect.{Effect}
use Rattle.sd_device.specs.declared.Effect.TheVariants.{Quiet, Send}
use Rattle.sd_world.specs.world.Registers as worlds
use Rattle.sd_world.specs.world.Registers.{up_at, failed_at}
use Rattle.sd_sched.specs.declared.Event.{Event}
use Rattle.sd_sched.specs.Events.{reference_of, device_of}
use Rattle.sd_world.specs.membership.Memberships.{ends_below}
use Rattle.sd_fleet.specs.declared.Reply.{Reply}
use Rattle.sd_fleet.specs.declared.messages.Sending.{Sending}
use Rattle.sd_fleet.specs.Registers.{Registers}

-- the world has a place for each device and each link of the network
pub record Covers (network : Network) (world : worlds.Registers) : Type 0 where
  pub net : IsNetwork network
  pub devices : length world.devices ≡ length network.devices
  pub links : length world.failed_links ≡ length network.links

-- the flight over one end, with this number
abbrev pub flight_over : Network → worlds.Registers → Sending → ℕ → End → Flight
flight_over net world sending number end =
    record {
      number = number;
      link = end.link;
      sender = sending.sender;
      receiver = end.device;
      sent_at = sending.reference;
      due = sending.reference + (delay_of net end.link end.device).max;
      last = sending.reference + 2 * (delay_of net end.link end.device).max;
      reaches = not (failed_at world (thing.Link end.link)) && up_at world end.device;
      message = sending.message;
    }

-- one flight for each end, numbered on
abbrev pub flights_over : Network → worlds.Registers → Sending → ℕ → List End → List Flight
flights_over net world sending number [] = []
flights_over net world sending number (end ∷ others) = flight_over net world sending number end ∷ flights_over net world sending (number + 1) others

-- What an event sends

-- a device that sends this in the plan with a number
abbrev pub sent_by : Registers → ℕ → ℕ → ℕ → Effect → List Flight
sent_by r reference d epoch Quiet = []
sent_by r reference d epoch (Send message) =
    flights_over r.net r.membership.world (record { reference = reference; sender = d; message = message }) (r.book.last + 1) (ends_below r.membership epoch d)

-- what the named device sends at the event, where it replied this
abbrev pub sent_in : Registers → Event → Reply → List Flight
sent_in r e reply = map_or (device_of e) [] (λ d. map_or reply.answers [] (λ a. sent_by r (reference_of e) d a.epoch reply.effect))
