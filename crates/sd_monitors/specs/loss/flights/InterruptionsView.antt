-- What is seen of the interruptions that are kept.
use Rattle.std.specs.Prelude.{◌≡◌, ℕ, Bool, nat_lt, slice_index, vec_len}
use Rattle.sd_plan.specs.declared.topo.Thing.{Thing}
use Rattle.sd_plan.specs.declared.topo.Thing.TheVariants.{Device, Link}
use Rattle.sd_monitors.specs.declared.loss.flights.interruptions.Interruptions.{Interruptions}

-- the number up to which failures of the thing interrupted its flights
abbrev pub mark_of : Interruptions → Thing → ℕ
mark_of interruptions (Device d) = slice_index interruptions.devices.items d
mark_of interruptions (Link l) = slice_index interruptions.links.items l

-- the greatest number that was sent
abbrev pub last_number : Interruptions → ℕ
last_number interruptions = interruptions.last

-- for how many devices there is a place
abbrev pub device_places : Interruptions → ℕ
device_places interruptions = vec_len interruptions.devices

-- for how many links
abbrev pub link_places : Interruptions → ℕ
link_places interruptions = vec_len interruptions.links

-- there is a place for the thing
abbrev pub has_place : Interruptions → Thing → Bool
has_place interruptions (Device d) = nat_lt d (device_places interruptions)
has_place interruptions (Link l) = nat_lt l (link_places interruptions)

-- there are places for the same things
pub record HasSamePlaces (old new : Interruptions) : Type 0 where
  pub devices : device_places new ≡ device_places old
  pub links : link_places new ≡ link_places old
