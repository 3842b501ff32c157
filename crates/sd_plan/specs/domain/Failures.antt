-- Failures: sets of devices and links that have failed.
use Rattle.std.specs.Prelude.{ℕ, ◌<◌, Bool, List, ◌++◌, length, map, refl}
use Rattle.std.specs.Ordering.{nat_cmp}
use Rattle.std.specs.FinSet as set
use Rattle.std.specs.FinSet.{FinSet}
use Rattle.std.specs.Coded.{Coded, code_by, coded×, coded_ℕ}
use Rattle.sd_plan.specs.topo.Network.{Network}
use Rattle.sd_plan.specs.declared.topo.Thing.{Thing}
use Rattle.sd_plan.specs.declared.topo.Thing.TheVariants as thing

-- what is seen of a failure: the failed devices and the failed links by number, and for how many devices and links there is room
pub record FailedThings : Type 0 where
  pub devices : FinSet nat_cmp
  pub links : FinSet nat_cmp
  pub device_room : ℕ
  pub link_room : ℕ

-- it is stored as the tuple of its fields
abbrev pub failed_code : Coded FailedThings
failed_code =
    code_by ((FinSet nat_cmp × FinSet nat_cmp) × (ℕ × ℕ))
    (coded× (coded× (set.code coded_ℕ) (set.code coded_ℕ)) (coded× coded_ℕ coded_ℕ))
    (λ f. ((f.devices, f.links), (f.device_room, f.link_room)))
    (λ p. record { devices = p.0.0; links = p.0.1; device_room = p.1.0; link_room = p.1.1 })
    (λ _. refl)

-- nothing has failed, of this many devices and links
abbrev pub nothing_of : ℕ → ℕ → FailedThings
nothing_of devices links = record { devices = set.empty; links = set.empty; device_room = devices; link_room = links }

-- nothing of the network has failed
abbrev pub nothing_in : Network → FailedThings
nothing_in net = nothing_of (length net.devices) (length net.links)

-- the thing's number is in range
abbrev pub HasRoom : FailedThings → Thing → Type 0
HasRoom failed (thing.Device d) = d < failed.device_room
HasRoom failed (thing.Link l) = l < failed.link_room

-- the thing has failed too
abbrev pub with_thing : FailedThings → Thing → FailedThings
with_thing failed (thing.Device d) = record failed { devices = set.insert failed.devices d }
with_thing failed (thing.Link l) = record failed { links = set.insert failed.links l }

-- the thing has failed
abbrev pub has_thing : FailedThings → Thing → Bool
has_thing failed (thing.Device d) = set.contains failed.devices d
has_thing failed (thing.Link l) = set.contains failed.links l

-- all that has failed: devices by number, then links by number
abbrev pub things_of : FailedThings → List Thing
things_of failed = map thing.Device (set.items failed.devices) ++ map thing.Link (set.items failed.links)
