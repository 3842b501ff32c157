-- When two fleets of devices agree, in what they keep.
use Rattle.std.specs.Prelude.{◌≡◌, ◌≢◌, ℕ, ◌+◌, ◌<◌, true, ◌||◌, length}
use Rattle.sd_plan.specs.declared.topo.Thing.TheVariants.{Device, Link}
use Rattle.sd_device.specs.declared.registers.Registers.{Registers}
use Rattle.sd_device.specs.contracts.device.DeviceNode.TheImpl.{ghosts as device}
use Rattle.sd_world.specs.world.Registers as worlds
use Rattle.sd_world.specs.world.Registers.{up_at, failed_at, reading_at, is_open}
use Rattle.sd_fleet.specs.Nodes.{node_at}
use Rattle.sd_fleet.specs.declared.fleet.Fleet.{Fleet}
use Rattle.sd_resume.specs.law.Shifts.{Shift}
use Rattle.sd_resume.specs.declared.differences.Difference.{Difference}
use Rattle.sd_resume.specs.declared.differences.Difference.TheVariants as difference
use Rattle.sd_resume.specs.Devices.{NodesAgree, NodesDiffer}
use Rattle.sd_resume.specs.Worlds.{MomentsAgree, StatesAgree, LinksAgree}

-- a fleet of devices
abbrev pub DeviceFleet : Type 0
DeviceFleet = Fleet Registers device

-- the world of its devices and links
abbrev pub world_of : DeviceFleet → worlds.Registers
world_of fleet = fleet.fabric.membership.world

-- how many devices and links it has
abbrev pub devices_of : DeviceFleet → ℕ
devices_of fleet = length fleet.fabric.net.devices

abbrev pub links_of : DeviceFleet → ℕ
links_of fleet = length fleet.fabric.net.links

-- of one device both keep the same: what is known of it, and, where it is up, its registers
pub record DeviceAgrees (shift : Shift) (one other : DeviceFleet) (d : ℕ) : Type 0 where
  pub states : StatesAgree (world_of one) (world_of other) d
  pub nodes : up_at (world_of other) d ≡ true
      → NodesAgree shift (reading_at (world_of other) d) (node_at one.nodes.items d) (node_at other.nodes.items d)

-- of the first devices both keep the same
abbrev pub AllDevicesAgree : Shift → (one other : DeviceFleet) → ℕ → Type 0
AllDevicesAgree shift one other count = (d : ℕ) → d < count → DeviceAgrees shift one other d

-- two fleets of this many devices and links agree
pub record FleetsAgree (shift : Shift) (one other : DeviceFleet) : Type 0 where
  pub moments : MomentsAgree shift (world_of one) (world_of other)
  pub devices : AllDevicesAgree shift one other (devices_of one)
  pub links : LinksAgree (world_of one) (world_of other) (links_of one)

-- the fleets differ in this, of what they keep beside flights
abbrev pub FleetsDiffer : Shift → (one other : DeviceFleet) → Difference → Type 0
FleetsDiffer shift one other difference.Window = (is_open (world_of one).window || is_open (world_of other).window) ≡ true
FleetsDiffer shift one other difference.Time = (world_of one).reference ≢ (world_of other).reference
FleetsDiffer shift one other difference.Plan = (world_of one).epoch ≢ (world_of other).epoch + shift.plans
FleetsDiffer shift one other difference.End = (world_of one).ended ≢ (world_of other).ended
FleetsDiffer shift one other (difference.Up d) = (d < devices_of one) × (up_at (world_of one) d ≢ up_at (world_of other) d)
FleetsDiffer shift one other (difference.Failed (Device d)) =
    (d < devices_of one) × (failed_at (world_of one) (Device d) ≢ failed_at (world_of other) (Device d))
FleetsDiffer shift one other (difference.Failed (Link l)) =
    (l < links_of one) × (failed_at (world_of one) (Link l) ≢ failed_at (world_of other) (Link l))
FleetsDiffer shift one other (difference.Reading d) =
    (d < devices_of one) × (up_at (world_of other) d ≡ true) × (reading_at (world_of one) d ≢ reading_at (world_of other) d)
FleetsDiffer shift one other (difference.Register d register) =
    (d < devices_of one) × (up_at (world_of other) d ≡ true)
    × NodesDiffer shift (reading_at (world_of other) d) register (node_at one.nodes.items d) (node_at other.nodes.items d)
FleetsDiffer shift one other _ = ⊥
