-- The registers of a world, and what an event makes of them.
use Rattle.std.specs.Prelude.{ℕ, ◌+◌, ◌^◌, ◌<◌, Bool, true, false, ◌&&◌, ◌||◌, not, List, length, replicate, slice_index_or, slice_set, nat_eq, nat_le, nat_lt, IfSome, if◌then◌else◌}
use Rattle.sd_num.specs.Lists.{map_or}
use Rattle.sd_plan.specs.declared.topo.Thing.{Thing}
use Rattle.sd_plan.specs.declared.topo.Thing.TheVariants as thing
use Rattle.sd_sched.specs.declared.Event.{Event}
use Rattle.sd_sched.specs.declared.Event.TheVariants as event
use Rattle.sd_sched.specs.Events.{reference_of, device_of, link_of, is_stage, is_commit, is_end_event}
use Rattle.sd_world.specs.declared.world.window.Window.{Window}
use Rattle.sd_world.specs.declared.world.window.Window.TheVariants.{Closed, Preparing, Committed}
use Rattle.sd_world.specs.declared.world.device.DeviceState.{DeviceState}

-- devices and links by number, and what is one for all of them. Windows are numbered from 1, as plans are; `windows` were opened so far
pub record Registers : Type 0 where
  pub devices : List DeviceState
  pub failed_links : List Bool
  pub reference : ℕ
  pub events : ℕ
  pub ended : Bool
  pub window : Window
  pub windows : ℕ
  pub epoch : ℕ

-- a device of which nothing was seen
abbrev pub untouched : DeviceState
untouched = record { up = false; failed = false; ever_failed = false; made = false; reading = 0; joined = 0 }

-- those of this many devices and links before any event: the first plan is in force
abbrev pub first_registers : ℕ → ℕ → Registers
first_registers devices links =
    record {
      devices = replicate devices untouched;
      failed_links = replicate links false;
      reference = 0;
      events = 0;
      ended = false;
      window = Closed;
      windows = 0;
      epoch = 1;
    }

-- What they tell

-- the state of a device
abbrev pub device_at : Registers → ℕ → DeviceState
device_at r d = slice_index_or r.devices d untouched

-- the device is up
abbrev pub up_at : Registers → ℕ → Bool
up_at r d = (device_at r d).up

-- the device or the link is failed
abbrev pub failed_at : Registers → Thing → Bool
failed_at r (thing.Device d) = (device_at r d).failed
failed_at r (thing.Link l) = slice_index_or r.failed_links l false

-- the device has failed at some time
abbrev pub ever_failed_at : Registers → ℕ → Bool
ever_failed_at r d = (device_at r d).ever_failed

-- the device was made at some time
abbrev pub made_at : Registers → ℕ → Bool
made_at r d = (device_at r d).made

-- the latest reading of the device
abbrev pub reading_at : Registers → ℕ → ℕ
reading_at r d = (device_at r d).reading

-- the window is open
abbrev pub is_open : Window → Bool
is_open Closed = false
is_open Preparing = true
is_open Committed = true

-- the window is open, and there was a commit in it
abbrev pub is_committed : Window → Bool
is_committed Closed = false
is_committed Preparing = false
is_committed Committed = true

-- the device joined in the open window
abbrev pub joins_at : Registers → ℕ → Bool
joins_at r d = is_open r.window && nat_eq (device_at r d).joined r.windows

-- the device is there and up, what it would read and the reference time do not fall, and the schedule goes on
abbrev pub admits_call : Registers → ℕ → ℕ → ℕ → Bool
admits_call r reference d counter =
    nat_lt d (length r.devices) && (up_at r d && (not (failed_at r (thing.Device d)) && (nat_le (reading_at r d) counter
    && (nat_le r.reference reference && (not r.ended && nat_lt r.events (2 ^ 26))))))

-- What is in range

-- the registers have the device or the link
abbrev pub HasThing : Registers → Thing → Type 0
HasThing r (thing.Device d) = d < length r.devices
HasThing r (thing.Link l) = l < length r.failed_links

-- the device and the link of the event, where it names one, are in range
pub record HasNamed (r : Registers) (e : Event) : Type 0 where
  pub device : IfSome (device_of e) (λ d. d < length r.devices)
  pub link : IfSome (link_of e) (λ l. l < length r.failed_links)

-- What an event changes

-- the device that the event names, while this many windows were opened
abbrev pub device_after : Event → ℕ → DeviceState → DeviceState
device_after (event.Start reference device counter clock eps) windows s = record s { up = true; made = true; reading = counter }
device_after (event.Join reference device counter clock eps) windows s = record s { up = true; made = true; reading = counter; joined = windows }
device_after (event.Tick reference device counter) windows s = record s { reading = counter }
device_after (event.Recv reference device counter message) windows s = record s { reading = counter }
device_after (event.Fix reference device counter clock eps) windows s = record s { reading = counter }
device_after (event.Ask reference device counter) windows s = record s { reading = counter }
device_after (event.Commit reference device counter) windows s = record s { reading = counter }
device_after (event.FailDevice reference device) windows s = record s { up = false; failed = true; ever_failed = true }
device_after (event.MendDevice reference device) windows s = record s { failed = false }
device_after _ windows s = s

-- the states of devices after an event
abbrev pub devices_after : Event → ℕ → List DeviceState → List DeviceState
devices_after e windows devices =
    map_or (device_of e) devices (λ d. slice_set devices d (device_after e windows (slice_index_or devices d untouched)))

-- which links are failed after an event
abbrev pub links_after : Event → List Bool → List Bool
links_after (event.FailLink reference link) failed = slice_set failed link true
links_after (event.MendLink reference link) failed = slice_set failed link false
links_after _ failed = failed

-- the event opens a window, or commits the plan of the open one
abbrev pub window_after : Event → Window → Window
window_after e w = if is_stage e then Preparing else if is_commit e && is_open w then Committed else w

-- an event with which the window does not close
abbrev pub registers_after : Registers → Event → Registers
registers_after r e =
    record {
      devices = devices_after e r.windows r.devices;
      failed_links = links_after e r.failed_links;
      reference = reference_of e;
      events = r.events + 1;
      ended = is_end_event e || r.ended;
      window = window_after e r.window;
      windows = if is_stage e then r.windows + 1 else r.windows;
      epoch = r.epoch;
    }

-- the window closes with the latest event: the next plan is in force
abbrev pub registers_closed : Registers → Registers
registers_closed r = record r { window = Closed; epoch = r.epoch + 1 }
