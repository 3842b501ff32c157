-- For which lists the monitor of drift stands.
use Rattle.std.specs.Prelude.{◌≡◌, ℕ, Bool, List, length, IsTrue, Option, Some, None, slice_get}
use Rattle.sd_plan.specs.topo.Network.{rates_of}
use Rattle.sd_sched.specs.declared.Event.{Event}
use Rattle.sd_sched.specs.Events.{reference_of, device_of, counter_of}
use Rattle.sd_history.specs.World.{Setting, Seen, latest_reference, latest_reading}
use Rattle.sd_history.specs.Premises.{readings, drift_holds}
use Rattle.sd_history.specs.Refusals.{makes_some}
use Rattle.sd_monitors.specs.declared.clocks.offsets.Reading.{Reading}
use Rattle.sd_monitors.specs.declared.clocks.drift.Life.{Life}
use Rattle.sd_monitors.specs.clocks.Readings.{least_offsets, is_after_each}

-- what is kept: by device its present life, and whether the premise holds
pub record DriftKept : Type 0 where
  pub lives : List Life
  pub holds : Bool

-- a reading of a device and a counter, where there are both
abbrev pub reading_with : Option ℕ → Option ℕ → ℕ → Option (ℕ × Reading)
reading_with (Some d) (Some counter) reference = Some (d, record { reference = reference; counter = counter })
reading_with _ _ reference = None

-- the reading that the event is, with its device: it names a device and a counter
abbrev pub reading_of : Event → Option (ℕ × Reading)
reading_of e = reading_with (device_of e) (counter_of e) (reference_of e)

-- the event is this reading, and begins a life or goes on with one
pub record IsReading (e : Event) (device reference counter : ℕ) (begins : Bool) : Type 0 where
  pub reading : reading_of e ≡ Some (device, record { reference = reference; counter = counter })
  pub life : begins ≡ makes_some e

-- the life has the rates of the device, and the least offsets of its readings
pub record IsLifeOf (setting : Setting) (seen : List Seen) (d : ℕ) (life : Life) : Type 0 where
  pub rates : life.rates ≡ rates_of setting.net d
  pub offsets : life.offsets ≡ least_offsets life.rates.ppm (readings seen d)

-- what is kept stands for what was seen
pub record DriftStands (setting : Setting) (kept : DriftKept) (seen : List Seen) : Type 0 where
  pub holds : kept.holds ≡ drift_holds setting seen
  pub devices : length kept.lives ≡ length setting.net.devices
  pub lives : (d : ℕ) (life : Life) → slice_get kept.lives d ≡ Some life → IsLifeOf setting seen d life
  -- the readings of a life came in the order of references and counters
  pub in_order : (d : ℕ) → IsTrue (is_after_each (readings seen d) (latest_reference seen, latest_reading seen d))
