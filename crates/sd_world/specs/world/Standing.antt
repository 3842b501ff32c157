-- For what is seen of a history the registers of a world stand.
use Rattle.std.specs.Prelude.{◌≡◌, ℕ, ◌<◌, ◌≤◌, List, length, count_by}
use Rattle.sd_plan.specs.declared.topo.Thing.TheVariants as thing
use Rattle.sd_sched.specs.Events.{is_stage}
use Rattle.sd_history.specs.World.{Setting, Seen, is_up, has_failed, was_made, has_ever_failed, latest_reference, latest_reading, window_is_open, has_commit, epoch_in_force, joined_in_window}
use Rattle.sd_history.specs.Refusals.{after_end}
use Rattle.sd_world.specs.world.Registers.{Registers, device_at, up_at, failed_at, ever_failed_at, made_at, reading_at, is_open, is_committed, joins_at}

-- what is kept of one device
pub record StandsAt (r : Registers) (seen : List Seen) (d : ℕ) : Type 0 where
  pub up : up_at r d ≡ is_up seen d
  pub failed : failed_at r (thing.Device d) ≡ has_failed seen (thing.Device d)
  pub ever_failed : ever_failed_at r d ≡ has_ever_failed seen d
  pub made : made_at r d ≡ was_made seen d
  pub reading : reading_at r d ≡ latest_reading seen d
  pub joins : joins_at r d ≡ joined_in_window seen d
  -- no device joined in a window that is to come
  pub joined_before : (device_at r d).joined ≤ r.windows

-- The registers hold, for each device and each link of the network and for all of them, what the words on histories say of what was
-- seen.
pub record Stands (r : Registers) (setting : Setting) (seen : List Seen) : Type 0 where
  pub device_count : length r.devices ≡ length setting.net.devices
  pub link_count : length r.failed_links ≡ length setting.net.links
  pub devices : (d : ℕ) → d < length r.devices → StandsAt r seen d
  pub links : (l : ℕ) → l < length r.failed_links → failed_at r (thing.Link l) ≡ has_failed seen (thing.Link l)
  pub reference : r.reference ≡ latest_reference seen
  pub events : r.events ≡ length seen
  pub ended : r.ended ≡ after_end seen
  pub open_window : is_open r.window ≡ window_is_open seen
  pub commit : is_committed r.window ≡ has_commit seen
  pub windows : r.windows ≡ count_by (λ s. is_stage s.event) seen
  pub epoch : r.epoch ≡ epoch_in_force seen
