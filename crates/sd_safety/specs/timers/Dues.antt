-- What the latest tick of a device says of its waits: had one of them been over by then, the tick would have acted on it.
use Rattle.std.specs.Prelude.{◌≡◌, ℕ, ◌+◌, ◌<◌, ◌≤◌, true, false, List, length, max, Option, Some, is_some, if◌then◌else◌}
use Rattle.sd_num.specs.Lists.{map_or}
use Rattle.sd_num.specs.Numbers.{up}
use Rattle.sd_num.specs.declared.Rates.{Rates}
use Rattle.sd_plan.specs.declared.Duty.{Duty}
use Rattle.sd_device.specs.Calls.{CallDone, Past}
use Rattle.sd_device.specs.Words.{duty_now, is_sealed, has_moved, is_acting, is_backup_root_now, wait_to_move, emits}
use Rattle.sd_history.specs.World.{Setting, Seen, is_up}
use Rattle.sd_history.specs.Steps.{Step, seen_of}
use Rattle.sd_history.specs.Premises.{latest_tick, is_current_member, ticks_in_time}
use Rattle.sd_safety.specs.timers.Times.{AreTimed, hears, moves, seal_with, is_tick, heard_in, moved_in, sent_in, sealed_in}

-- of a device with this past: the references of its latest tick or making, of what it heard, moved and sent last, and of its first seal
pub record Times : Type 0 where
  pub tick : ℕ
  pub heard : ℕ
  pub moved : ℕ
  pub sent : ℕ
  pub seal : Option ℕ

-- at its latest tick a device on its primary had been silent for at most Up of its wait, or was not sealed before; one on its backup had
-- rested for at most Up of its second wait; one that acts had sent, or begun to act, at most Up of the period ago
pub record Due (rates : Rates) (period : ℕ) (past : Past) (t : Times) : Type 0 where
  pub primary : (duty : Duty) (wait q : ℕ) → duty_now past ≡ Some duty → wait_to_move duty ≡ Some wait → has_moved past ≡ false → is_acting past ≡ false
      → t.seal ≡ Some q → t.tick ≤ max (t.heard + up rates wait) q
  pub backup : (duty : Duty) → duty_now past ≡ Some duty → is_backup_root_now past ≡ true → has_moved past ≡ true → is_acting past ≡ false
      → t.tick ≤ max t.heard t.moved + up rates duty.wait_second
  pub acting : is_acting past ≡ true → t.tick ≤ t.sent + up rates period
  pub sealed : is_some t.seal ≡ is_sealed past

-- the times after a call at this reference
abbrev pub times_with : ℕ → CallDone → Times → Times
times_with r x t =
    record {
      tick = if is_tick x.call then r else t.tick;
      heard = map_or (hears x) t.heard (λ c. r);
      moved = map_or (moves x) t.moved (λ c. r);
      sent = map_or (emits x) t.sent (λ c. r);
      seal = seal_with r x t.seal;
    }

-- the times at a making
abbrev pub times_made : ℕ → Times
times_made r = record { tick = r; heard = r; moved = r; sent = r; seal = Some r }

-- the times of a device in a list of steps
abbrev pub times_in : List Step → ℕ → Times
times_in steps d =
    record { tick = latest_tick (seen_of steps) d; heard = heard_in steps d; moved = moved_in steps d; sent = sent_in steps d; seal = sealed_in steps d }

-- an event after these steps, of which the tick premise holds, while the device is up and a member of the plan in force or of the staged one
pub record AtEvent (setting : Setting) (s : Seen) (earlier : List Step) (d : ℕ) : Type 0 where
  pub timed : AreTimed setting earlier
  pub ticks : ticks_in_time setting s (seen_of earlier) ≡ true
  pub known : d < length setting.net.devices
  pub up : is_up (seen_of earlier) d ≡ true
  pub member : is_current_member setting (seen_of earlier) d ≡ true
