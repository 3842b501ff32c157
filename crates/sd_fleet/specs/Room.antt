-- For how many messages of an event there has to be room.
use Rattle.std.specs.Prelude.{ℕ, ◌+◌, List, length, nat_lt, if◌then◌else◌}
use Rattle.sd_num.specs.Lists.{map_or}
use Rattle.sd_plan.specs.Duties.{ends_of}
use Rattle.sd_sched.specs.declared.Event.{Event}
use Rattle.sd_sched.specs.declared.Event.TheVariants as event
use Rattle.sd_history.specs.World.{Setting, in_force, staged}
use Rattle.sd_history.specs.Steps.{Step, seen_of}
use Rattle.sd_world.specs.membership.Memberships.{ends_below}
use Rattle.sd_fleet.specs.Registers.{Registers}

-- By the history: a tick or a receipt may send over each end that its device has below it in the plan in force and, where one is staged, in
-- that plan. No other event sends.

-- the ends below the device in both plans
abbrev pub ends_of_both : Setting → List Step → ℕ → ℕ
ends_of_both setting steps d =
    length (ends_of setting.net (in_force setting (seen_of steps)) d)
    + map_or (staged setting (seen_of steps)) 0 (λ plan. length (ends_of setting.net plan d))

-- the most flights that an event may send
abbrev pub most_sent_of : Setting → List Step → Event → ℕ
most_sent_of setting steps (event.Tick reference device counter) = ends_of_both setting steps device
most_sent_of setting steps (event.Recv reference device counter message) = ends_of_both setting steps device
most_sent_of setting steps _ = 0

-- By what is kept

-- the ends below the device in the plan in force and in the staged one
abbrev pub ends_in : Registers → ℕ → ℕ
ends_in r d =
    if nat_lt d (length r.net.devices)
    then length (ends_below r.membership r.membership.world.epoch d) + length (ends_below r.membership (r.membership.world.epoch + 1) d)
    else 0

-- the most flights that an event may send, by what is kept
abbrev pub most_sent_in : Registers → Event → ℕ
most_sent_in r (event.Tick reference device counter) = ends_in r device
most_sent_in r (event.Recv reference device counter message) = ends_in r device
most_sent_in r _ = 0
