-- How many members of the staged plan are up, and how many of these have settled.
use Rattle.std.specs.Prelude.{ℕ, ◌+◌, Bool, ◌&&◌, length, count_by, cond, Option, Some, None}
use Rattle.sd_num.specs.Lists.{below}
use Rattle.sd_world.specs.declared.membership.settled_count.SettledCount.{SettledCount}
use Rattle.sd_world.specs.declared.membership.settled_count.MemberStates.{MemberStates}
use Rattle.sd_world.specs.membership.Memberships.{Registers, is_present, has_settled_at}

-- nobody is counted
abbrev pub none_counted : SettledCount
none_counted = record { present = 0; settled = 0 }

-- both counts together
abbrev pub add_counts : SettledCount → SettledCount → SettledCount
add_counts a b = record { present = a.present + b.present; settled = a.settled + b.settled }

-- the device is present, and has settled
abbrev pub is_settled : Registers → ℕ → Bool
is_settled r d = is_present r d && has_settled_at r d

-- the device by itself
abbrev pub count_at : Registers → ℕ → SettledCount
count_at r d = record { present = cond (is_present r d) 1 0; settled = cond (is_settled r d) 1 0 }

-- the named device by itself
abbrev pub count_named : Registers → Option ℕ → SettledCount
count_named r None = none_counted
count_named r (Some d) = count_at r d

-- the devices below a number
abbrev pub count_below : Registers → ℕ → SettledCount
count_below r n = record { present = count_by (is_present r) (below n); settled = count_by (is_settled r) (below n) }

-- all devices
abbrev pub settled_count_of : Registers → SettledCount
settled_count_of r = count_below r (length r.answers)

-- what a count looks at
abbrev pub seen_by : MemberStates → Registers
seen_by s = record { plans = s.plans.now; world = s.world.now; answers = s.answers.now }
