-- What is kept of devices and plans, and the words on it that calls go by.
use Rattle.std.specs.Prelude.{◌≡◌, ℕ, ◌+◌, ◌≤◌, ◌^◌, ◌<◌, Bool, true, false, ◌&&◌, ◌||◌, List, [], length, filter, slice_set, nat_eq, nat_le, Option, Some, None, option_and_then, if◌then◌else◌}
use Rattle.std.specs.List.{list_all}
use Rattle.sd_num.specs.Lists.{below, at_place, map_or, same_number}
use Rattle.sd_plan.specs.declared.End.{End}
use Rattle.sd_sched.specs.declared.Event.{Event}
use Rattle.sd_sched.specs.Events.{device_of}
use Rattle.sd_world.specs.world.Registers as world
use Rattle.sd_world.specs.world.Registers.{up_at, joins_at, is_open, is_committed}
use Rattle.sd_world.specs.declared.membership.AnswerSummary.{AnswerSummary}
use Rattle.sd_world.specs.declared.membership.plans.NumberedPlan.{NumberedPlan}
use Rattle.sd_world.specs.membership.Plans.{IsNumber, table_numbered, row_numbered, is_member_numbered}

-- the plans by number, the world, and what each device answered when it was last made or called
pub record Registers : Type 0 where
  pub plans : List NumberedPlan
  pub world : world.Registers
  pub answers : List (Option AnswerSummary)

-- the number of the plan that is staged, or would be next
abbrev pub staged_number : Registers → ℕ
staged_number r = r.world.epoch + 1

-- what is always true of it
pub record IsSound (r : Registers) : Type 0 where
  pub numbers : length r.plans < 2 ^ 32
  pub few : length r.answers ≤ 4096
  pub devices : length r.world.devices ≡ length r.answers
  pub places : (epoch : ℕ) → IsNumber r.plans epoch → length (table_numbered r.plans epoch) ≡ length r.answers
  -- the plan in force is one of the plans, and so is the staged one
  pub in_force : IsNumber r.plans r.world.epoch
  pub staged : is_open r.world.window ≡ true → IsNumber r.plans (staged_number r)

-- Devices

-- what a device that is up answers
abbrev pub live_at : Registers → ℕ → Option AnswerSummary
live_at r d = if up_at r.world d then at_place r.answers d None (λ answered. answered) else None

-- the device is up and acts as root
abbrev pub acts_at : Registers → ℕ → Bool
acts_at r d = map_or (live_at r d) false (λ a. a.acts)

-- the present parent of a device that is up
abbrev pub parent_at : Registers → ℕ → Option ℕ
parent_at r d = option_and_then (λ a. a.parent) (live_at r d)

-- the device follows the plan with this number
abbrev pub is_of : Registers → ℕ → ℕ → Bool
is_of r epoch d = map_or (live_at r d) false (λ a. nat_eq a.epoch epoch)

-- the device holds the duty of the plan with this number, and has not taken it up
abbrev pub holds_given : Registers → ℕ → ℕ → Bool
holds_given r epoch d = map_or (live_at r d) false (λ a. same_number a.given epoch)

-- the device follows the staged plan, and is sealed
abbrev pub has_settled_at : Registers → ℕ → Bool
has_settled_at r d = map_or (live_at r d) false (λ a. nat_eq a.epoch (staged_number r) && a.sealed)

-- Devices in plans

-- the device is a member of the plan in force
abbrev pub is_in_force : Registers → ℕ → Bool
is_in_force r d = is_member_numbered r.plans r.world.epoch d

-- a plan is staged, and the device is a member of it
abbrev pub is_in_staged : Registers → ℕ → Bool
is_in_staged r d = is_open r.world.window && is_member_numbered r.plans (staged_number r) d

-- the device counts as live
abbrev pub is_counted_at : Registers → ℕ → Bool
is_counted_at r d = up_at r.world d && (is_in_force r d || joins_at r.world d)

-- the plan with this number is in force, or staged
abbrev pub is_current_number : Registers → ℕ → Bool
is_current_number r epoch = nat_eq epoch r.world.epoch || (nat_eq epoch (staged_number r) && is_open r.world.window)

-- the ends below a device in the plan with this number, and none where that plan is neither in force nor staged
abbrev pub ends_below : Registers → ℕ → ℕ → List End
ends_below r epoch d =
    if is_current_number r epoch then map_or (row_numbered r.plans epoch d) [] (λ row. row.downstream) else []

-- the device is up, and a member of the staged plan
abbrev pub is_present : Registers → ℕ → Bool
is_present r d = up_at r.world d && is_in_staged r d

-- the window has its commit, some member of the staged plan is up, and all that are have settled
abbrev pub can_close_in : Registers → Bool
can_close_in r =
    let present = filter (is_present r) (below (length r.answers)) in
    is_committed r.world.window && nat_le 1 (length present) && list_all (has_settled_at r) present

-- What an event changes

-- the device that is named answers this from now on, where it was made or called
abbrev pub answers_after : Option ℕ → Option AnswerSummary → List (Option AnswerSummary) → List (Option AnswerSummary)
answers_after None told answers = answers
answers_after (Some d) None answers = answers
answers_after (Some d) (Some told) answers = slice_set answers d (Some told)

-- an event with which the window does not close, after which its device answers this
abbrev pub registers_after : Registers → Event → Option AnswerSummary → Registers
registers_after r e told =
    record { plans = r.plans; world = world.registers_after r.world e; answers = answers_after (device_of e) told r.answers }

-- an event after which its device answers as before
abbrev pub registers_resting : Registers → Event → Registers
registers_resting r e = record r { world = world.registers_after r.world e }

-- the window closes with the latest event
abbrev pub registers_closed : Registers → Registers
registers_closed r = record r { world = world.registers_closed r.world }
