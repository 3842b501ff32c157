-- Since when each device owes a tick, and what is kept to know it.
use Rattle.std.specs.Prelude.{◌≡◌, ℕ, ◌-◌, ◌^◌, ◌<◌, Bool, false, ◌&&◌, List, [], ◌∷◌, length, slice_set, slice_index_or, Option, Some, None, unwrap_or, if◌then◌else◌}
use Rattle.sd_num.specs.Lists.{map_or}
use Rattle.sd_plan.specs.Plans.{is_member}
use Rattle.sd_sched.specs.declared.Event.{Event}
use Rattle.sd_sched.specs.declared.Event.TheVariants as event
use Rattle.sd_sched.specs.Events.{reference_of, device_of}
use Rattle.sd_history.specs.World.{Setting, Seen, is_up, is_untouched, plan_numbered}
use Rattle.sd_history.specs.Premises.{latest_tick, is_current_member, first_reference}
use Rattle.sd_monitors.specs.declared.clocks.ticks.TickState.{TickState}

-- What is owed

-- a member of the first plan that was neither started, joined nor failed
abbrev pub is_awaited : Setting → List Seen → ℕ → Bool
is_awaited setting seen d = is_untouched seen d && is_member (plan_numbered setting 1) d

-- the reference of the first event
abbrev pub first_of : List Seen → Option ℕ
first_of [] = None
first_of (s ∷ earlier) = Some (first_reference earlier s)

-- the reference since which the device owes a tick, if it owes one
abbrev pub owed_since : Setting → List Seen → ℕ → Option ℕ
owed_since setting seen d =
    if is_up seen d && is_current_member setting seen d then Some (latest_tick seen d)
    else if is_awaited setting seen d then first_of seen
    else None

-- the greatest number stands for none
abbrev pub owed_at : Setting → List Seen → ℕ → ℕ
owed_at setting seen d = unwrap_or (owed_since setting seen d) (2 ^ 64 - 1)

-- What is kept

-- by device, and the reference of the first event
pub record TicksKept : Type 0 where
  pub states : List TickState
  pub first : Option ℕ

-- that of a device of which nothing was seen
abbrev pub no_state : TickState
no_state = record { latest = 0; awaited = false }

-- an event that names the device
abbrev pub state_after : Event → TickState → TickState
state_after (event.Tick reference device counter) x = record x { latest = reference }
state_after (event.Start reference device counter clock eps) x = record { latest = reference; awaited = false }
state_after (event.Join reference device counter clock eps) x = record { latest = reference; awaited = false }
state_after (event.FailDevice reference device) x = record x { awaited = false }
state_after _ x = x

-- a device ticks
abbrev pub ticked_at : List TickState → ℕ → ℕ → List TickState
ticked_at states d reference = slice_set states d (record (slice_index_or states d no_state) { latest = reference })

-- an event more, which may be the first
abbrev pub ticks_after : Event → TicksKept → TicksKept
ticks_after e kept =
    record {
      states = map_or (device_of e) kept.states (λ d. slice_set kept.states d (state_after e (slice_index_or kept.states d no_state)));
      first = Some (unwrap_or kept.first (reference_of e));
    }

-- what is kept of a device is its latest tick, and whether it is awaited
pub record TicksStandAt (setting : Setting) (x : TickState) (seen : List Seen) (d : ℕ) : Type 0 where
  pub latest : x.latest ≡ latest_tick seen d
  pub awaited : x.awaited ≡ is_awaited setting seen d

-- what is kept stands for what was seen
pub record TicksStand (setting : Setting) (kept : TicksKept) (seen : List Seen) : Type 0 where
  pub devices : length kept.states ≡ length setting.net.devices
  pub states : (d : ℕ) → d < length kept.states → TicksStandAt setting (slice_index_or kept.states d no_state) seen d
  pub first : kept.first ≡ first_of seen
