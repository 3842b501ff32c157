-- Why a fabric refuses an event, by what it keeps: the same causes in the same order as those of a history.
use Rattle.std.specs.Prelude.{ℕ, ◌^◌, Bool, false, ◌&&◌, ◌||◌, not, List, [], ◌∷◌, ◌++◌, length, find, nat_eq, nat_le, nat_lt, Option, is_some, option_map, Result, Ok, Err}
use Rattle.sd_num.specs.Lists.{map_or, same_number}
use Rattle.sd_plan.specs.declared.topo.Thing.TheVariants as thing
use Rattle.sd_device.specs.declared.msg.Flight.{Flight}
use Rattle.sd_device.specs.declared.msg.TakeFault.{TakeFault}
use Rattle.sd_device.specs.msg.Books.{found}
use Rattle.sd_sched.specs.declared.Event.{Event}
use Rattle.sd_sched.specs.Events.{reference_of, device_of, counter_of, link_of, message_of, received, started, joined, given, is_stage, is_commit, is_seal}
use Rattle.sd_history.specs.declared.ApplyFault.{ApplyFault}
use Rattle.sd_history.specs.declared.ApplyFault.TheVariants as fault
use Rattle.sd_history.specs.Things.{failure_of, mended}
use Rattle.sd_history.specs.Refusals.{makes_some}
use Rattle.sd_history.specs.flights.Flights.{says_unknown, says_spent}
use Rattle.sd_world.specs.world.Registers.{up_at, failed_at, made_at, reading_at, is_open, is_committed}
use Rattle.sd_fleet.specs.Registers.{Registers}
use Rattle.sd_world.specs.membership.Memberships.{staged_number, is_of, holds_given, is_in_force, is_in_staged, is_counted_at}
use Rattle.sd_world.specs.membership.Plans.{root_numbered}

-- a fault, and whether it is there
abbrev pub Cause : Type 0
Cause = ApplyFault × Bool

-- the first cause that holds
abbrev pub first_of : List Cause → Option ApplyFault
first_of causes = option_map (λ cause. cause.0) (find (λ cause. cause.1) causes)

-- what the event names is unknown, or has failed
abbrev pub place_causes : Registers → Event → List Cause
place_causes r e =
    (fault.UnknownDevice, map_or (device_of e) false (λ d. nat_le (length r.net.devices) d))
    ∷ (fault.UnknownLink, map_or (link_of e) false (λ l. nat_le (length r.net.links) l))
    ∷ (fault.DeadDevice, not (is_some (mended e)) && map_or (device_of e) false (λ d. failed_at r.membership.world (thing.Device d)))
    ∷ (fault.DeadLink, not (is_some (mended e)) && map_or (link_of e) false (λ l. failed_at r.membership.world (thing.Link l)))
    ∷ []

-- how the flight of an event stands in the book
abbrev pub flight_at : Registers → ℕ → Result Flight TakeFault
flight_at r n = found r.book.last r.book.flights n

-- the flight that was found is for another device
abbrev pub is_for_another : Option ℕ → Result Flight TakeFault → Bool
is_for_another receiver (Ok f) = not (same_number receiver f.receiver)
is_for_another receiver (Err e) = false

-- the causes that are about a message
abbrev pub message_causes : Registers → Event → List Cause
message_causes r e =
    (fault.UnknownMessage, map_or (message_of e) false (λ n. says_unknown (flight_at r n)))
    ∷ (fault.SpentMessage, map_or (message_of e) false (λ n. says_spent (reference_of e) (flight_at r n)))
    ∷ (fault.WrongDevice, map_or (received e) false (λ n. is_for_another (device_of e) (flight_at r n)))
    ∷ []

-- the event comes too early for what was read before, or its device is not as it asks
abbrev pub device_causes : Registers → Event → List Cause
device_causes r e =
    (fault.TimeFalls, nat_lt (reference_of e) r.membership.world.reference)
    ∷ (
      fault.CounterFalls,
      not (makes_some e) && map_or (device_of e) false
          (λ d. map_or (counter_of e) false (λ c. nat_lt c (reading_at r.membership.world d))),
    )
    ∷ (
      fault.NotStarted,
      not (makes_some e || is_some (failure_of e) || is_some (mended e))
          && map_or (device_of e) false (λ d. not (up_at r.membership.world d)),
    )
    ∷ (
      fault.StartedTwice,
      map_or (started e) false (made_at r.membership.world)
          || map_or (joined e) false (is_counted_at r.membership),
    )
    ∷ []

-- no window is open, or it has its commit
abbrev pub past_preparing_in : Registers → Bool
past_preparing_in r = not (is_open r.membership.world.window) || is_committed r.membership.world.window

-- the event comes where the window does not allow it
abbrev pub is_out_of_order : Registers → Event → Bool
is_out_of_order r e =
    (is_stage e && is_open r.membership.world.window)
    || ((is_some (given e) || is_some (joined e) || is_some (mended e) || is_commit e) && past_preparing_in r)
    || (is_commit e
    && map_or (device_of e) false
    (λ d. not (is_open r.membership.world.window && nat_eq (root_numbered r.membership.plans (staged_number r.membership)) d)))
    || (is_seal e && (not (is_open r.membership.world.window) || not (is_committed r.membership.world.window)))
    || map_or (device_of e) false (λ d.
    (is_commit e && not (holds_given r.membership (staged_number r.membership) d)) || (is_seal e && not (is_of r.membership (staged_number r.membership) d)))

-- the causes that are about the window
abbrev pub window_causes : Registers → Event → List Cause
window_causes r e =
    (fault.NoPlanLeft, is_stage e && not (is_open r.membership.world.window) && nat_le (length r.membership.plans) r.membership.world.epoch)
    ∷ (fault.WindowOrder, is_out_of_order r e)
    ∷ []

-- the causes that are asked last
abbrev pub late_causes : Registers → Event → List Cause
late_causes r e =
    (fault.AfterEnd, r.membership.world.ended)
    ∷ (fault.NotFailed, map_or (mended e) false (λ x. not (failed_at r.membership.world x)))
    ∷ (
      fault.NotMember,
      map_or (started e) false (λ d. not (is_in_force r.membership d))
          || map_or (given e) false (λ d. not (is_in_staged r.membership d))
          || map_or (joined e) false (λ d. not (is_in_staged r.membership d)),
    )
    ∷ (fault.TooManyEvents, nat_le (2 ^ 26) r.membership.world.events)
    ∷ []

-- the causes by what is kept
abbrev pub causes_in : Registers → Event → List Cause
causes_in r e = place_causes r e ++ message_causes r e ++ device_causes r e ++ window_causes r e ++ late_causes r e

-- the first cause for which the event is refused
abbrev pub refusal_in : Registers → Event → Option ApplyFault
refusal_in r e = first_of (causes_in r e)
