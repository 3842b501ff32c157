-- The steps of a history: each accepted event with what it did to its device, what that device told, and all flights that it sent. The
-- newest comes first. Nothing here says what kind of device it is: its words are what the devices told.
use Rattle.std.specs.Prelude.{ℕ, ◌+◌, ◌*◌, Bool, false, ◌&&◌, not, List, ◌∷◌, length, find, filter, flat_map, map, sum_by, nat_eq, nat_le, Option, Some, None, option_map, option_and_then, if◌then◌else◌, []}
use Rattle.std.specs.List.{list_all}
use Rattle.sd_num.specs.Lists.{map_or, same_number, find_map_or}
use Rattle.sd_plan.specs.topo.Network.{delay_of, rates_of}
use Rattle.sd_plan.specs.declared.Duty.{Duty}
use Rattle.sd_plan.specs.declared.End.{End}
use Rattle.sd_plan.specs.Plans.{members}
use Rattle.sd_plan.specs.Duties.{duty_of, ends_of}
use Rattle.sd_num.specs.declared.clock.Report.{Report}
use Rattle.sd_device.specs.declared.msg.Message.{Message}
use Rattle.sd_device.specs.declared.msg.Flight.{Flight}
use Rattle.sd_device.specs.declared.Effect.{Effect}
use Rattle.sd_device.specs.declared.Effect.TheVariants.{Quiet, Send}
use Rattle.sd_device.specs.Calls as calls
use Rattle.sd_device.specs.Calls.{Making, Call}
use Rattle.sd_sched.specs.declared.Event.{Event}
use Rattle.sd_sched.specs.declared.Event.TheVariants as event
use Rattle.sd_sched.specs.Events.{reference_of, device_of, received}
use Rattle.sd_history.specs.World.{Setting, Seen, is_up, link_has_failed, window_is_open, has_commit, epoch_in_force, staged_epoch, in_force, staged, current_plan}

-- what an event does to the device that it names: it makes it, calls it, asks it for a report at a counter, or leaves all devices alone
pub data Act : Type 0 where
  Makes : (device : ℕ) → Making → Act
  Calls : (device : ℕ) → Call → Act
  Asks : (device counter : ℕ) → Act
  Passes : Act

-- what a device answers when it is asked of itself: whom it follows, whether it acts as root, the number of its plan (0 without one), the
-- duty that was given to it and is not taken up yet, and whether it is sealed
pub record Answers : Type 0 where
  pub parent : Option ℕ
  pub acts : Bool
  pub epoch : ℕ
  pub given : Option Duty
  pub sealed : Bool

-- what a device tells at an event: what it sends; where it was made or called, what it answers from then on; where it was asked, its report
pub record Told : Type 0 where
  pub effect : Effect
  pub answers : Option Answers
  pub report : Option Report

-- a device tells nothing
abbrev pub tells_nothing : Told
tells_nothing = record { effect = Quiet; answers = None; report = None }

-- a device that is made, that is called, that is asked
abbrev pub tells_made : Answers → Told
tells_made answers = record { effect = Quiet; answers = Some answers; report = None }

-- a device that was called tells what it sends, and what it answers from then on
abbrev pub tells_called : Effect → Answers → Told
tells_called effect answers = record { effect = effect; answers = Some answers; report = None }

-- an accepted event with what is seen of it, what it did, what its device told, and all flights that it sent, by ascending number
pub record Step : Type 0 where
  pub seen : Seen
  pub act : Act
  pub told : Told
  pub sent : List Flight

-- what is seen of the steps
abbrev pub seen_of : List Step → List Seen
seen_of steps = map (λ s. s.seen) steps

-- the events themselves
abbrev pub events_of : List Step → List Event
events_of steps = map (λ s. s.seen.event) steps

-- Devices

-- the device that an act makes or calls
abbrev pub changed : Act → Option ℕ
changed (Makes d making) = Some d
changed (Calls d call) = Some d
changed (Asks d counter) = None
changed Passes = None

-- what a device answers since it was last made or called
abbrev pub answers_in : List Step → ℕ → Option Answers
answers_in steps d = find_map_or (λ s. if same_number (changed s.act) d then Some s.told.answers else None) steps None

-- what a device that is up answers
abbrev pub live_answers : List Step → ℕ → Option Answers
live_answers steps d = if is_up (seen_of steps) d then answers_in steps d else None

-- the present parent of a device that is up
abbrev pub parent_in : List Step → ℕ → Option ℕ
parent_in steps d = option_and_then (λ a. a.parent) (live_answers steps d)

-- the device is up and acts as root
abbrev pub acts_in : List Step → ℕ → Bool
acts_in steps d = map_or (live_answers steps d) false (λ a. a.acts)

-- the epoch of a device that is up
abbrev pub epoch_in : List Step → ℕ → Option ℕ
epoch_in steps d = option_map (λ a. a.epoch) (live_answers steps d)

-- the number of the plan whose duty was given to the device and is not taken up yet
abbrev pub given_in : List Step → ℕ → Option ℕ
given_in steps d = option_and_then (λ a. option_map (λ duty. duty.epoch) a.given) (live_answers steps d)

-- the device is of the plan with this number, and is sealed
abbrev pub has_settled : List Step → ℕ → ℕ → Bool
has_settled steps epoch d = map_or (live_answers steps d) false (λ a. nat_eq a.epoch epoch && a.sealed)

-- Messages

-- all flights that were sent
abbrev pub flights : List Step → List Flight
flights steps = flat_map (λ s. s.sent) steps

-- the flight with this number, if one was sent
abbrev pub flight_numbered : List Step → ℕ → Option Flight
flight_numbered steps n = find (λ f. nat_eq f.number n) (flights steps)

-- how many were sent; the number of the last one
abbrev pub flight_count : List Step → ℕ
flight_count steps = sum_by (λ s. length s.sent) steps

-- the flight over one downstream end of the sender
abbrev pub flight_to : Setting → List Step → ℕ → ℕ → Message → ℕ → End → Flight
flight_to setting steps reference sender message number downstream =
    record {
      number = number;
      link = downstream.link;
      sender = sender;
      receiver = downstream.device;
      sent_at = reference;
      due = reference + (delay_of setting.net downstream.link downstream.device).max;
      last = reference + 2 * (delay_of setting.net downstream.link downstream.device).max;
      reaches = not (link_has_failed (seen_of steps) downstream.link) && is_up (seen_of steps) downstream.device;
      message = message;
    }

-- one flight per end, numbered on
abbrev pub flights_to : Setting → List Step → ℕ → ℕ → Message → ℕ → List End → List Flight
flights_to setting steps reference sender message number [] = []
flights_to setting steps reference sender message number (downstream ∷ others) =
    flight_to setting steps reference sender message number downstream ∷ flights_to setting steps reference sender message (number + 1) others

-- the downstream ends of a device in the plan with this number, and none where that plan is neither in force nor staged. The number is the
-- one that the device answers after the call, whatever number its message carries.
abbrev pub ends_at : Setting → List Step → ℕ → ℕ → List End
ends_at setting steps epoch d = map_or (current_plan setting (seen_of steps) epoch) [] (λ plan. ends_of setting.net plan d)

-- what a device sends, over its ends in the plan that it then follows
abbrev pub flights_by : Setting → List Step → ℕ → ℕ → ℕ → Effect → List Flight
flights_by setting steps reference d epoch Quiet = []
flights_by setting steps reference d epoch (Send message) =
    flights_to setting steps reference d message (flight_count steps + 1) (ends_at setting steps epoch d)

-- the flights of a step whose device told this
abbrev pub flights_of : Setting → List Step → ℕ → Act → Told → List Flight
flights_of setting steps reference act told =
    map_or (changed act) [] (λ d. map_or told.answers [] (λ a. flights_by setting steps reference d a.epoch told.effect))

-- Events

-- what an event does after these steps
abbrev pub act_by : Setting → List Step → Event → Act
act_by setting steps (event.Start reference device counter clock eps) =
    Makes device (calls.Started (duty_of setting.net (in_force setting (seen_of steps)) (epoch_in_force (seen_of steps)) device) counter clock eps)
act_by setting steps (event.Join reference device counter clock eps) = Makes device (calls.Joined (rates_of setting.net device) counter clock eps)
act_by setting steps (event.Tick reference device counter) = Calls device (calls.Tick counter)
act_by setting steps (event.Recv reference device counter message) =
    map_or (flight_numbered steps message) Passes (λ f. Calls device (calls.Receive f.link f.message counter))
act_by setting steps (event.Fix reference device counter clock eps) = Calls device (calls.Fix counter clock eps)
act_by setting steps (event.Give reference device) =
    map_or (staged setting (seen_of steps)) Passes (λ plan. Calls device (calls.Give (duty_of setting.net plan (staged_epoch (seen_of steps)) device)))
act_by setting steps (event.Commit reference device counter) = Calls device (calls.Commit counter)
act_by setting steps (event.Seal reference device) = Calls device calls.Seal
act_by setting steps (event.Ask reference device counter) = Asks device counter
act_by setting steps _ = Passes

-- Closing a window

-- the open window can close: it has its commit, some member of the staged plan is up, and each that is up is of it and sealed
abbrev pub can_close : Setting → List Step → Bool
can_close setting steps =
    has_commit (seen_of steps)
    && map_or (staged setting (seen_of steps)) false (λ plan.
    let present = filter (is_up (seen_of steps)) (members setting.net plan) in
    nat_le 1 (length present) && list_all (has_settled steps (staged_epoch (seen_of steps))) present)

-- Steps

-- the event received this flight
abbrev pub taken_by : List Step → Event → Option Flight
taken_by steps e = option_and_then (flight_numbered steps) (received e)

-- the event named a device that acted as root
abbrev pub acted_by : List Step → Event → Bool
acted_by steps e = map_or (device_of e) false (acts_in steps)

-- a step before it is known which device entered the staged plan with it and whether the window closed
abbrev pub first_step : Setting → List Step → Event → Told → Step
first_step setting steps e told =
    let act = act_by setting steps e in
    let sent = flights_of setting steps (reference_of e) act told in
    record {
      seen = record { event = e; taken = taken_by steps e; sent = filter (λ f. f.reaches) sent; activated = None; acted = acted_by steps e; closed = false };
      act = act;
      told = told;
      sent = sent;
    }

-- a plan is staged, and the device is of it after the step and was not before
abbrev pub has_turned : List Step → Step → ℕ → Bool
has_turned steps s d =
    window_is_open (seen_of steps)
    && same_number (epoch_in (s ∷ steps) d) (staged_epoch (seen_of steps)) && not (same_number (epoch_in steps d) (staged_epoch (seen_of steps)))

-- the device that entered the staged plan with the step
abbrev pub activated_by : List Step → Step → Option ℕ
activated_by steps s = map_or (device_of s.seen.event) None (λ d. if has_turned steps s d then Some d else None)

-- the step, with the device that enters the staged plan and whether the window closes
abbrev pub complete : Setting → List Step → Step → Step
complete setting steps s =
    record {
      seen =
          record {
            event = s.seen.event;
            taken = s.seen.taken;
            sent = s.seen.sent;
            acted = s.seen.acted;
            activated = activated_by steps s;
            closed = can_close setting (s ∷ steps);
          };
      act = s.act;
      told = s.told;
      sent = s.sent;
    }

-- an event after these steps, at which its device tells this
abbrev pub step_of : Setting → List Step → Event → Told → Step
step_of setting steps e told = let s = first_step setting steps e told in complete setting steps s
