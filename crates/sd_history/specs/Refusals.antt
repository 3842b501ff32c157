-- Why an event is refused after a history.
use Rattle.std.specs.Prelude.{ℕ, ◌^◌, Bool, false, ◌&&◌, not, List, ◌∷◌, length, find, max, nat_eq, nat_le, nat_lt, Option, is_some, option_map, [], ◌||◌}
use Rattle.std.specs.List.{list_any}
use Rattle.sd_num.specs.Lists.{map_or, same_number, leading}
use Rattle.sd_plan.specs.declared.topo.Thing.TheVariants as thing
use Rattle.sd_plan.specs.Plans.{is_member}
use Rattle.sd_device.specs.declared.msg.Flight.{Flight}
use Rattle.sd_sched.specs.declared.Event.{Event}
use Rattle.sd_history.specs.declared.ApplyFault.{ApplyFault}
use Rattle.sd_history.specs.declared.ApplyFault.TheVariants as fault
use Rattle.sd_sched.specs.Events.{reference_of, device_of, counter_of, link_of, message_of, received, started, joined, given, is_stage, is_commit, is_seal, is_end_event}
use Rattle.sd_history.specs.Things.{failure_of, mended}
use Rattle.sd_history.specs.World.{Setting, Seen, is_up, has_failed, fails, was_made, latest_reference, latest_reading, window_is_open, has_commit, epoch_in_force, staged_epoch, in_force, staged, is_staged_member, joined_in_window}
use Rattle.sd_history.specs.Steps.{Step, seen_of, flight_numbered, flight_count, epoch_in, given_in}

-- the event starts a device or lets one join
abbrev pub makes_some : Event → Bool
makes_some e = is_some (started e) || is_some (joined e)

-- what came after the flight was sent
abbrev pub since_sending : List Step → ℕ → List Step
since_sending steps n = leading (λ s. not (list_any (λ f. nat_eq f.number n) s.sent)) steps

-- received or lost
abbrev pub was_used : List Step → ℕ → Bool
was_used steps n = list_any (λ s. same_number (message_of s.seen.event) n) steps

-- its link or its receiver failed after it was sent
abbrev pub was_swept : List Step → Flight → Bool
was_swept steps f = list_any (λ s. fails (thing.Link f.link) s.seen.event || fails (thing.Device f.receiver) s.seen.event) (since_sending steps f.number)

-- the flight is over, as an event at this reference sees it. A refused event may fall back in time, so the later of its reference and the
-- latest accepted one counts.
abbrev pub is_spent : List Step → ℕ → Flight → Bool
is_spent steps reference f =
    was_used steps f.number || was_swept steps f || nat_lt f.last (max reference (latest_reference (seen_of steps))) || not f.reaches

-- the causes

-- the network has no such device
abbrev pub unknown_device : Setting → Event → Bool
unknown_device setting e = map_or (device_of e) false (λ d. nat_le (length setting.net.devices) d)

-- the network has no such link
abbrev pub unknown_link : Setting → Event → Bool
unknown_link setting e = map_or (link_of e) false (λ l. nat_le (length setting.net.links) l)

-- the device has failed, and this does not mend it
abbrev pub dead_device : List Seen → Event → Bool
dead_device seen e = not (is_some (mended e)) && map_or (device_of e) false (λ d. has_failed seen (thing.Device d))

-- the link has failed, and this does not mend it
abbrev pub dead_link : List Seen → Event → Bool
dead_link seen e = not (is_some (mended e)) && map_or (link_of e) false (λ l. has_failed seen (thing.Link l))

-- no flight has this number
abbrev pub unknown_message : List Step → Event → Bool
unknown_message steps e = map_or (message_of e) false (λ n. nat_eq n 0 || nat_lt (flight_count steps) n)

-- the flight can be received or lost no more
abbrev pub spent_message : List Step → Event → Bool
spent_message steps e = map_or (message_of e) false (λ n. map_or (flight_numbered steps n) false (is_spent steps (reference_of e)))

-- the flight is for another device
abbrev pub wrong_device : List Step → Event → Bool
wrong_device steps e = map_or (received e) false (λ n. map_or (flight_numbered steps n) false (λ f. not (same_number (device_of e) f.receiver)))

-- the reference is less than the latest one
abbrev pub time_falls : List Seen → Event → Bool
time_falls seen e = nat_lt (reference_of e) (latest_reference seen)

-- the counter is less than the device's latest reading
abbrev pub counter_falls : List Seen → Event → Bool
counter_falls seen e = not (makes_some e) && map_or (device_of e) false (λ d. map_or (counter_of e) false (λ c. nat_lt c (latest_reading seen d)))

-- the device is not up
abbrev pub not_started : List Seen → Event → Bool
not_started seen e =
    not (makes_some e || is_some (failure_of e) || is_some (mended e)) && map_or (device_of e) false (λ d. not (is_up seen d))

-- a start of a device that was made before; a join of one that is up and a member, or that joined in this window. One that is up and
-- left out of the plan in force may join.
abbrev pub started_twice : Setting → List Seen → Event → Bool
started_twice setting seen e =
    map_or (started e) false (was_made seen)
    || map_or (joined e) false (λ d. is_up seen d && (is_member (in_force setting seen) d || joined_in_window seen d))

-- there is no plan to be staged
abbrev pub no_plan_left : Setting → List Seen → Event → Bool
no_plan_left setting seen e = is_stage e && not (window_is_open seen) && nat_le (length setting.plans) (epoch_in_force seen)

-- no window is open, or it has its commit
abbrev pub past_preparing : List Seen → Bool
past_preparing seen = not (window_is_open seen) || has_commit seen

-- the event comes where the window does not allow it, as far as can be seen from outside: a stage in an open window; a give, join or
-- mend without one or after its commit; a commit so, or of another device than the staged root; a seal without a window or before its commit
abbrev pub window_order_seen : Setting → List Seen → Event → Bool
window_order_seen setting seen e =
    (is_stage e && window_is_open seen)
    || ((is_some (given e) || is_some (joined e) || is_some (mended e) || is_commit e) && past_preparing seen)
    || (is_commit e && map_or (device_of e) false (λ d. not (map_or (staged setting seen) false (λ plan. nat_eq plan.root d))))
    || (is_seal e && (not (window_is_open seen) || not (has_commit seen)))

-- a commit of a device that holds no duty of the staged plan as given, or a seal of a device that is not of it
abbrev pub window_order_within : List Step → Event → Bool
window_order_within steps e =
    map_or (device_of e) false (λ d.
    (is_commit e && not (same_number (given_in steps d) (staged_epoch (seen_of steps))))
    || (is_seal e && not (same_number (epoch_in steps d) (staged_epoch (seen_of steps)))))

-- the event comes where the window does not allow it
abbrev pub window_order : Setting → List Step → Event → Bool
window_order setting steps e = window_order_seen setting (seen_of steps) e || window_order_within steps e

-- the schedule has ended
abbrev pub after_end : List Seen → Bool
after_end seen = list_any (λ s. is_end_event s.event) seen

-- what is mended has not failed
abbrev pub not_failed : List Seen → Event → Bool
not_failed seen e = map_or (mended e) false (λ x. not (has_failed seen x))

-- the device is no member of the plan that the event is about
abbrev pub not_member : Setting → List Seen → Event → Bool
not_member setting seen e =
    map_or (started e) false (λ d. not (is_member (in_force setting seen) d))
    || map_or (given e) false (λ d. not (is_staged_member setting seen d))
    || map_or (joined e) false (λ d. not (is_staged_member setting seen d))

-- there were as many events as there may be
abbrev pub too_many : List Seen → Bool
too_many seen = nat_le (2 ^ 26) (length seen)

-- each cause with whether it holds, in the order in which they are answered
abbrev pub causes : Setting → List Step → Event → List (ApplyFault × Bool)
causes setting steps e =
    (fault.UnknownDevice, unknown_device setting e)
    ∷ (fault.UnknownLink, unknown_link setting e)
    ∷ (fault.DeadDevice, dead_device (seen_of steps) e)
    ∷ (fault.DeadLink, dead_link (seen_of steps) e)
    ∷ (fault.UnknownMessage, unknown_message steps e)
    ∷ (fault.SpentMessage, spent_message steps e)
    ∷ (fault.WrongDevice, wrong_device steps e)
    ∷ (fault.TimeFalls, time_falls (seen_of steps) e)
    ∷ (fault.CounterFalls, counter_falls (seen_of steps) e)
    ∷ (fault.NotStarted, not_started (seen_of steps) e)
    ∷ (fault.StartedTwice, started_twice setting (seen_of steps) e)
    ∷ (fault.NoPlanLeft, no_plan_left setting (seen_of steps) e)
    ∷ (fault.WindowOrder, window_order setting steps e)
    ∷ (fault.AfterEnd, after_end (seen_of steps))
    ∷ (fault.NotFailed, not_failed (seen_of steps) e)
    ∷ (fault.NotMember, not_member setting (seen_of steps) e)
    ∷ (fault.TooManyEvents, too_many (seen_of steps))
    ∷ []

-- the first cause for which the event is refused after these steps
abbrev pub refusal : Setting → List Step → Event → Option ApplyFault
refusal setting steps e = option_map (λ cause. cause.0) (find (λ cause. cause.1) (causes setting steps e))
