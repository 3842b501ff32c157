-- The premises of the safety theorem, each judged of what is seen of a history: honest clocks, honest links, lively devices, failures within one domain,
-- orderly renewal.
use Rattle.std.specs.Prelude.{ℕ, ◌+◌, ◌-◌, Bool, true, false, ◌&&◌, ◌||◌, not, List, [], ◌∷◌, ◌++◌, length, filter, filter_map, flat_map, map, nat_eq, nat_le, nat_lt, Some, None, is_some, option_map, option_to_list, if◌then◌else◌}
use Rattle.std.specs.List.{list_any, list_all}
use Rattle.sd_num.specs.Lists.{below, has, map_or, same_number, find_map_or, leading}
use Rattle.sd_plan.specs.topo.Network.{rates_of, delay_of, device_numbers, link_numbers}
use Rattle.sd_plan.specs.topo.Joined.{joined_within}
use Rattle.sd_plan.specs.declared.topo.Thing.{Thing}
use Rattle.sd_plan.specs.declared.topo.Thing.TheVariants as thing
use Rattle.sd_plan.specs.domain.Domains.{within_one}
use Rattle.sd_plan.specs.declared.Plan.{Plan}
use Rattle.sd_plan.specs.Plans.{is_member, members}
use Rattle.sd_device.specs.declared.msg.Flight.{Flight}
use Rattle.sd_device.specs.declared.msg.Stamp.{Stamp}
use Rattle.sd_sched.specs.Honesty.{sets_true_clock, keeps_reading}
use Rattle.sd_history.specs.declared.BrokenSet.{BrokenSet}
use Rattle.sd_sched.specs.Events.{reference_of, device_of, counter_of, started, joined, given, ticked, is_stage, is_commit, is_seal}
use Rattle.sd_history.specs.Things.{failure_of, mended}
use Rattle.sd_history.specs.World.{Setting, Seen, makes, fails, is_up, link_has_failed, is_untouched, window, in_window, has_commit, in_force, staged, is_staged_member, plan_numbered, joined_in_window, has_entered}

-- the test holds of each event and those before it
abbrev pub at_each : (Seen → List Seen → Bool) → List Seen → Bool
at_each test [] = true
at_each test (s ∷ earlier) = at_each test earlier && test s earlier

-- Start: the clock that a start, join or fix sets is within its uncertainty.

-- the premise on starts holds
abbrev pub start_holds : List Seen → Bool
start_holds seen = list_all (λ s. sets_true_clock s.event) seen

-- Drift: any two readings of one life of a device keep the rates of its oscillator.

-- the references and counters at which the device was read in its present life, its start or join included
abbrev pub readings : List Seen → ℕ → List (ℕ × ℕ)
readings [] d = []
readings (s ∷ earlier) d =
    if same_number (device_of s.event) d
    then (let here = option_to_list (option_map (λ c. (reference_of s.event, c)) (counter_of s.event)) in
    if makes d s.event then here else here ++ readings earlier d)
    else readings earlier d

-- the event's reading keeps the rates with each earlier reading of its life
abbrev pub reads_honestly : Setting → Seen → List Seen → Bool
reads_honestly setting s earlier =
    map_or (device_of s.event) true (λ d.
    map_or (counter_of s.event) true (λ c.
    makes d s.event
    || list_all (keeps_reading (rates_of setting.net d) (reference_of s.event, c)) (readings earlier d)))

-- the premise on drift holds
abbrev pub drift_holds : Setting → List Seen → Bool
drift_holds setting seen = at_each (reads_honestly setting) seen

-- Delay: each received message has an age within the bounds of its link's direction.

-- the age of a flight at the reference is from min to max of its link's direction
abbrev pub is_in_time : Setting → ℕ → Flight → Bool
is_in_time setting reference f =
    let delay = delay_of setting.net f.link f.receiver in
    nat_le delay.min (reference - f.sent_at) && nat_le (reference - f.sent_at) delay.max

-- the flight that was received, if one was, arrived within the bounds of its link
abbrev pub arrives_in_time : Setting → Seen → Bool
arrives_in_time setting s = map_or s.taken true (is_in_time setting (reference_of s.event))

-- the premise on delays holds
abbrev pub delay_holds : Setting → List Seen → Bool
delay_holds setting seen = list_all (arrives_in_time setting) seen

-- Tick: each live device ticks often enough, and each member of the first plan starts soon.

-- the reference of the device's latest tick, start or join
abbrev pub latest_tick : List Seen → ℕ → ℕ
latest_tick seen d =
    find_map_or (λ s. if same_number (ticked s.event) d || makes d s.event then Some (reference_of s.event) else None) seen 0

-- the device is a member of the plan in force or of the staged one
abbrev pub is_current_member : Setting → List Seen → ℕ → Bool
is_current_member setting seen d = is_member (in_force setting seen) d || is_staged_member setting seen d

-- the reference of the first event
abbrev pub first_reference : List Seen → Seen → ℕ
first_reference [] s = reference_of s.event
first_reference (x ∷ earlier) s = first_reference earlier x

-- at this event no tick is overdue, of members that are up and of those that were not started yet
abbrev pub ticks_in_time : Setting → Seen → List Seen → Bool
ticks_in_time setting s earlier =
    list_all (λ d. not (is_up earlier d && is_current_member setting earlier d)
    || nat_le (reference_of s.event) (latest_tick earlier d + setting.net.params.tick)) (device_numbers setting.net)
    && list_all (λ d. not (is_untouched earlier d)
    || nat_le (reference_of s.event) (first_reference earlier s + setting.net.params.tick)) (members setting.net (plan_numbered setting 1))

-- the premise on ticks holds
abbrev pub tick_holds : Setting → List Seen → Bool
tick_holds setting seen = at_each (ticks_in_time setting) seen

-- Loss: no K + 1 consecutive rounds of one term are all spoiled, K the topology's loss.

-- all flights that were sent and reach
abbrev pub reaching_flights : List Seen → List Flight
reaching_flights seen = flat_map (λ s. s.sent) seen

-- what came after the flight was sent
abbrev pub seen_since_sending : List Seen → ℕ → List Seen
seen_since_sending seen n = leading (λ s. not (list_any (λ f. nat_eq f.number n) s.sent)) seen

-- the flight with this number was received
abbrev pub was_received : List Seen → ℕ → Bool
was_received seen n = list_any (λ s. map_or s.taken false (λ f. nat_eq f.number n)) seen

-- some event lies past the flight's due
abbrev pub is_overdue : List Seen → Flight → Bool
is_overdue seen f = list_any (λ s. nat_lt f.due (reference_of s.event)) seen

-- its sender, its receiver or its link failed after it was sent
abbrev pub was_interrupted : List Seen → Flight → Bool
was_interrupted seen f =
    list_any (λ s. fails (thing.Device f.sender) s.event || fails (thing.Device f.receiver) s.event || fails (thing.Link f.link) s.event)
    (seen_since_sending seen f.number)

-- a flight that reached was neither received nor interrupted by the first event past its due
abbrev pub spoils : List Seen → Flight → Bool
spoils [] f = false
spoils (s ∷ earlier) f =
    if is_overdue earlier f then spoils earlier f
    else nat_lt f.due (reference_of s.event) && not (was_received (s ∷ earlier) f.number) && not (was_interrupted (s ∷ earlier) f)

-- the rounds of which some message is spoiled
abbrev pub spoiled_rounds : List Seen → List Stamp
spoiled_rounds seen = map (λ f. f.message.stamp) (filter (spoils seen) (reaching_flights seen))

-- the stamp is of this round of this term
abbrev pub is_round : Stamp → ℕ → ℕ → Bool
is_round stamp term round = nat_eq stamp.term term && nat_eq stamp.round round

-- each of the k rounds from this one on is among the rounds
abbrev pub all_from : List Stamp → ℕ → ℕ → ℕ → Bool
all_from rounds term round k = list_all (λ i. list_any (λ other. is_round other term (round + i)) rounds) (below k)

-- the premise on losses holds
abbrev pub loss_holds : Setting → List Seen → Bool
loss_holds setting seen =
    let rounds = spoiled_rounds seen in
    list_all (λ r. not (all_from rounds r.term r.round (setting.net.params.loss + 1))) rounds

-- Domain: what failed since the latest closing lies in one fault domain, at each event.

-- a thing that fails with the very event that closes the window failed before the closing
abbrev pub failures_since_closing : List Seen → List Thing
failures_since_closing seen = filter_map (λ s. failure_of s.event) (leading (λ s. not s.closed) seen)

-- what failed since the closing lies within one domain, with what this event fails
abbrev pub fails_within_one : Setting → Seen → List Seen → Bool
fails_within_one setting s earlier = is_some (within_one setting.net (option_to_list (failure_of s.event) ++ failures_since_closing earlier))

-- the premise on failures in one domain holds
abbrev pub domain_holds : Setting → List Seen → Bool
domain_holds setting seen = at_each (fails_within_one setting) seen

-- Renew: renewals keep their order.

-- the open window gave the device its duty, and since its latest join where it joined in the window
abbrev pub was_given : List Seen → ℕ → Bool
was_given seen d =
    map_or (window seen) false (λ w. list_any (λ s. same_number (given s.event) d) (leading (λ s. not (same_number (joined s.event) d)) w))

-- no device that is up and left out by the plan is joined to the plan's root through devices that are up and links that are not failed
abbrev pub leaves_out_cleanly : Setting → List Seen → Plan → Bool
leaves_out_cleanly setting seen plan =
    list_all (λ d. not (is_up seen d && not (is_member plan d)
    && joined_within setting.net (is_up seen) (λ l. not (link_has_failed seen l)) (length setting.net.devices) d plan.root)) (device_numbers setting.net)

-- each failed link is left out by the plan
abbrev pub leaves_out_failed : Setting → List Seen → Plan → Bool
leaves_out_failed setting seen plan = list_all (λ l. not (link_has_failed seen l) || has plan.absent.links l) (link_numbers setting.net)

-- the member of the staged plan is up and given its duty, and where it is new it joined in the window
abbrev pub is_prepared : Setting → List Seen → ℕ → Bool
is_prepared setting seen d = is_up seen d && was_given seen d && (is_member (in_force setting seen) d || joined_in_window seen d)

-- a commit comes of a device that acts as root, to a staged plan whose members are prepared and that leaves out what it must
abbrev pub commits_orderly : Setting → Seen → List Seen → Bool
commits_orderly setting s earlier =
    not (is_commit s.event)
    || (s.acted
    && map_or (staged setting earlier) true (λ plan.
    list_all (is_prepared setting earlier) (members setting.net plan)
    && leaves_out_failed setting earlier plan
    && leaves_out_cleanly setting earlier plan))

-- the open window has a seal
abbrev pub has_seal : List Seen → Bool
has_seal seen = in_window (λ s. is_seal s.event) seen

-- at the first seal of a window each member of the staged plan that is up has entered it
abbrev pub seals_orderly : Setting → Seen → List Seen → Bool
seals_orderly setting s earlier =
    not (is_seal s.event) || has_seal earlier
    || map_or (staged setting earlier) true (λ plan.
    list_all (λ d. not (is_up earlier d) || has_entered earlier d) (members setting.net plan))

-- the open window has a mend
abbrev pub has_mend : List Seen → Bool
has_mend seen = in_window (λ s. is_some (mended s.event)) seen

-- nothing fails between a window's first mend or its commit and its closing
abbrev pub fails_orderly : Seen → List Seen → Bool
fails_orderly s earlier = not (is_some (failure_of s.event)) || not (has_mend earlier || has_commit earlier)

-- no start comes after a stage, and no join is of an untouched member of the plan in force
abbrev pub begins_orderly : Setting → Seen → List Seen → Bool
begins_orderly setting s earlier =
    not (is_some (started s.event) && list_any (λ x. is_stage x.event) earlier)
    && map_or (joined s.event) true (λ d. not (is_member (in_force setting earlier) d && is_untouched earlier d))

-- the premise on renewals holds
abbrev pub renew_holds : Setting → List Seen → Bool
renew_holds setting seen =
    at_each (λ s earlier. commits_orderly setting s earlier && seals_orderly setting s earlier && fails_orderly s earlier && begins_orderly setting s earlier)
    seen

-- All

-- which premises are broken by now
abbrev pub broken_in : Setting → List Seen → BrokenSet
broken_in setting seen =
    record {
      start = not (start_holds seen);
      drift = not (drift_holds setting seen);
      delay = not (delay_holds setting seen);
      tick = not (tick_holds setting seen);
      loss = not (loss_holds setting seen);
      domain = not (domain_holds setting seen);
      renew = not (renew_holds setting seen);
    }

-- those of the second set that are not in the first
abbrev pub newly : BrokenSet → BrokenSet → BrokenSet
newly before now =
    record {
      start = now.start && not before.start;
      drift = now.drift && not before.drift;
      delay = now.delay && not before.delay;
      tick = now.tick && not before.tick;
      loss = now.loss && not before.loss;
      domain = now.domain && not before.domain;
      renew = now.renew && not before.renew;
    }

-- the premises that break with the latest event: each holds of the events before and not with it
abbrev pub breaks : Setting → List Seen → BrokenSet
breaks setting [] = newly (broken_in setting []) (broken_in setting [])
breaks setting (s ∷ earlier) = newly (broken_in setting earlier) (broken_in setting (s ∷ earlier))

-- no premise is broken
abbrev pub all_hold : Setting → List Seen → Bool
all_hold setting seen =
    start_holds seen && drift_holds setting seen && delay_holds setting seen && tick_holds setting seen
    && loss_holds setting seen && domain_holds setting seen && renew_holds setting seen

-- clocks, oscillators and links are honest: what a reported interval hangs on
abbrev pub is_honest : Setting → List Seen → Bool
is_honest setting seen = start_holds seen && drift_holds setting seen && delay_holds setting seen
