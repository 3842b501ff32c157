-- Which events nothing that is seen refuses, and which flights are not spent.
use Rattle.std.specs.Prelude.{ℕ, Bool, not, List, filter, flat_map, reverse, ◌||◌}
use Rattle.sd_device.specs.declared.msg.Flight.{Flight}
use Rattle.sd_sched.specs.declared.Event.{Event}
use Rattle.sd_history.specs.World.{Setting, Seen}
use Rattle.sd_history.specs.Steps.{Step}
use Rattle.sd_history.specs.Refusals.{is_spent, unknown_device, unknown_link, dead_device, dead_link, time_falls, counter_falls, not_started, started_twice, no_plan_left, window_order_seen, after_end, not_failed, not_member, too_many}

-- the event can be seen after what was seen: none of the causes that show from outside holds
abbrev pub may_be_seen : Setting → List Seen → Event → Bool
may_be_seen setting seen e =
    not (unknown_device setting e || unknown_link setting e || dead_device seen e || dead_link seen e
    || time_falls seen e || counter_falls seen e || not_started seen e || started_twice setting seen e
    || no_plan_left setting seen e || window_order_seen setting seen e || after_end seen || not_failed seen e
    || not_member setting seen e || too_many seen)

-- the flights that are not spent, as an event at this reference sees them, by ascending number
abbrev pub unspent : List Step → ℕ → List Flight
unspent steps reference = filter (λ f. not (is_spent steps reference f)) (reverse (flat_map (λ s. reverse s.sent) steps))
