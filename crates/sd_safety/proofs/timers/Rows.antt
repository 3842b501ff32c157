-- The words on references, on the triangle: while it runs, and after its root failed, through the move and the takeover of the backup root.
use Rattle.std.specs.Prelude.{◌≡◌, ℕ, ◌+◌, ◌*◌, true, ◌&&◌, List, [], ◌∷◌, ◌++◌, refl, reverse, flat_map, Some}
use Rattle.sd_num.specs.Lists.{below}
use Rattle.sd_sched.specs.declared.Event.{Event}
use Rattle.sd_sched.specs.declared.Event.TheVariants.{Start, Tick, Recv, FailDevice, Stage, Give, Commit, Seal}
use Rattle.sd_history.specs.World.{Setting}
use Rattle.sd_history.specs.Steps.{Step, seen_of}
use Rattle.sd_history.specs.Chronicle.{chronicle}
use Rattle.sd_history.specs.Premises.{drift_holds, tick_holds}
use Rattle.sd_plan.specs.Examples.{triangle, triangle_plan, other_triangle_plan}
use Rattle.sd_safety.specs.timers.Dues.{times_in}

setting : Setting
setting = record { net = triangle; plans = triangle_plan ∷ other_triangle_plan ∷ [] }

steps_of : List Event → List Step
unfolding setting
steps_of events = chronicle setting (reverse events)

tick : ℕ → ℕ → Event
tick time device = Tick time device time

one_round : List Event
unfolding tick
one_round =
    Start 0 0 0 0 500
    ∷ Start 5 1 1000 0 800000
    ∷ Start 7 2 0 0 800000
    ∷ tick 90000000 0
    ∷ tick 90000000 1
    ∷ tick 90000000 2
    ∷ tick 110000000 0
    ∷ Recv 110700000 1 110700000 1
    ∷ Recv 111000000 2 111000000 2
    ∷ Recv 111400000 2 111400000 3
    ∷ Recv 111700000 1 111700000 4
    ∷ []

-- the root sent at its tick; the two others heard its message, and not the older ones; the start sealed all
root_times : times_in (steps_of one_round) 0 ≡ record { tick = 110000000; heard = 0; moved = 0; sent = 110000000; seal = Some 0 }
unfolding steps_of setting one_round tick
root_times = refl

first_times : times_in (steps_of one_round) 1 ≡ record { tick = 90000000; heard = 110700000; moved = 5; sent = 5; seal = Some 5 }
unfolding steps_of setting one_round tick
first_times = refl

second_times : times_in (steps_of one_round) 2 ≡ record { tick = 90000000; heard = 111000000; moved = 7; sent = 7; seal = Some 7 }
unfolding steps_of setting one_round tick
second_times = refl

-- the root fails, and the two others tick on
rest_ticks : ℕ → List Event
unfolding tick
rest_ticks n = flat_map (λ k. let t = 150000000 + 90000000 * k in tick t 1 ∷ tick t 2 ∷ []) (below n)

failed : ℕ → List Event
unfolding one_round rest_ticks tick
failed n = one_round ++ FailDevice 112000000 0 ∷ rest_ticks n

-- after its first wait of 1345000000 it moved, at its first tick then
moved_times : times_in (steps_of (failed 16)) 1 ≡ record { tick = 1500000000; heard = 110700000; moved = 1500000000; sent = 5; seal = Some 5 }
unfolding steps_of setting failed one_round rest_ticks tick
moved_times = refl

-- and after its second wait, of the same length, it took over
acting_times : times_in (steps_of (failed 31)) 1 ≡ record { tick = 2850000000; heard = 110700000; moved = 1500000000; sent = 2850000000; seal = Some 5 }
unfolding steps_of setting failed one_round rest_ticks tick
acting_times = refl

-- the premises of the laws hold there
premises_hold : (drift_holds setting (seen_of (steps_of (failed 31))) && tick_holds setting (seen_of (steps_of (failed 31)))) ≡ true
unfolding steps_of setting failed one_round rest_ticks tick
premises_hold = refl

-- a renewal: the two others enter at the new root message, each is sealed since its seal
renewal : List Event
unfolding one_round tick
renewal =
    one_round
    ++ Stage 112000000
    ∷ Give 112000000 0
    ∷ Give 112000000 1
    ∷ Give 112000000 2
    ∷ Commit 112000000 0 112000000
    ∷ tick 170000000 0
    ∷ tick 170000000 1
    ∷ tick 170000000 2
    ∷ tick 215000000 0
    ∷ Recv 215700000 1 215700000 5
    ∷ Recv 216000000 2 216000000 6
    ∷ Seal 216000000 0
    ∷ Seal 216000001 1
    ∷ Seal 216000002 2
    ∷ Seal 216000003 1
    ∷ []

renewed_times : times_in (steps_of renewal) 1 ≡ record { tick = 170000000; heard = 215700000; moved = 5; sent = 5; seal = Some 216000001 }
unfolding steps_of setting renewal one_round tick
renewed_times = refl

-- the root committed while it acted: it sent at its tick
committed_times : times_in (steps_of renewal) 0 ≡ record { tick = 215000000; heard = 0; moved = 0; sent = 215000000; seal = Some 216000000 }
unfolding steps_of setting renewal one_round tick
committed_times = refl
