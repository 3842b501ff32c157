-- Schedules on the triangle, for examples: a whole round, the root's failure with a takeover, and renewals.
use Rattle.std.specs.Prelude.{ℕ, zero, suc, ◌+◌, ◌*◌, List, [], ◌∷◌, ◌++◌, flat_map, map, filter, Some, None}
use Rattle.sd_num.specs.Lists.{below}
use Rattle.sd_plan.specs.topo.Network.{device_numbers}
use Rattle.sd_plan.specs.declared.Plan.{Plan}
use Rattle.sd_plan.specs.Examples.{triangle, triangle_plan, triangle_params, other_triangle_plan, square_with, square_plan, plan_with, row, hop}
use Rattle.sd_device.specs.declared.msg.Flight.{Flight}
use Rattle.sd_sched.specs.declared.Event.{Event}
use Rattle.sd_sched.specs.declared.Event.TheVariants.{Start, Tick, Recv, FailDevice, FailLink, Stage, Give, Commit, Seal, Join, MendDevice}
use Rattle.sd_history.specs.World.{Setting, is_up}
use Rattle.sd_history.specs.Steps.{seen_of}
use Rattle.sd_history.specs.Open.{unspent}
use Rattle.sd_history.specs.Chronicle.{chronicle}
use Rattle.sd_history.proofs.Base.{same_tick, base_11}

abbrev pub one_plan : Setting
one_plan = record { net = triangle; plans = triangle_plan ∷ [] }

abbrev pub two_plans : Setting
two_plans = record { net = triangle; plans = triangle_plan ∷ triangle_plan ∷ [] }

abbrev pub three_plans : Setting
three_plans = record { net = triangle; plans = triangle_plan ∷ other_triangle_plan ∷ triangle_plan ∷ [] }

-- the ticks of the two that are left where the root has failed
abbrev pub ticks_of_the_rest : ℕ → List Event
ticks_of_the_rest rounds = flat_map (λ k. let t = 150000000 + 90000000 * k in same_tick t 1 ∷ same_tick t 2 ∷ []) (below rounds)

abbrev pub root_fails : ℕ → List Event
root_fails rounds = base_11 ++ FailDevice 112000000 0 ∷ ticks_of_the_rest rounds

-- a device fails, is mended and joins, and the plan is committed
abbrev pub mended_and_joined : List Event
mended_and_joined =
    base_11 ++ FailDevice 112000000 2 ∷ Stage 112000000 ∷ MendDevice 112000000 2 ∷ Join 112000000 2 0 112000000 800000
    ∷ Give 112000000 0 ∷ Give 112000000 1 ∷ Give 112000000 2 ∷ Commit 112000000 0 112000000 ∷ []

-- The root fails, the backup root takes over, the root is mended and joins, and the backup root commits a plan with itself as root.

abbrev pub turned_plan : Plan
turned_plan = plan_with 1 0 1345000000 1345000000 6730000000 (row (hop 1 0) (Some (hop 2 1)) ∷ None ∷ row (hop 1 2) (Some (hop 0 1)) ∷ [])

abbrev pub turned_plans : Setting
turned_plans = record { net = triangle; plans = triangle_plan ∷ turned_plan ∷ [] }

abbrev pub backup_root_commits : List Event
backup_root_commits =
    root_fails 31
    ++ Recv 2850500000 2 2850500000 5
    ∷ Stage 2851000000 ∷ MendDevice 2851000000 0 ∷ Join 2851000000 0 2851000000 2851000000 800000
    ∷ Give 2851000000 0 ∷ Give 2851000000 1 ∷ Give 2851000000 2 ∷ Commit 2851000000 1 2851000000
    ∷ same_tick 2930000000 0 ∷ same_tick 2930000000 1 ∷ same_tick 2930000000 2 ∷ same_tick 2960000000 1
    ∷ Recv 2960500000 0 2960500000 6 ∷ Recv 2960600000 2 2960600000 7
    ∷ Seal 2960700000 0 ∷ Seal 2960700000 1 ∷ Seal 2960700000 2
    ∷ Recv 2961000000 2 2961000000 8 ∷ Recv 2961100000 0 2961100000 9
    ∷ []

-- Schedules that are played: all devices that are up tick, and each flight is received half a millisecond after it was sent.

abbrev tick_all : Setting → ℕ → List Event → List Event
tick_all setting t history = map (same_tick t) (filter (is_up (seen_of (chronicle setting history))) (device_numbers setting.net)) ++ history

abbrev receive_each : ℕ → List Flight → List Event → List Event
receive_each t [] history = history
receive_each t (f ∷ fs) history = receive_each (t + 1000) fs (Recv t f.receiver t f.number ∷ history)

abbrev receive_all : Setting → ℕ → List Event → List Event
receive_all setting t history = receive_each t (unspent (chronicle setting history) t) history

abbrev pub play : Setting → ℕ → List Event → List Event
play setting t history = receive_all setting (t + 1500000) (receive_all setting (t + 1000000) (receive_all setting (t + 500000) (tick_all setting t history)))

-- this many of them after a time, a tick gap of 90 milliseconds apart
abbrev pub play_on : Setting → ℕ → ℕ → List Event → List Event
play_on setting start zero history = history
play_on setting start (suc n) history = play setting (start + 90000000 * (n + 1)) (play_on setting start n history)

abbrev pub starts : List Event
starts = Start 0 2 0 0 800000 ∷ Start 0 1 0 0 800000 ∷ Start 0 0 0 0 500 ∷ []

-- the link between the roots fails, and the backup root moves to its backup and hears there
abbrev pub link_fails : List Event
link_fails = play_on one_plan 270000000 18 (FailLink 272000000 0 ∷ play_on one_plan 0 3 starts)

-- A commit while a member has not started yet.

abbrev pub early_plans : Setting
early_plans =
    record {
      net = triangle;
      plans =
          triangle_plan
          ∷ record {
            root = 0;
            backup_root = 1;
            wait_first = 1345000000;
            wait_second = 1345000000;
            wait = 6730000000;
            absent = record { devices = 2 ∷ []; links = [] };
            rows = None ∷ row (hop 0 0) (Some (hop 0 0)) ∷ None ∷ [];
          }
          ∷ [];
    }

abbrev pub commits_early : List Event
commits_early =
    Start 0 0 0 0 500 ∷ Start 0 1 0 0 800000 ∷ Stage 0 ∷ Give 0 0 ∷ Give 0 1 ∷ Commit 0 0 0 ∷ same_tick 80000000 0 ∷ same_tick 80000000 1 ∷ same_tick 90000000
    0 ∷ []

-- Both links of a device fail, and the renewal leaves it out.

abbrev pub left_out : Setting
left_out =
    record {
      net = record (square_with (record { name = []; devices = []; links = 3 ∷ 4 ∷ [] } ∷ [])) { params = triangle_params };
      plans =
          square_plan
          ∷ record {
            root = 0;
            backup_root = 1;
            wait_first = 1345000000;
            wait_second = 1345000000;
            wait = 6730000000;
            absent = record { devices = 3 ∷ []; links = 3 ∷ 4 ∷ [] };
            rows = None ∷ row (hop 0 0) (Some (hop 2 2)) ∷ row (hop 0 1) (Some (hop 1 2)) ∷ None ∷ [];
          }
          ∷ [];
    }

abbrev pub leaves_out : List Event
leaves_out =
    play_on left_out 450000000 2
    (Seal 452000000 2 ∷ Seal 452000000 1 ∷ Seal 452000000 0
    ∷ play_on left_out 270000000 2
    (Commit 272000000 0 272000000 ∷ Give 272000000 2 ∷ Give 272000000 1 ∷ Give 272000000 0 ∷ Stage 272000000 ∷ FailLink 272000000 4 ∷ FailLink 272000000 3
    ∷ play_on left_out 0 3 (Start 0 3 0 0 800000 ∷ Start 0 2 0 0 800000 ∷ Start 0 1 0 0 800000 ∷ Start 0 0 0 0 500 ∷ [])))

-- A device that starts at the last moment.

abbrev pub starts_late : List Event
starts_late =
    play_on one_plan 90000000 3
    (Start 90000000 2 90000000 90000000 800000 ∷ Tick 90000000 1 90000000 ∷ Tick 90000000 0 90000000 ∷ Start 0 1 0 0 800000 ∷ Start 0 0 0 0 500 ∷ [])
