-- For how long a device is silent at most: before the failures, until all had time to move, and until a round came down.
use Rattle.std.specs.Prelude.{ℕ, ◌+◌, ◌*◌}
use Rattle.sd_plan.specs.topo.Network.{Network}
use Rattle.sd_plan.specs.declared.Plan.{Plan}
use Rattle.sd_checker.specs.check_root.Timing.{round_gap}
use Rattle.sd_safety.specs.invariant.Bounds.{depth, delay, rounds_gap}
use Rattle.sd_bound.specs.chains.Chains.{turning}

-- while nothing of its path has failed
abbrev pub lag : Network → ℕ
lag net = rounds_gap net + round_gap net + depth net * delay net

-- at any time
abbrev pub silence_at_most : Network → Plan → ℕ
silence_at_most net plan = lag net + turning net plan + (rounds_gap net + 2 * (depth net + 1) * delay net)
