use Rattle.std.proofs.Common.{ℕ, ◌<◌}
use Rattle.sd_num.specs.Numbers.{low}
use Rattle.sd_plan.specs.topo.Network.{rates_of}
use Rattle.sd_plan.specs.topo.Topologies.{network}
use Rattle.sd_why.proofs.timing.is_rushed.Given as goal

-- each device so far needs more
abbrev pub invariant-loop-d : goal.invariant-loop-d
invariant-loop-d l = (j : ℕ) → j < l.d → l.needed < low (rates_of (network l.topo) j) l.period
