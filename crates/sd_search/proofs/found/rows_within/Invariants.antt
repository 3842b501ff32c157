use Rattle.std.proofs.Common.{◌≡◌, length}
use Rattle.sd_plan.specs.topo.Network.{Each}
use Rattle.sd_plan.specs.topo.Topologies.{network}
use Rattle.sd_plan.specs.Plans.{IsRow}
use Rattle.sd_search.proofs.found.rows_within.Given as goal

-- the rows so far are within the topology, one for each device before
abbrev pub invariant-loop-d : goal.invariant-loop-d
invariant-loop-d l =
    record {
      within : Each (IsRow (network l.topo)) l.rows;
      count : length l.rows ≡ l.d;
    }
