use Rattle.std.proofs.Common.{◌≡◌, length}
use Rattle.sd_planner.specs.Views.{net_of}
use Rattle.sd_why.specs.Bridges.{IsSearch}
use Rattle.sd_why.proofs.bridges.is_bridge.Given as goal

-- so many of those that are met have been looked around from
abbrev pub invariant-loop-i : goal.invariant-loop-i
invariant-loop-i l =
    record {
      room : l.met.bound ≡ length (net_of l.present).devices;
      search : IsSearch (net_of l.present) l.link l.i l.met.numbers;
    }
