use Rattle.std.proofs.Common.{◌≡◌, ◌≤◌, length}
use Rattle.sd_planner.specs.Views.{net_of}
use Rattle.sd_why.specs.Bridges.{CountsBelow}
use Rattle.sd_why.proofs.bridges.count_bridges.Given as goal

-- the bridges so far are counted
abbrev pub invariant-loop-link : goal.invariant-loop-link
invariant-loop-link l =
    record {
      room : l.met.bound ≡ length (net_of l.present).devices;
      counted : CountsBelow (net_of l.present) l.link l.count;
      most : l.count ≤ l.link;
    }
