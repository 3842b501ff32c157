use Rattle.std.proofs.Common.{◌≡◌}
use Rattle.sd_planner.specs.Views.{net_of}
use Rattle.sd_why.specs.Bridges.{IsAround}
use Rattle.sd_why.proofs.bridges.meet_besides.Given as goal

-- the neighbours so far are met, but over the link
abbrev pub invariant-loop-neighbour : goal.invariant-loop-neighbour
invariant-loop-neighbour l =
    record {
      room : l.met.bound ≡ l.fn.met.bound;
      around : IsAround (net_of l.present) l.link l.d l.neighbour-index l.neighbours l.fn.met.numbers l.met.numbers;
    }
