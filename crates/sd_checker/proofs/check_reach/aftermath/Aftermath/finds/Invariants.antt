use Rattle.std.proofs.Common.{◌≡◌, ◌-◌, length}
use Rattle.sd_checker.specs.check_reach.Aftermaths.{net_of, plan_of, domain_of}
use Rattle.sd_checker.specs.check_reach.Homes.{IsHome}
use Rattle.sd_checker.proofs.check_reach.Joining.{IsSearching}
use Rattle.sd_checker.proofs.check_reach.aftermath.Aftermath.finds.Given as goal

abbrev pub invariant-loop-at : goal.invariant-loop-at
invariant-loop-at l = record {
  known : IsSearching (net_of l.self) (plan_of l.self) (domain_of l.self) l.from l.at l.visited.numbers;
  room : l.visited.bound ≡ l.fn.visited.bound;
  home : IsHome (net_of l.self) (plan_of l.self) (domain_of l.self) l.home;
  home_room : l.home.joined.bound ≡ l.fn.home.joined.bound;
}

abbrev pub decreases-loop-at : goal.decreases-loop-at
decreases-loop-at l = length (net_of l.self).devices - l.at
