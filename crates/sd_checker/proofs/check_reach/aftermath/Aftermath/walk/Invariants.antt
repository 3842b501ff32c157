use Rattle.std.proofs.Common.{◌≡◌, ◌<◌, ◌-◌, ℕ, true, length, nat_eq}
use Rattle.std.specs.List.{IsDistinct}
use Rattle.sd_num.specs.Lists.{has}
use Rattle.sd_checker.specs.check_reach.Aftermaths.{net_of, plan_of, domain_of}
use Rattle.sd_checker.specs.check_reach.Chains.{IsChainTo}
use Rattle.sd_checker.proofs.check_reach.aftermath.Aftermath.walk.Given as goal

abbrev pub invariant-loop-next : goal.invariant-loop-next
invariant-loop-next l =
    record {
      known : IsChainTo (net_of l.self) (plan_of l.self) (domain_of l.self) l.first l.here l.chain.numbers;
      device : l.here < length (net_of l.self).devices;
      within : (x : ℕ) → has l.chain.numbers x ≡ true → x < length (net_of l.self).devices;
      distinct : IsDistinct nat_eq l.chain.numbers;
      room : l.chain.bound ≡ length (net_of l.self).devices;
    }

abbrev pub decreases-loop-next : goal.decreases-loop-next
decreases-loop-next l = length (net_of l.self).devices - length l.chain.numbers
