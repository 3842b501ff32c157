use Rattle.std.proofs.Common.{◌≡◌, ◌<◌, ℕ, Some, slice_get}
use Rattle.sd_checker.specs.check_reach.Aftermaths.{net_of, plan_of, domain_of}
use Rattle.sd_checker.specs.check_reach.Reached.{Reaches}
use Rattle.sd_checker.specs.check_reach.Searches.{HasRoom, IsSearchOf}
use Rattle.sd_checker.proofs.check_reach.aftermath.Aftermath.first_uncut.Given as goal

abbrev pub invariant-loop-d : goal.invariant-loop-d
invariant-loop-d l =
    record {
      search : IsSearchOf (net_of l.self) (plan_of l.self) (domain_of l.self) l.search;
      room : HasRoom (net_of l.self) l.search;
      passed : (j e : ℕ) → j < l.d-index → slice_get l.candidates j ≡ Some e → ¬ Reaches (net_of l.self) (plan_of l.self) (domain_of l.self) e;
    }
