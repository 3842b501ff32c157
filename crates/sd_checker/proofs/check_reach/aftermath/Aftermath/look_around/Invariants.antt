use Rattle.std.proofs.Common.{◌≡◌, ◌<◌, ℕ, true, Some, slice_get}
use Rattle.sd_num.specs.Lists.{has}
use Rattle.sd_checker.specs.check_reach.Aftermaths.{net_of, plan_of, domain_of}
use Rattle.sd_plan.specs.declared.End.{End}
use Rattle.sd_checker.specs.check_reach.Reached.{Grows, IsStep, is_left}
use Rattle.sd_checker.proofs.check_reach.aftermath.Aftermath.look_around.Given as goal

abbrev pub invariant-loop-end : goal.invariant-loop-end
invariant-loop-end l =
    record {
      grown : Grows l.fn.visited.numbers l.visited.numbers (IsStep (net_of l.self) (plan_of l.self) (domain_of l.self) l.d);
      passed : (j : ℕ) (e : End) → j < l.end-index → slice_get l.end-items j ≡ Some e → is_left (net_of l.self) (domain_of l.self) e.link e.device ≡ true
          → has l.visited.numbers e.device ≡ true;
      room : l.visited.bound ≡ l.fn.visited.bound;
    }
