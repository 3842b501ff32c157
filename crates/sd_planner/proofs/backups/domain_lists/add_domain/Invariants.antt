use Rattle.std.proofs.Common.{◌≡◌, ℕ, ◌&&◌, ◌||◌, length, nat_eq, take}
use Rattle.sd_num.specs.Lists.{has}
use Rattle.sd_plan.specs.Subtrees.{listed}
use Rattle.sd_planner.proofs.backups.domain_lists.add_domain.Given as goal

abbrev pub invariant-loop-thing : goal.invariant-loop-thing
invariant-loop-thing l =
    record {
      size : length l.lists ≡ length l.fn.lists;
      each : (x k : ℕ) → has (listed l.lists x) k ≡ (has (listed l.fn.lists x) k || (nat_eq k l.domain && has (take l.thing-index l.things) x));
    }
