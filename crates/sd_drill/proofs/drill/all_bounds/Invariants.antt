use Rattle.std.proofs.Common.{◌≡◌, ℕ, ◌<◌, length}
use Rattle.std.specs.Vec.{vec_capacity}
use Rattle.sd_checker.specs.check_hit.Outages.{net_of, plan_of}
use Rattle.sd_drill.specs.Bounding.{CanBound}
use Rattle.sd_drill.specs.Bounds.{bound_at}
use Rattle.sd_drill.specs.Drill.{IsListed}
use Rattle.sd_drill.proofs.drill.all_bounds.Given as goal

abbrev pub invariant-loop-d : goal.invariant-loop-d
invariant-loop-d l =
    record {
      listed : (k : ℕ) → k < l.d → IsListed (net_of l.outage) (plan_of l.outage) l.times.budget l.outage.domain k (bound_at l.bounds.items k);
      size : length l.bounds.items ≡ l.d;
      can : CanBound (net_of l.outage) (plan_of l.outage) l.outage.domain l.times l.known;
      room : vec_capacity l.bounds ≡ length (net_of l.outage).devices;
    }
