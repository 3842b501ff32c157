use Rattle.std.proofs.Common.{◌≡◌, ℕ, ◌<◌, length}
use Rattle.std.specs.Vec.{vec_capacity}
use Rattle.sd_checker.specs.check_hit.Outages.{net_of, plan_of}
use Rattle.sd_drill.specs.Bounds.{bound_at}
use Rattle.sd_drill.specs.Tight.{IsTightListed}
use Rattle.sd_drill.specs.Tightening.{CanTighten}
use Rattle.sd_drill.proofs.tight.all_numbers.Given as goal

abbrev pub invariant-loop-d : goal.invariant-loop-d
invariant-loop-d l =
    record {
      listed : (k : ℕ) → k < l.d → IsTightListed (net_of l.outage) (plan_of l.outage) l.times.budget l.outage.domain k (bound_at l.numbers.items k);
      size : length l.numbers.items ≡ l.d;
      can : CanTighten (net_of l.outage) (plan_of l.outage) l.outage.domain l.times l.recoveries;
      room : vec_capacity l.numbers ≡ length (net_of l.outage).devices;
    }
