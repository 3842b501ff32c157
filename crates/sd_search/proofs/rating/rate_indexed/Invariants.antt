use Rattle.std.proofs.Common.{◌≡◌, ◌*◌, ◌≤◌}
use Rattle.sd_plan.specs.topo.Topologies.{network}
use Rattle.sd_drill.specs.Times.{IsDrillOf}
use Rattle.sd_search.specs.Ratings.{IsRatingUnder}
use Rattle.sd_search.proofs.rating.rate_indexed.Given as goal

-- the bounds under the domains so far have been added
abbrev pub invariant-loop-place : goal.invariant-loop-place
invariant-loop-place l =
    let net = network l.planned.topo.now in
    record {
      rating : IsRatingUnder net l.planned.plan.now l.fn.budget l.place l.rating;
      missing : l.rating.unbounded ≤ l.place * 4096;
      drill : IsDrillOf net l.planned.plan.now l.drill;
      budget : l.drill.times.budget ≡ l.fn.budget;
    }
