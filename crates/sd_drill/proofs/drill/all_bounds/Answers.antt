use Rattle.std.proofs.Common.{◌∙◌, ◌+◌, ◌<◌, ℕ, List, Option, sym, subst, ap, arith, length}
use Rattle.std.proofs.lemmas.List.{length_push}
use Rattle.sd_checker.specs.check_hit.Outages.{net_of, plan_of}
use Rattle.sd_drill.specs.Bounds.{bound_at}
use Rattle.sd_drill.specs.Drill.{IsListed}
use Rattle.sd_drill.proofs.Listing.{listed_more}
use Rattle.sd_drill.proofs.drill.all_bounds.Goals as goal

pub loop-d-preserved : goal.loop-d-preserved
loop-d-preserved c =
    let o = c.args.outage.now in
    let old = c.loop-d.bounds.items in
    let items = c.push_reserved.ensures.items in
    record {
      listed = subst (λ (xs : List (Option ℕ)). (k : ℕ) → k < c.loop-d.d + 1
          → IsListed (net_of o) (plan_of o) c.args.times.budget o.domain k (bound_at xs k)) (sym items)
          (listed_more (IsListed (net_of o) (plan_of o) c.args.times.budget o.domain) old c.in_ok-bound.bound c.loop-d.d c.loop-d.invariant.size
          c.loop-d.invariant.listed c.in_ok-bound.ensures.bound);
      size = ap (λ (xs : List (Option ℕ)). length xs) items ∙ length_push old c.in_ok-bound.bound ∙ omega (arith, c.loop-d.invariant.size);
      can = record {
        timed = c.requires.can.timed;
        known = c.bound_of.ensures.known;
        acyclic = c.requires.can.acyclic;
        ready = c.in_ok-bound.ensures.ready;
      };
      room = c.push_reserved.ensures.capacity ∙ c.loop-d.invariant.room;
    }
