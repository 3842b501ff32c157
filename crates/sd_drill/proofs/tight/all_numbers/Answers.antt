use Rattle.std.proofs.Common.{◌∙◌, ◌+◌, ◌<◌, ℕ, List, Option, sym, subst, ap, arith, length}
use Rattle.std.proofs.lemmas.List.{length_push}
use Rattle.sd_checker.specs.check_hit.Outages.{net_of, plan_of}
use Rattle.sd_drill.specs.Bounds.{bound_at}
use Rattle.sd_drill.specs.Tight.{IsTightListed}
use Rattle.sd_drill.proofs.Listing.{listed_more}
use Rattle.sd_drill.proofs.tight.all_numbers.Goals as goal

pub loop-d-preserved : goal.loop-d-preserved
loop-d-preserved c =
    let o = c.args.outage.now in
    let old = c.loop-d.numbers.items in
    let items = c.push_reserved.ensures.items in
    record {
      listed = subst (λ (xs : List (Option ℕ)). (k : ℕ) → k < c.loop-d.d + 1
          → IsTightListed (net_of o) (plan_of o) c.args.times.budget o.domain k (bound_at xs k)) (sym items)
          (listed_more (IsTightListed (net_of o) (plan_of o) c.args.times.budget o.domain) old c.in_ok-number.number c.loop-d.d c.loop-d.invariant.size
          c.loop-d.invariant.listed c.in_ok-number.ensures.number);
      size = ap (λ (xs : List (Option ℕ)). length xs) items ∙ length_push old c.in_ok-number.number ∙ omega (arith, c.loop-d.invariant.size);
      can = record {
        timed = c.requires.can.timed;
        acyclic = c.requires.can.acyclic;
        ready = c.in_ok-number.ensures.ready;
        room = c.number_of.ensures.room;
      };
      room = c.push_reserved.ensures.capacity ∙ c.loop-d.invariant.room;
    }
