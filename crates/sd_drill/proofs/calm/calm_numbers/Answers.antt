use Rattle.std.proofs.Common.{◌∙◌, ◌+◌, ◌<◌, ℕ, List, get_or, sym, subst, ap, arith, length}
use Rattle.std.proofs.lemmas.List.{length_push}
use Rattle.sd_plan.specs.topo.Topologies.{network}
use Rattle.sd_drill.specs.Calm.{IsCalm}
use Rattle.sd_drill.specs.declared.Budget.{Budget}
use Rattle.sd_drill.proofs.Listing.{placed_more}
use Rattle.sd_drill.proofs.calm.calm_numbers.Goals as goal

pub loop-d-preserved : goal.loop-d-preserved
loop-d-preserved c =
    let net = network c.args.planned.topo.now in
    let plan = c.args.planned.plan.now in
    let old = c.loop-d.numbers.items in
    let number = c.number.result in
    let items = c.push_reserved.ensures.items in
    record {
      listed = subst (λ (xs : List ℕ). (k : ℕ) → k < c.loop-d.d + 1 → IsCalm net plan c.args.budget k (get_or xs k 0)) (sym items)
          (placed_more 0 (IsCalm net plan c.args.budget) old number c.loop-d.d c.loop-d.invariant.size c.loop-d.invariant.listed
          (subst (λ (budget : Budget). IsCalm net plan budget c.loop-d.d number) c.new-times.ensures.budget c.number.ensures));
      size = ap (λ (xs : List ℕ). length xs) items ∙ length_push old number ∙ omega (arith, c.loop-d.invariant.size);
      room = c.push_reserved.ensures.capacity ∙ c.loop-d.invariant.room;
    }
