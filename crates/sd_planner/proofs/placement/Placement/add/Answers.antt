use Rattle.std.proofs.Common.{◌≡◌, ◌<◌, ◌≤◌, false, List, Some, length, set, ap, ◌∙◌, sym, subst, arith}
use Rattle.std.proofs.Math.ListN.{length-set}
use Rattle.sd_planner.specs.Placements.{Placements}
use Rattle.sd_planner.specs.declared.placement.Placed.{Placed}
use Rattle.sd_planner.specs.Spreading.{is_placed}
use Rattle.sd_planner.specs.PlacementView.{AreTied}
use Rattle.sd_planner.proofs.Places.{tied_few, tied_more}
use Rattle.sd_planner.proofs.placement.Placement.add.Goals as goal

pub overflow_cast-place : goal.overflow_cast-place
overflow_cast-place c =
    let few : length c.self.inside.order.items ≤ length c.self.inside.places.items =
    tied_few c.self.inside.order.items c.self.inside.places.items c.self.invariant.tied in
    omega (arith, c.len-place.ensures, c.self.inside.order.ok.0, c.self.invariant.size)

pub invariant_of-self-2 : goal.invariant_of-self-2
invariant_of-self-2 c =
    let order = c.self.inside.order.items in
    let places = c.self.inside.places.items in
    let fresh : is_placed order c.args.placed.device ≡ false =
    ap (λ (seen : Placements). is_placed seen.order c.args.placed.device) c.self.view_is ∙ c.requires.fresh in
    let within : c.args.placed.device < length places =
    subst (λ (seen : Placements). c.args.placed.device < seen.count) (sym c.self.view_is) c.requires.range in
    let last : c.len-place.result ≡ length order = omega (arith, c.len-place.ensures, c.self.inside.order.ok.0) in
    record {
      size = omega (arith, c.self.invariant.size, length-set places c.args.placed.device (Some c.len-place.result));
      tied = subst (λ (xs : List Placed). AreTied xs (set places c.args.placed.device (Some c.len-place.result))) (sym c.in-Ok.ensures.items)
          (tied_more order places c.args.placed c.len-place.result c.self.invariant.tied last fresh within);
    }
