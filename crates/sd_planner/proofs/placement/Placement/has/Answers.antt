use Rattle.std.proofs.Common.{◌≡◌, ◌<◌, length, Some, refl, ap, ◌∙◌, sym, subst}
use Rattle.std.specs.List.{slice_get}
use Rattle.std.proofs.lemmas.Option.{slice_get_read}
use Rattle.sd_planner.specs.Placements.{Placements}
use Rattle.sd_planner.specs.Spreading.{is_placed}
use Rattle.sd_planner.proofs.Places.{has_placed}
use Rattle.sd_planner.proofs.placement.Placement.has.Goals as goal

pub returns : goal.returns
returns c =
    let order = c.self.inside.order.items in
    let places = c.self.inside.places.items in
    let within : c.args.d < length places = subst (λ (seen : Placements). c.args.d < seen.count) (sym c.self.view_is) c.requires in
    let place : slice_get places c.args.d ≡ Some c.index.result.now =
    slice_get_read places (length places) c.args.d c.index.result.now refl within c.index.ensures in
    c.is_some.ensures ∙ has_placed order places c.args.d c.index.result.now c.self.invariant.tied place
    ∙ ap (λ (seen : Placements). is_placed seen.order c.args.d) c.self.view_is
