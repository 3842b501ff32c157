use Rattle.std.proofs.Common.{◌≡◌, ◌<◌, ℕ, length, Option, Some, None, refl, ap, ◌∙◌, sym, subst}
use Rattle.std.specs.List.{slice_get}
use Rattle.std.proofs.lemmas.Option.{slice_get_read, slice_get_within}
use Rattle.sd_planner.specs.Placements.{Placements}
use Rattle.sd_planner.specs.declared.placement.Placed.{Placed}
use Rattle.sd_planner.specs.Spreading.{placed_at}
use Rattle.sd_planner.proofs.Places.{placed_none, placed_here}
use Rattle.sd_planner.proofs.placement.Placement.find.Goals as goal

pub returns-in-Some : goal.returns-in-Some
returns-in-Some c =
    let order = c.self.inside.order.items in
    let places = c.self.inside.places.items in
    let within : c.args.d < length places = subst (λ (seen : Placements). c.args.d < seen.count) (sym c.self.view_is) c.requires in
    let place : slice_get places c.args.d ≡ Some (Some c.in-Some.place) =
    slice_get_read places (length places) c.args.d c.index.result.now refl within c.index.ensures ∙ ap (λ (o : Option ℕ). Some o) c.in-Some.is in
    let stands : (placed : Placed) × (slice_get order c.in-Some.place ≡ Some placed) × (placed.device ≡ c.args.d) =
    c.self.invariant.tied.stands c.args.d c.in-Some.place place in
    let here : slice_get order c.in-Some.place ≡ Some c.index-in-Some.result.now =
    slice_get_read order (length order) c.in-Some.place c.index-in-Some.result.now refl
    (slice_get_within order c.in-Some.place stands.0 stands.1) c.index-in-Some.ensures in
    subst (λ (seen : Placements). Some c.index-in-Some.result.now ≡ placed_at seen.order c.args.d) c.self.view_is
    (sym here ∙ sym (placed_here order places c.args.d c.in-Some.place c.self.invariant.tied place))

pub returns-in-None : goal.returns-in-None
returns-in-None c =
    let order = c.self.inside.order.items in
    let places = c.self.inside.places.items in
    let within : c.args.d < length places = subst (λ (seen : Placements). c.args.d < seen.count) (sym c.self.view_is) c.requires in
    let place : slice_get places c.args.d ≡ Some None = slice_get_read places (length places) c.args.d c.index.result.now refl within c.index.ensures
    ∙ ap (λ (o : Option ℕ). Some o) c.in-None.is in
    let none : ◌≡◌ {A = Option Placed} None (placed_at order c.args.d) = sym (placed_none order places c.args.d c.self.invariant.tied place) in
    subst (λ (seen : Placements). ◌≡◌ {A = Option Placed} None (placed_at seen.order c.args.d)) c.self.view_is none
