use Rattle.std.proofs.Common.{◌<◌, ◌≤◌, length, All, subst}
use Rattle.sd_planner.specs.Placements.{Placements}
use Rattle.sd_planner.proofs.Places.{tied_within, tied_few}
use Rattle.sd_planner.proofs.placement.Placement.order.Goals as goal

pub returns-clause-within : goal.returns-clause-within
returns-clause-within c =
    subst (λ (seen : Placements). All (λ p. p.device < seen.count) seen.order) c.self.view_is
    (tied_within c.self.inside.order.items c.self.inside.places.items c.self.invariant.tied)

pub returns-clause-few : goal.returns-clause-few
returns-clause-few c =
    subst (λ (seen : Placements). length seen.order ≤ seen.count) c.self.view_is
    (tied_few c.self.inside.order.items c.self.inside.places.items c.self.invariant.tied)
