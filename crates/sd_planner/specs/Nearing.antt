-- The nearest placed neighbour, as it is found by going over neighbours.
use Rattle.std.specs.Prelude.{◌≡◌, ℕ, ◌<◌, List, find, nat_eq, Option, Some, None, All, IfSome, IsTrue, if◌then◌else◌}
use Rattle.sd_num.specs.Lists.{map_or}
use Rattle.sd_plan.specs.topo.Network.{Each}
use Rattle.sd_planner.specs.declared.present.Neighbour.{Neighbour}
use Rattle.sd_planner.specs.declared.placement.Placed.{Placed}
use Rattle.sd_planner.specs.Spreading.{placed_at}
use Rattle.sd_planner.specs.Placing.{no_later}
use Rattle.sd_planner.specs.declared.nearest.Near.{Near}

-- each placed device is one that there is and is found by its number, and lies no deeper than there are devices
pub record AreKnown (count : ℕ) (placed : List Placed) : Type 0 where
  pub within : Each (λ p. p.device < count) placed
  pub found : Each (λ p. placed_at placed p.device ≡ Some p) placed
  pub shallow : Each (λ p. p.depth < count) placed

-- the earlier of the two, the first where they are one
abbrev pub better : Option Near → Near → Near
better None near = near
better (Some best) near = if no_later best.placed near.placed then best else near

-- the best one after one more neighbour
abbrev pub closer : List Placed → Option Near → Neighbour → Option Near
closer placed best neighbour = map_or (placed_at placed neighbour.device) best (λ p. Some (better best (record { placed = p; link = neighbour.link })))

-- a neighbour leads to this placed device, the first of them over this link, and none to an earlier one
pub record IsNear (placed : List Placed) (neighbours : List Neighbour) (near : Near) : Type 0 where
  pub first : find (λ neighbour. nat_eq neighbour.device near.placed.device) neighbours ≡ Some (record { device = near.placed.device; link = near.link })
  pub stands : placed_at placed near.placed.device ≡ Some near.placed
  pub least : All (λ neighbour. IfSome (placed_at placed neighbour.device) (λ q. IsTrue (no_later near.placed q))) neighbours

-- this is the nearest placed device, or no neighbour is placed
abbrev pub IsNearest : List Placed → List Neighbour → Option Near → Type 0
IsNearest placed neighbours None = All (λ neighbour. placed_at placed neighbour.device ≡ None) neighbours
IsNearest placed neighbours (Some near) = IsNear placed neighbours near
