-- The devices that wait for their place, as a set of numbers.
use Rattle.std.specs.Prelude.{◌≡◌, ℕ, ◌≤◌, Bool, true, false, ◌&&◌, not, List, nat_eq, Option, Some, None}
use Rattle.std.specs.List.{list_any}
use Rattle.sd_num.specs.Lists.{has}
use Rattle.sd_plan.specs.topo.Network.{Network}
use Rattle.sd_plan.specs.declared.Absent.{Absent}
use Rattle.sd_planner.specs.declared.present.Neighbour.{Neighbour}
use Rattle.sd_planner.specs.declared.placement.Placed.{Placed}
use Rattle.sd_planner.specs.Spreading.{is_placed}
use Rattle.sd_planner.specs.Usable.{neighbours_of}
use Rattle.sd_planner.specs.Placing.{next_left, with_device}

-- this was the lowest of them, and is so no more
pub record IsLowest (old new : List ℕ) (d : ℕ) : Type 0 where
  pub there : has old d ≡ true
  pub least : (x : ℕ) → has old x ≡ true → d ≤ x
  pub rest : (x : ℕ) → has new x ≡ (has old x && not (nat_eq x d))

-- the lowest of them was taken, or there was none
abbrev pub IsTaken : List ℕ → List ℕ → Option ℕ → Type 0
IsTaken old new None = (x : ℕ) → has old x ≡ false
IsTaken old new (Some d) = IsLowest old new d

-- d is one of the neighbours
abbrev pub lead_to : List Neighbour → ℕ → Bool
lead_to neighbours d = list_any (λ neighbour. nat_eq neighbour.device d) neighbours

-- d is not placed, and a neighbour of one of these placed devices
abbrev pub waits : (ℕ → List Neighbour) → List Placed → List Placed → ℕ → Bool
waits near placed seen d = not (is_placed placed d) && list_any (λ p. lead_to (near p.device) d) seen

-- just those devices wait
pub record AreWaiting (near : ℕ → List Neighbour) (placed seen : List Placed) (numbers : List ℕ) : Type 0 where
  pub each : (d : ℕ) → has numbers d ≡ waits near placed seen d

-- the lowest device that waits has been placed, and the right ones wait now
pub record IsPlacedNext (net : Network) (absent : Absent) (old new : List Placed) (numbers : List ℕ) : Type 0 where
  pub lowest : ℕ
  pub next : next_left net absent old ≡ Some lowest
  pub with_it : new ≡ with_device net absent old lowest
  pub waiting : AreWaiting (neighbours_of net absent) new new numbers

-- whether one was left
abbrev pub IsNextStep : Network → Absent → Bool → List Placed → List Placed → List ℕ → Type 0
IsNextStep net absent true old new numbers = IsPlacedNext net absent old new numbers
IsNextStep net absent false old new numbers = (next_left net absent old ≡ None) × (new ≡ old)
