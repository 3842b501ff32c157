-- A flag for each number.
use Rattle.std.specs.Prelude.{◌≡◌, ℕ, ◌<◌, Bool, false, List, length, slice_get, slice_index_or, Some, if◌then◌else◌}
use Rattle.sd_num.specs.Lists.{has}
use Rattle.sd_plan.specs.topo.Network.{Network}
use Rattle.sd_plan.specs.declared.Absent.{Absent}
use Rattle.sd_planner.specs.declared.placement.Placed.{Placed}
use Rattle.sd_planner.specs.Trees.{Grows}
use Rattle.sd_planner.specs.Climbs.{leads_over}

-- the flag of a number, false where there is none
abbrev pub is_set : List Bool → ℕ → Bool
is_set flags k = slice_index_or flags k false

-- the flags of some numbers were set to a value, and no other
pub record AreSet (numbers : List ℕ) (value : Bool) (old new : List Bool) : Type 0 where
  pub size : length new ≡ length old
  pub each : (k : ℕ) → is_set new k ≡ (if has numbers k then value else is_set old k)

-- of the first of the placed devices, those have flags whose walks lead over a flagged device or link
pub record AreOver (devices links : List Bool) (placed : List Placed) (count : ℕ) (flags : List Bool) : Type 0 where
  pub size : length flags ≡ length devices
  pub each : (i : ℕ) (p : Placed) → i < count → slice_get placed i ≡ Some p → is_set flags p.device ≡ leads_over (is_set devices) (is_set links) placed p.device

-- the placed devices grew from a root of some network that has this many devices
pub record HaveGrown (count : ℕ) (order : List Placed) : Type 0 where
  pub net : Network
  pub root : ℕ
  pub absent : Absent
  pub grown : Grows net root absent order
  pub size : count ≡ length net.devices
