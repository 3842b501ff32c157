-- How the greedy plan places devices: each below its primary parent, in an order.
use Rattle.std.specs.Prelude.{ℕ, zero, suc, Bool, false, true, ◌&&◌, not, List, ◌∷◌, ◌++◌, length, find, nat_eq, nat_le, nat_lt, Option, None, is_some, option_map, if◌then◌else◌, [], ◌||◌}
use Rattle.std.specs.List.{list_all}
use Rattle.sd_num.specs.Lists.{map_or, at_place}
use Rattle.sd_plan.specs.topo.Network.{Network}
use Rattle.sd_plan.specs.declared.topo.Side.TheVariants as side
use Rattle.sd_plan.specs.declared.Absent.{Absent}
use Rattle.sd_planner.specs.Usable.{takes_part, all_members, are_neighbours}
use Rattle.sd_planner.specs.declared.placement.Placed.{Placed}
use Rattle.sd_planner.specs.Spreading.{is_placed, depth_of, below_device, spread}

-- p comes before q, or is q, by depth and then by number
abbrev pub no_later : Placed → Placed → Bool
no_later p q = nat_lt p.depth q.depth || (nat_eq p.depth q.depth && nat_le p.device q.device)

-- the device is on the side of the backup root
abbrev pub is_on_backup_side : Network → ℕ → Bool
is_on_backup_side net d = at_place net.devices d false (λ device. elim device.side [ side.Root ↦ false | side.Backup ↦ true ])

module _ (net : Network) (absent : Absent) where
  -- Placing below the nearest

  -- the placed neighbour of d that is least by depth and then by number
  abbrev pub nearest : List Placed → ℕ → Option Placed
  nearest placed d =
      find (λ p. are_neighbours net absent d p.device && list_all (λ q. not (are_neighbours net absent d q.device) || no_later p q) placed) placed

  -- the device placed below the nearest of its placed neighbours
  abbrev pub below_nearest : List Placed → ℕ → Option Placed
  below_nearest placed d = option_map (λ p. below_device net absent p.device p.depth d) (nearest placed d)

  -- the placed devices, and d below its nearest neighbour if it has one
  abbrev pub with_device : List Placed → ℕ → List Placed
  with_device placed d = map_or (below_nearest placed d) placed (λ p. placed ++ p ∷ [])

  -- the lowest member that is not placed and has a placed neighbour
  abbrev pub next_left : List Placed → Option ℕ
  next_left placed = find (λ d. not (is_placed placed d) && is_some (nearest placed d)) (all_members net absent)

  -- again and again, n times at most
  abbrev pub with_left : ℕ → List Placed → List Placed
  with_left zero placed = placed
  with_left (suc n) placed = map_or (next_left placed) placed (λ d. with_left n (with_device placed d))

  -- what may be passed on the backup side: the members that are left and on it
  abbrev pub through_backup : List Placed → ℕ → Bool
  through_backup placed d = takes_part net absent d && is_on_backup_side net d && not (is_placed placed d)

module _ (net : Network) (root : ℕ) (absent : Absent) where
  -- the backup root: the first candidate that is a member other than the root, else the root itself
  abbrev pub backup_root_of : ℕ
  backup_root_of = map_or (find (λ d. takes_part net absent d && not (nat_eq d root)) net.roots) root (λ d. d)

  -- The steps

  -- what may be passed on the root's side: the members that are neither root nor backup root nor on the backup side
  abbrev pub through_root : ℕ → Bool
  through_root d = takes_part net absent d && not (nat_eq d root) && not (nat_eq d backup_root_of) && not (is_on_backup_side net d)

  -- the root, and what is reached from it through these
  abbrev pub root_part : List Placed
  root_part = record { device = root; depth = 0; hop = None } ∷ spread net absent root through_root 0

  -- then the backup root below its nearest neighbour
  abbrev pub with_backup_root : List Placed
  with_backup_root = if nat_eq backup_root_of root then root_part else with_device net absent root_part backup_root_of

  -- then what is reached from the backup root through these
  abbrev pub both_parts : List Placed
  both_parts =
      if not (nat_eq backup_root_of root) && is_placed with_backup_root backup_root_of
      then with_backup_root ++ spread net absent backup_root_of (through_backup net absent with_backup_root) (depth_of with_backup_root backup_root_of)
      else with_backup_root

  -- then what is left
  abbrev pub placed_all : List Placed
  placed_all = with_left net absent (length net.devices) both_parts

  -- the placed devices, in their order: none where the root is absent
  unfoldable pub placed : List Placed
  placed = if takes_part net absent root then placed_all else []
