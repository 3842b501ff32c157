-- Placing breadth first: each device below its earliest placed neighbour, ring after ring.
use Rattle.std.specs.Prelude.{ℕ, zero, suc, ◌+◌, Bool, ◌&&◌, List, ◌∷◌, length, map, find, filter, flat_map, nat_eq, Option, option_map, []}
use Rattle.std.specs.List.{list_any}
use Rattle.sd_num.specs.Lists.{below, map_or, same_number}
use Rattle.sd_plan.specs.topo.Network.{Network, device_numbers}
use Rattle.sd_plan.specs.topo.Joined.{joined_within}
use Rattle.sd_plan.specs.declared.Absent.{Absent}
use Rattle.sd_planner.specs.Usable.{is_usable, link_between, are_neighbours}
use Rattle.sd_planner.specs.declared.placement.Placed.{Placed}

-- the device was placed
abbrev pub is_placed : List Placed → ℕ → Bool
is_placed placed d = list_any (λ p. nat_eq p.device d) placed

-- how a device was placed, if it was
abbrev pub placed_at : List Placed → ℕ → Option Placed
placed_at placed d = find (λ p. nat_eq p.device d) placed

-- the depth at which a device was placed, 0 if it was not
abbrev pub depth_of : List Placed → ℕ → ℕ
depth_of placed d = map_or (placed_at placed d) 0 (λ p. p.depth)

module _ (net : Network) (absent : Absent) where
  -- d placed below the device, over the lowest link
  abbrev pub below_device : ℕ → ℕ → ℕ → Placed
  below_device parent parent_depth d =
      record { device = d; depth = parent_depth + 1; hop = option_map (λ l. record { parent = parent; link = l }) (link_between net absent d parent) }

  -- Spreading breadth first from a source through some devices

  -- the least number of usable links that lead from the source to d through these devices
  abbrev pub steps_from : ℕ → (ℕ → Bool) → ℕ → Option ℕ
  steps_from source through d = find (λ n. joined_within net through (is_usable net absent) n source d) (below (length net.devices + 1))

  -- the devices that many steps away, in the order of their primary parents and then of their numbers: the primary parent is the
  -- earliest neighbour one step less away
  abbrev pub ring : ℕ → (ℕ → Bool) → ℕ → List ℕ
  ring source through zero = source ∷ []
  ring source through (suc n) =
      let nearer = ring source through n in
      flat_map (λ parent. filter (λ d. through d && same_number (steps_from source through d) (suc n)
      && same_number (find (are_neighbours net absent d) nearer) parent) (device_numbers net)) nearer

  -- the devices of the next ring, each below its earliest neighbour one step less away
  abbrev pub placed_ring : ℕ → (ℕ → Bool) → ℕ → ℕ → List Placed
  placed_ring source through source_depth n =
      let nearer = ring source through n in
      map (λ d. below_device (map_or (find (are_neighbours net absent d) nearer) source (λ e. e)) (source_depth + n) d) (ring source through (n + 1))

  -- all of them, ring after ring
  abbrev pub spread : ℕ → (ℕ → Bool) → ℕ → List Placed
  spread source through source_depth = flat_map (placed_ring source through source_depth) (below (length net.devices))
