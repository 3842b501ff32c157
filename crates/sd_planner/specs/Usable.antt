-- The neighbours of devices over what is left where devices and links are absent.
use Rattle.std.specs.Prelude.{ℕ, Bool, ◌&&◌, not, List, map, find, filter, flat_map, Option, is_some}
use Rattle.sd_num.specs.Lists.{has}
use Rattle.sd_plan.specs.topo.Network.{Network, device_numbers, link_numbers, joins, link_of}
use Rattle.sd_plan.specs.declared.Absent.{Absent}
use Rattle.sd_plan.specs.declared.Hop.{Hop}
use Rattle.sd_planner.specs.declared.present.Neighbour.{Neighbour}

-- the hop that leads to a neighbour
abbrev pub hop_to : Neighbour → Hop
hop_to neighbour = record { parent = neighbour.device; link = neighbour.link }

module _ (net : Network) (absent : Absent) where
  -- the device is not left out: it is a member
  abbrev pub takes_part : ℕ → Bool
  takes_part d = not (has absent.devices d)

  -- the members, ascending
  abbrev pub all_members : List ℕ
  all_members = filter takes_part (device_numbers net)

  -- a link that is not left out and whose ends are members
  abbrev pub is_usable : ℕ → Bool
  is_usable l = not (has absent.links l) && takes_part (link_of net l).end_a && takes_part (link_of net l).end_b

  -- the usable links between two devices, ascending
  abbrev pub links_between : ℕ → ℕ → List ℕ
  links_between d e = filter (λ l. is_usable l && joins net l d e) (link_numbers net)

  -- the lowest of them, if there is one
  abbrev pub link_between : ℕ → ℕ → Option ℕ
  link_between d e = find (λ l. is_usable l && joins net l d e) (link_numbers net)

  -- a usable link joins the devices
  abbrev pub are_neighbours : ℕ → ℕ → Bool
  are_neighbours d e = is_some (link_between d e)

  -- the neighbours of d by ascending number, and the links to each by theirs
  abbrev pub neighbours_of : ℕ → List Neighbour
  neighbours_of d = flat_map (λ y. map (λ l. record { device = y; link = l }) (links_between d y)) (device_numbers net)

  -- the hops that d may take, in this order
  abbrev pub hops_from : ℕ → List Hop
  hops_from d = map hop_to (neighbours_of d)
