-- Which hops serve as backups of the placed devices, and the rows that this makes.
use Rattle.std.specs.Prelude.{ℕ, Bool, ◌&&◌, ◌||◌, not, List, [], length, map, find, nat_eq, nat_lt, Option, None, option_map, option_and_then, if◌then◌else◌}
use Rattle.std.specs.List.{list_any}
use Rattle.sd_num.specs.Lists.{has}
use Rattle.sd_plan.specs.topo.Network.{Network, device_numbers}
use Rattle.sd_plan.specs.domain.Domains.{domains, holds_device, holds_link, hits, listed_domains}
use Rattle.sd_plan.specs.declared.domain.DomainId.{DomainId}
use Rattle.sd_plan.specs.declared.Hop.{Hop}
use Rattle.sd_plan.specs.declared.PlanRow.{PlanRow}
use Rattle.sd_plan.specs.declared.Plan.{Plan}
use Rattle.sd_plan.specs.declared.Absent.{Absent}
use Rattle.sd_plan.specs.Plans.{primary_of, is_root}
use Rattle.sd_plan.specs.Walks.{hops, things_of, devices_of, links_of}
use Rattle.sd_planner.specs.Usable.{hops_from}
use Rattle.sd_planner.specs.Spreading.{is_placed, placed_at, depth_of}
use Rattle.sd_planner.specs.Placing.{backup_root_of, placed}

-- the domain has the hop's link or parent
abbrev pub hits_hop : Network → DomainId → Hop → Bool
hits_hop net domain hop = holds_link net domain hop.link || holds_device net domain hop.parent

-- the two sides differ
abbrev pub differ : Bool → Bool → Bool
differ a b = (a && not b) || (not a && b)

-- a listed domain that leaves the device out joins its primary hop and the hop
abbrev pub are_joined : Network → ℕ → Hop → Hop → Bool
are_joined net d primary hop =
    list_any (λ domain. not (holds_device net domain d) && hits_hop net domain primary && hits_hop net domain hop) (listed_domains net)

module _ (net : Network) (root : ℕ) (absent : Absent) where
  -- a plan with the primaries alone
  abbrev pub primary_row : ℕ → Option PlanRow
  primary_row d = option_map (λ hop. record { primary = hop; backup = None }) (option_and_then (λ p. p.hop) (placed_at (placed net root absent) d))

  -- the plan with the primaries alone
  unfoldable pub primaries : Plan
  primaries =
      record {
        root = root;
        backup_root = backup_root_of net root absent;
        wait_first = 0;
        wait_second = 0;
        wait = 0;
        absent = absent;
        rows = map primary_row (device_numbers net);
      }

  -- the walk of a placed device to the root
  unfoldable pub walk_up : ℕ → List Hop
  walk_up d = if nat_eq d root then [] else hops (is_root primaries) primaries (length (placed net root absent)) d

  -- the walk of the device to the root has this one
  abbrev pub on_walk_up : ℕ → ℕ → Bool
  on_walk_up d x = has (devices_of d (walk_up d)) x

  -- the device is the backup root, or its walk leads over it
  abbrev pub is_behind_backup_root : ℕ → Bool
  is_behind_backup_root d = on_walk_up d (backup_root_of net root absent)

  -- y comes before d by depth and number, the root before all
  abbrev pub comes_before : ℕ → ℕ → Bool
  comes_before y d =
      nat_eq y root
      || nat_lt (depth_of (placed net root absent) y) (depth_of (placed net root absent) d)
      || (nat_eq (depth_of (placed net root absent) y) (depth_of (placed net root absent) d) && nat_lt y d)

  -- the hop serves as backup of d, another device than the backup root, whose primary hop is given
  abbrev pub serves : ℕ → Hop → Hop → Bool
  serves d primary hop =
      not (nat_eq hop.link primary.link)
      && is_placed (placed net root absent) hop.parent
      && not (nat_eq hop.parent primary.parent)
      && (differ (is_behind_backup_root hop.parent) (is_behind_backup_root d) || comes_before hop.parent d)
      && not (are_joined net d primary hop)

  -- the domain has something of the walk that begins with this hop, the root apart
  abbrev pub takes_of_walk : DomainId → Hop → Bool
  takes_of_walk domain hop =
      holds_link net domain hop.link
      || list_any (holds_link net domain) (links_of (walk_up hop.parent))
      || list_any (λ x. not (nat_eq x root) && holds_device net domain x) (devices_of hop.parent (walk_up hop.parent))

  -- a domain that hits the walk of the backup root joins it and the walk that begins with this hop
  abbrev pub are_walks_joined : ℕ → Hop → Bool
  are_walks_joined b hop = list_any (λ domain. hits net domain (things_of (walk_up b)) && takes_of_walk domain hop) (domains net)

  -- the hop serves as backup of the backup root
  abbrev pub serves_backup_root : ℕ → Hop → Hop → Bool
  serves_backup_root b primary hop =
      not (nat_eq hop.link primary.link)
      && is_placed (placed net root absent) hop.parent
      && not (on_walk_up hop.parent b)
      && not (are_walks_joined b hop)

  -- the first hop that serves
  abbrev pub backup_for : ℕ → Hop → Option Hop
  backup_for d primary =
      if nat_eq d (backup_root_of net root absent) then find (serves_backup_root d primary) (hops_from net absent d)
      else find (serves d primary) (hops_from net absent d)

  -- the row of a device, with the first hop that serves as its backup
  abbrev pub greedy_row : ℕ → Option PlanRow
  greedy_row d = option_map (λ hop. record { primary = hop; backup = backup_for d hop }) (primary_of primaries d)

  -- the rows of all devices
  unfoldable pub greedy_rows : List (Option PlanRow)
  greedy_rows = map greedy_row (device_numbers net)
