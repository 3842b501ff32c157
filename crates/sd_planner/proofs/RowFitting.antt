-- The hops of the rows are those of the network.
use Rattle.std.proofs.Common.{◌≡◌, ℕ, suc, ◌<◌, Bool, true, false, List, [], ◌∷◌, length, map, find, nat_eq, Option, Some, None, option_map, slice_get, if◌then◌else◌, refl, sym, ap, ◌∙◌, subst}
use Rattle.std.proofs.lemmas.Option.{slice_get_within, get_or_from_slice_get}
use Rattle.sd_plan.specs.topo.Network.{Network, Each, device_numbers}
use Rattle.sd_plan.specs.declared.Hop.{Hop}
use Rattle.sd_plan.specs.declared.PlanRow.{PlanRow}
use Rattle.sd_plan.specs.declared.Absent.{Absent}
use Rattle.sd_plan.specs.Plans.{IsHop, IsRow, primary_of}
use Rattle.sd_plan.proofs.Numbered.{length-numbered, get_or-numbered}
use Rattle.sd_plan.proofs.Shared.{each_more, found_passes}
use Rattle.sd_planner.specs.Usable.{hops_from, neighbours_of, hop_to}
use Rattle.sd_planner.specs.declared.present.Neighbour.{Neighbour}
use Rattle.sd_planner.proofs.Elements.{all_at}
use Rattle.sd_planner.proofs.Adjacency.{IsNeighbourOf, neighbours_are}
use Rattle.sd_planner.specs.Placing.{backup_root_of, placed}
use Rattle.sd_planner.specs.Trees.{Grows}
use Rattle.sd_planner.specs.Serving.{primaries, backup_for, greedy_row, greedy_rows, serves, serves_backup_root}
use Rattle.sd_planner.proofs.Walking.{primary_is}
use Rattle.sd_planner.proofs.Within.{hop_within}

each_none : {X : Type 0} (P : X → Type 0) → Each P []
each_none P i x at = cc

-- each hop that a device may take is one of the network
hops_fit : (net : Network) (absent : Absent) (d : ℕ) → Each (IsHop net) (hops_from net absent d)
hops_fit net absent d =
    each_hop (neighbours_of net absent d)
    (λ i neighbour at. all_at (IsNeighbourOf net absent d) (neighbours_of net absent d) i neighbour (neighbours_are net absent d) at)
  where
    each_hop : (ns : List Neighbour) → Each (IsNeighbourOf net absent d) ns → Each (IsHop net) (map hop_to ns)
    each_hop [] are = each_none (IsHop net)
    each_hop (n ∷ ns) are = let is : IsNeighbourOf net absent d n = are 0 n refl in
        each_more (IsHop net) (hop_to n) (map hop_to ns) (is.device, is.link) (each_hop ns (λ i m at. are (suc i) m at))

module _ (net : Network) (root : ℕ) (absent : Absent) (grows : Grows net root absent (placed net root absent)) where
  backup_fits : (d : ℕ) (primary b : Hop) → backup_for net root absent d primary ≡ Some b → IsHop net b
  backup_fits d primary b is = by_test (nat_eq d (backup_root_of net root absent)) is
    where
      by_test : (t : Bool)
          → (if t then find (serves_backup_root net root absent d primary) (hops_from net absent d) else find (serves net root absent d primary)
          (hops_from net absent d)) ≡ Some b → IsHop net b
      by_test true found = found_passes (IsHop net) (serves_backup_root net root absent d primary) (hops_from net absent d) b (hops_fit net absent d) found
      by_test false found = found_passes (IsHop net) (serves net root absent d primary) (hops_from net absent d) b (hops_fit net absent d) found

  row_fits : (d : ℕ) → IsRow net (greedy_row net root absent d)
  row_fits d = by_hop (primary_of (primaries net root absent) d) refl
    where
      by_hop : (o : Option Hop) → primary_of (primaries net root absent) d ≡ o
          → IsRow net (option_map (λ (hop : Hop). record { primary = hop; backup = backup_for net root absent d hop }) o)
      by_hop None is = tt
      by_hop (Some hop) is = (
        hop_within net root absent (placed net root absent) grows d hop (sym (primary_is net root absent grows d) ∙ is),
        λ b found. backup_fits d hop b found,
      )

  pub rows_fit : (rows : List (Option PlanRow)) → rows ≡ greedy_rows net root absent → Each (IsRow net) rows
  unfolding greedy_rows
  rows_fit rows are i row at =
      let numbered : slice_get (map (greedy_row net root absent) (device_numbers net)) i ≡ Some row = ap (λ xs. slice_get xs i) (sym are) ∙ at in
      let inside : i < length net.devices =
      rw (← length-numbered (greedy_row net root absent) (length net.devices))
      (slice_get_within (map (greedy_row net root absent) (device_numbers net)) i row numbered) in
      subst (IsRow net)
      (sym (get_or-numbered (greedy_row net root absent) (length net.devices) i row inside)
      ∙ get_or_from_slice_get (map (greedy_row net root absent) (device_numbers net)) i row row numbered)
      (row_fits i)
