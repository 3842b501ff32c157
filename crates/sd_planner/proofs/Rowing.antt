-- The rows, device by device.
use Rattle.std.proofs.Common.{◌≡◌, ℕ, Bool, false, List, length, replicate, Option, Some, None, option_map, sym, ap, ◌∙◌}
use Rattle.std.specs.Prelude.{option_and_then}
use Rattle.std.proofs.lemmas.List.{length-replicate}
use Rattle.sd_plan.specs.topo.Network.{Network}
use Rattle.sd_plan.specs.declared.Hop.{Hop}
use Rattle.sd_plan.specs.declared.Absent.{Absent}
use Rattle.sd_planner.specs.declared.placement.Placed.{Placed}
use Rattle.sd_planner.specs.Spreading.{placed_at}
use Rattle.sd_planner.specs.Placing.{placed}
use Rattle.sd_planner.specs.Trees.{Grows}
use Rattle.sd_planner.specs.Serving.{backup_for, greedy_row}
use Rattle.sd_planner.specs.Flags.{is_set}
use Rattle.sd_planner.specs.Surveys.{AreClear}
use Rattle.sd_planner.proofs.Adding.{unset}
use Rattle.sd_planner.proofs.Walking.{primary_is}

module _ (net : Network) (root : ℕ) (absent : Absent) (grows : Grows net root absent (placed net root absent)) (d : ℕ) where
  row_by_hop : (o : Option Hop) → option_and_then (λ (p : Placed). p.hop) (placed_at (placed net root absent) d) ≡ o
      → option_map (λ (hop : Hop). record { primary = hop; backup = backup_for net root absent d hop }) o ≡ greedy_row net root absent d
  row_by_hop o is =
      sym (ap (λ (found : Option Hop). option_map (λ (hop : Hop). record { primary = hop; backup = backup_for net root absent d hop }) found)
      (primary_is net root absent grows d ∙ is))

  -- none of a device that is not placed, and of the root
  pub no_row : placed_at (placed net root absent) d ≡ None → None ≡ greedy_row net root absent d
  no_row none = row_by_hop None (ap (option_and_then (λ (p : Placed). p.hop)) none)

  pub no_hop_row : (p : Placed) → placed_at (placed net root absent) d ≡ Some p → p.hop ≡ None → None ≡ greedy_row net root absent d
  no_hop_row p found none = row_by_hop None (ap (option_and_then (λ (q : Placed). q.hop)) found ∙ none)

  pub hop_row : (p : Placed) (primary : Hop) (backup : Option Hop) → placed_at (placed net root absent) d ≡ Some p → p.hop ≡ Some primary
      → backup ≡ backup_for net root absent d primary
      → Some (record { primary = primary; backup = backup }) ≡ greedy_row net root absent d
  hop_row p primary backup found has_hop is =
      ap (λ (b : Option Hop). Some (record { primary = primary; backup = b })) is
      ∙ row_by_hop (Some primary) (ap (option_and_then (λ (q : Placed). q.hop)) found ∙ has_hop)

-- no flag is set at first
pub clear_first : (net : Network) (count : ℕ) (flags : List Bool) → flags ≡ replicate count false → count ≡ length net.domains → AreClear net flags
clear_first net count flags are size =
    record { size = ap length are ∙ length-replicate count false ∙ size; each = λ k. ap (λ fs. is_set fs k) are ∙ unset count k }
