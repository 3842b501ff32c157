-- Rows that are within the network, one more at a time.
use Rattle.std.proofs.Common.{◌≡◌, suc, List, [], ◌∷◌, ◌++◌, Option, refl, subst, sym}
use Rattle.sd_plan.specs.topo.Network.{Network, Each}
use Rattle.sd_plan.specs.Plans.{IsRow}
use Rattle.sd_plan.specs.declared.PlanRow.{PlanRow}
use Rattle.sd_plan.proofs.Shared.{each_more}

with_row : (net : Network) (row : Option PlanRow) (rows : List (Option PlanRow)) → IsRow net row → Each (IsRow net) rows → Each (IsRow net) (rows ++ row ∷ [])
with_row net row [] fits each = each_more (IsRow net) row [] fits (λ i x at. cc)
with_row net row (first ∷ rows) fits each =
    each_more (IsRow net) first (rows ++ row ∷ []) (each 0 first refl) (with_row net row rows fits (λ i x at. each (suc i) x at))

-- one row more
pub rows_longer : (net : Network) (row : Option PlanRow) (rows longer : List (Option PlanRow)) → longer ≡ rows ++ row ∷ [] → Each (IsRow net) rows
    → IsRow net row → Each (IsRow net) longer
rows_longer net row rows longer is each fits = subst (Each (IsRow net)) (sym is) (with_row net row rows fits each)
