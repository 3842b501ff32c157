-- The rows of a plan, device by device.
use Rattle.std.proofs.Common.{◌≡◌, ℕ, ◌+◌, ◌<◌, List, ◌++◌, [], ◌∷◌, length, Option, None, get_or, option_map, ap, ap₂, sym, ◌∙◌, add-one}
use Rattle.std.proofs.lemmas.List.Elements.{filter_map-append}
use Rattle.std.proofs.lemmas.Option.{slice_get-get_or}
use Rattle.serde_json.specs.Data.{Data}
use Rattle.sd_num.specs.Lists.{below, map_or, at_place}
use Rattle.sd_plan.specs.topo.Network.{Network}
use Rattle.sd_plan.specs.declared.Plan.{Plan as PlanShown}
use Rattle.sd_plan.specs.declared.PlanRow.{PlanRow}
use Rattle.sd_plan.specs.Plans.{row_of}
use Rattle.sd_plantext.specs.PrintedTree.{row_data, row_listed, rows_listed}

-- the row at a device's place
pub row_at : (rows : List (Option PlanRow)) (plan : PlanShown) (d : ℕ) (default : Option PlanRow) → rows ≡ plan.rows → d < length rows
    → get_or rows d default ≡ row_of plan d
row_at rows plan d default same within =
    sym (ap (λ o. map_or o None (λ row. row)) (slice_get-get_or rows d default within))
    ∙ ap (λ (xs : List (Option PlanRow)). at_place xs d None (λ row. row)) same

-- the rows with those of one more device
pub rows_more : (net : Network) (plan : PlanShown) (d : ℕ) (old new : List Data) (row : Option PlanRow) → old ≡ rows_listed net plan (below d)
    → row ≡ row_of plan d → new ≡ old ++ row_listed net d row
    → new ≡ rows_listed net plan (below (d + 1))
rows_more net plan d old new row so_far same is =
    is ∙ ap₂ (λ ds o. ds ++ row_listed net d o) so_far same
    ∙ sym (rw (add-one d) (filter_map-append (λ e. option_map (row_data net e) (row_of plan e)) (below d) (d ∷ [])))
