use Rattle.std.proofs.Common.{◌++◌, ◌∷◌, [], List, Bool, Vec, Global, map, ap, ◌∙◌}
use Rattle.std.proofs.lemmas.List.{map-append}
use Rattle.sd_monitors.proofs.clocks.present_rows.PresentRows.add.Goals as goal

pub returns : goal.returns
returns c =
    ap (map (λ (row : Vec Bool Global). row.items)) c.in-Ok.ensures.items
    ∙ map-append (λ (row : Vec Bool Global). row.items) c.self.inside.rows.items (c.in_ok-row.row ∷ [])
    ∙ ap (λ (rs : List (List Bool)). rs ++ c.in_ok-row.row.items ∷ []) c.self.view_is
    ∙ ap (λ (r : List Bool). c.args.self.now ++ r ∷ []) c.in_ok-row.ensures
