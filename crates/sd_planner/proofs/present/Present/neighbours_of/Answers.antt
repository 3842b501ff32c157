use Rattle.std.proofs.Common.{◌≡◌, ◌<◌, List, [], get_or, length, All, Some, refl, sym, ap, ◌∙◌, subst, arith}
use Rattle.std.specs.List.{slice_get}
use Rattle.std.proofs.lemmas.Option.{slice_get_read, get_or_from_slice_get}
use Rattle.sd_planner.specs.declared.present.Neighbour.{Neighbour}
use Rattle.sd_planner.specs.Views.{net_of, left_out}
use Rattle.sd_planner.proofs.Adjacency.{neighbours_count, neighbours_at, neighbours_are}
use Rattle.sd_planner.proofs.present.Present.neighbours_of.Goals as goal

pub index-requires : goal.index-requires
index-requires c =
    let net = net_of c.args.self.now in
    omega (arith, ap length c.args.self.now.rows_are, neighbours_count net (left_out c.args.self.now), c.requires)

pub returns-clause-are : goal.returns-clause-are
returns-clause-are c =
    let net = net_of c.args.self.now in
    let absent = left_out c.args.self.now in
    let rows : List (List Neighbour) = c.args.self.now.rows.items in
    let within : c.args.d < length rows = omega (arith, ap length c.args.self.now.rows_are, neighbours_count net absent, c.requires) in
    let at : slice_get rows c.args.d ≡ Some c.index.result.now = slice_get_read rows (length rows) c.args.d c.index.result.now refl within c.index.ensures in
    c.as_slice.ensures ∙ sym (get_or_from_slice_get rows c.args.d c.index.result.now [] at)
    ∙ ap (λ (xs : List (List Neighbour)). get_or xs c.args.d []) c.args.self.now.rows_are ∙ neighbours_at net absent c.args.d c.requires

pub returns-clause-within : goal.returns-clause-within
returns-clause-within c =
    let net = net_of c.args.self.now in
    let absent = left_out c.args.self.now in
    subst (All (λ (neighbour : Neighbour). neighbour.device < length net.devices)) (sym (returns-clause-are c))
    (λ k neighbour inside. (neighbours_are net absent c.args.d k neighbour inside).device)
