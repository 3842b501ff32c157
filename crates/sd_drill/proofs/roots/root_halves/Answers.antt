use Rattle.std.proofs.Common.{◌∙◌, Option, IfSome, sym, subst}
use Rattle.sd_plan.specs.topo.Topologies.{network}
use Rattle.sd_plan.specs.Plans.{IsHop}
use Rattle.sd_plan.specs.Tables.{EndsAt}
use Rattle.sd_plan.specs.declared.Hop.{Hop}
use Rattle.sd_plan.proofs.Rules.{keeps_rules, hops_within, both_end}
use Rattle.sd_drill.proofs.roots.root_halves.Goals as goal

pub half_of-requires : goal.half_of-requires
half_of-requires c =
    let net = network c.args.planned.topo.now in
    let plan = c.args.planned.plan.now in
    let index = c.args.planned.is_index in
    subst (λ (hop : Option Hop). IfSome hop (EndsAt net plan.backup_root)) (sym c.backup_of.ensures ∙ c.in-Some.is)
    (both_end net plan plan.backup_root index.fits (keeps_rules net plan index.structured) index.fits.backup_root).1

pub halves_to_root-requires : goal.halves_to_root-requires
halves_to_root-requires c =
    let net = network c.args.planned.topo.now in
    let plan = c.args.planned.plan.now in
    (subst (λ (hop : Option Hop). IfSome hop (IsHop net)) (sym c.backup_of.ensures ∙ c.in-Some.is)
    (hops_within net plan plan.backup_root c.args.planned.is_index.fits).1).0
