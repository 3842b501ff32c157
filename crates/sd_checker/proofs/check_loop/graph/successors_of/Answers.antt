use Rattle.std.proofs.Common.{◌<◌, length, Option, sym, subst}
use Rattle.std.specs.Prelude.{IfSome}
use Rattle.sd_plan.specs.declared.Hop.{Hop}
use Rattle.sd_checker.specs.check_hit.Outages.{net_of, plan_of}
use Rattle.sd_checker.proofs.check_loop.Listed.{parents_within}
use Rattle.sd_checker.proofs.check_loop.graph.successors_of.Goals as goal

pub parent_place-requires : goal.parent_place-requires
parent_place-requires c =
    let o = c.args.outage.now in
    subst (λ (found : Option Hop). IfSome found (λ hop. hop.parent < length (net_of o).devices)) (sym c.primary_of-primary.ensures)
    (parents_within (net_of o) (plan_of o) c.args.d o.planned.is_index.fits).0

pub parent_place-requires-2 : goal.parent_place-requires-2
parent_place-requires-2 c =
    let o = c.args.outage.now in
    subst (λ (found : Option Hop). IfSome found (λ hop. hop.parent < length (net_of o).devices)) (sym c.backup_of-backup.ensures)
    (parents_within (net_of o) (plan_of o) c.args.d o.planned.is_index.fits).1
