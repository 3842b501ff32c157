use Rattle.std.proofs.Common.{IfSome, subst, sym}
use Rattle.sd_plan.specs.topo.Topologies.{network}
use Rattle.sd_plan.specs.Plans.{IsHop}
use Rattle.sd_plan.proofs.Rules.{hops_within}
use Rattle.sd_plan.proofs.structure.hops_are_right.Goals as goal

pub hop_is_right-requires-clause-hop : goal.hop_is_right-requires-clause-hop
hop_is_right-requires-clause-hop c =
    subst (λ hop. IfSome hop (IsHop (network c.args.topo.now))) (sym c.primary_of.ensures)
    (hops_within (network c.args.topo.now) c.args.plan.now c.args.d c.requires.fits).0

pub hop_is_right-requires-then-hop_is_right-clause-hop : goal.hop_is_right-requires-then-hop_is_right-clause-hop
hop_is_right-requires-then-hop_is_right-clause-hop c =
    subst (λ hop. IfSome hop (IsHop (network c.args.topo.now))) (sym c.backup_of.ensures)
    (hops_within (network c.args.topo.now) c.args.plan.now c.args.d c.requires.fits).1
