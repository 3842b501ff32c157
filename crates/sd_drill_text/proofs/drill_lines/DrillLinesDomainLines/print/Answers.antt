use Rattle.std.proofs.Common.{◌<◌, ℕ, List, length, All, sym, subst}
use Rattle.sd_plan.specs.topo.Topologies.{network}
use Rattle.sd_drill.proofs.Circles.{no_circle}
use Rattle.sd_drill_text.proofs.Membership.{members_within}
use Rattle.sd_drill_text.proofs.drill_lines.DrillLinesDomainLines.print.Goals as goal

pub worst-requires-clause-acyclic : goal.worst-requires-clause-acyclic
worst-requires-clause-acyclic c = no_circle (network c.args.planned.topo.now) c.args.planned.plan.now c.args.domain c.requires.accepted c.requires.domain

pub print_domain-requires-clause-members : goal.print_domain-requires-clause-members
print_domain-requires-clause-members c =
    let net = network c.args.planned.topo.now in
    subst (λ (xs : List ℕ). All (λ d. d < length net.devices) xs) (sym c.requires.members) (members_within net c.args.planned.plan.now)
