use Rattle.std.proofs.Common.{List, ℕ, ◌≤◌, length, subst, sym}
use Rattle.sd_plan.specs.topo.Topologies.{network}
use Rattle.sd_commands.proofs.twoway.Printing.{name_short}
use Rattle.sd_commands.proofs.twoway.lines.name_of.Goals as goal

pub returns-clause-short : goal.returns-clause-short
returns-clause-short c =
    subst (λ (name : List ℕ). length name ≤ 64) (sym c.link_name.ensures)
    (name_short (network c.args.topo.now) c.args.link c.args.topo.now.is_network c.requires)
