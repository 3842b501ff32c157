use Rattle.std.proofs.Common.{◌≡◌, sym, subst, refl}
use Rattle.sd_plan.specs.topo.Network.{no_link}
use Rattle.sd_plan.specs.topo.Network.{Network, link_of}
use Rattle.sd_plan.specs.topo.Seen.{link_seen}
use Rattle.sd_plan.proofs.topo.Tables.{at_value}
use Rattle.sd_plan.proofs.topo.topology.Topology.link.Goals as goal

pub returns : goal.returns
returns c =
    let told = at_value link_seen (λ link. link.entry) (λ value. value) (λ e. refl) no_link c.tables.inside.parts.links.entries c.args.l _ c.index.ensures in
    sym (subst (λ (net : Network). link_of net c.args.l ≡ c.index.result.now) c.tables.view_is told)
