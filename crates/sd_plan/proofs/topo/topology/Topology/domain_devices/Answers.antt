use Rattle.std.proofs.Common.{◌≡◌, sym, subst, ◌∙◌}
use Rattle.sd_plan.specs.topo.Network.{Network}
use Rattle.sd_plan.specs.topo.Places.{domain_of}
use Rattle.sd_plan.proofs.topo.Tables.{at_domain}
use Rattle.sd_plan.proofs.topo.topology.Topology.domain_devices.Goals as goal

pub returns : goal.returns
returns c =
    let told = at_domain c.tables.inside.parts.domains.entries c.args.f c.index-group.result.now c.index-group.ensures in
    c.as_slice.ensures.value
    ∙ sym (subst (λ (net : Network). (domain_of net c.args.f).devices ≡ c.index-group.result.now.devices.items) c.tables.view_is told.0)
