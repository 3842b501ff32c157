use Rattle.std.proofs.Common.{sym, subst, ◌∙◌}
use Rattle.sd_plan.specs.topo.Limits.{IsNetwork}
use Rattle.sd_plan.proofs.topo.Copying.{copied_network}
use Rattle.sd_plan.proofs.topo.topology.Topology.copy.Goals as goal

pub new-requires : goal.new-requires
new-requires c =
    let same = copied_network c.tables.inside.parts c.in_ok-devices.devices c.in_ok-links.links c.in_ok-domains.domains c.in_ok-roots.roots
    c.in_ok-devices.ensures.entries c.in_ok-links.ensures.entries c.in_ok-domains.ensures.entries (c.in_ok-roots.ensures ∙ c.as_slice.ensures.value) in
    subst IsNetwork (sym (same ∙ c.tables.view_is)) c.args.self.now.is_network

pub returns : goal.returns
returns c =
    let same = copied_network c.tables.inside.parts c.in_ok-devices.devices c.in_ok-links.links c.in_ok-domains.domains c.in_ok-roots.roots
    c.in_ok-devices.ensures.entries c.in_ok-links.ensures.entries c.in_ok-domains.ensures.entries (c.in_ok-roots.ensures ∙ c.as_slice.ensures.value) in
    c.new.ensures ∙ same ∙ c.tables.view_is
