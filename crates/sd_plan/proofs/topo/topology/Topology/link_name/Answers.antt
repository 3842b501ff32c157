use Rattle.std.proofs.Common.{◌≡◌, sym, subst, ◌∙◌, string_bytes}
use Rattle.sd_plan.specs.topo.Network.{Network, link_names, name_at}
use Rattle.sd_plan.specs.topo.Seen.{link_seen}
use Rattle.sd_plan.proofs.topo.Tables.{at_name}
use Rattle.sd_plan.proofs.topo.topology.Topology.link_name.Goals as goal

pub returns : goal.returns
returns c =
    let named = at_name link_seen (λ link. link.name) c.tables.inside.parts.links.entries c.args.l _ (sym c.in-Some.ensures.entry) in
    c.as_str.ensures.value ∙ sym (subst (λ (net : Network). name_at (link_names net) c.args.l ≡ string_bytes c.in-Some.name.now) c.tables.view_is named)
