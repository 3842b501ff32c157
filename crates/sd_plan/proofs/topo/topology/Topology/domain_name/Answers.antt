use Rattle.std.proofs.Common.{◌≡◌, sym, subst, ◌∙◌, string_bytes}
use Rattle.sd_plan.specs.topo.Network.{Network, name_at}
use Rattle.sd_plan.specs.topo.Places.{domain_names}
use Rattle.sd_plan.specs.topo.Seen.{domain_seen}
use Rattle.sd_plan.proofs.topo.Tables.{at_name}
use Rattle.sd_plan.proofs.topo.topology.Topology.domain_name.Goals as goal

pub returns : goal.returns
returns c =
    let named = at_name domain_seen (λ domain. domain.name) c.tables.inside.parts.domains.entries c.args.f _ (sym c.in-Some.ensures.entry) in
    c.as_str.ensures.value ∙ sym (subst (λ (net : Network). name_at (domain_names net) c.args.f ≡ string_bytes c.in-Some.name.now) c.tables.view_is named)
