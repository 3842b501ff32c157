use Rattle.std.proofs.Common.{◌≡◌, sym, subst, ◌∙◌, refl, Option, Some, None, ℕ}
use Rattle.sd_plan.specs.topo.Network.{Network, link_names, number_in}
use Rattle.sd_plan.specs.topo.Seen.{link_seen}
use Rattle.sd_plan.proofs.topo.Tables.{numbered}
use Rattle.sd_plan.proofs.topo.topology.Topology.link_number.Goals as goal

pub returns-in-Some : goal.returns-in-Some
returns-in-Some c =
    let told = numbered link_seen (λ link. link.name) (λ e. refl) c.args.name.now c.tables.inside.parts.links.entries in
    subst (λ (net : Network). Some c.in-Some.number ≡ number_in (link_names net) c.args.name.now) c.tables.view_is (c.in-Some.ensures.index ∙ sym told)

pub returns-in-None : goal.returns-in-None
returns-in-None c =
    let told = numbered link_seen (λ link. link.name) (λ e. refl) c.args.name.now c.tables.inside.parts.links.entries in
    let none : Option ℕ = None in
    subst (λ (net : Network). none ≡ number_in (link_names net) c.args.name.now) c.tables.view_is (c.in-None.ensures.index ∙ sym told)
