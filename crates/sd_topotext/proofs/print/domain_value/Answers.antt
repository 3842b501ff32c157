use Rattle.std.proofs.Common.{ap, sym, ◌∙◌, ◌<◌, subst, All, length, get_or, List, ℕ}
use Rattle.toml.specs.Data.{table}
use Rattle.toml.specs.View.{table_view, view, members_view}
use Rattle.sd_plan.specs.topo.Topologies.{network}
use Rattle.sd_plan.specs.topo.Network.{Domain, device_names, link_names}
use Rattle.sd_plan.specs.topo.Places.{no_domain}
use Rattle.sd_topotext.specs.Printed.{names_data}
use Rattle.sd_plan.proofs.topo.Laws.{domain_law}
use Rattle.sd_topotext.proofs.Printing.{domain_told, domain_made}
use Rattle.sd_topotext.proofs.print.domain_value.Goals as goal

pub of_links-requires : goal.of_links-requires
of_links-requires c =
    let law = domain_law (network c.args.topo.now) c.args.f c.args.topo.now.is_network c.requires in
    subst (λ (xs : List ℕ). All (λ l. l < length (network c.args.topo.now).links) xs) (sym c.domain_links.ensures) law.links_within

pub of_devices-requires : goal.of_devices-requires
of_devices-requires c =
    let law = domain_law (network c.args.topo.now) c.args.f c.args.topo.now.is_network c.requires in
    subst (λ (xs : List ℕ). All (λ d. d < length (network c.args.topo.now).devices) xs) (sym c.domain_devices.ensures) law.devices_within

pub returns : goal.returns
returns c =
    let net = network c.args.topo.now in
    let told = domain_told net c.args.f c.requires in
    c.of_table.ensures ∙ ap table (domain_made (device_names net) (link_names net) (get_or net.domains c.args.f no_domain)
    (table_view c.new-members.result) (table_view c.put.new.table) (table_view c.put-2.new.table) (table_view c.put_text.new.table)
    c.domain_name.result.now (view c.in_ok-devices.devices) (view c.in_ok-links.links) (c.domain_name.ensures ∙ told.0)
    (c.in_ok-devices.ensures ∙ ap (names_data (device_names net)) (c.domain_devices.ensures ∙ ap (λ (domain : Domain). domain.devices) told.1))
    (c.in_ok-links.ensures ∙ ap (names_data (link_names net)) (c.domain_links.ensures ∙ ap (λ (domain : Domain). domain.links) told.1))
    (ap members_view c.new-members.ensures.empty) c.in_ok-put.ensures c.in_ok-put-2.ensures c.in_ok-put_text.ensures)
