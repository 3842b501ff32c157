use Rattle.std.proofs.Common.{◌≡◌, sym, subst, ◌∙◌, string_bytes}
use Rattle.sd_plan.specs.topo.Network.{Network, device_names, name_at}
use Rattle.sd_plan.specs.topo.Seen.{device_seen}
use Rattle.sd_plan.proofs.topo.Tables.{at_name}
use Rattle.sd_plan.proofs.topo.topology.Topology.device_name.Goals as goal

pub returns : goal.returns
returns c =
    let named = at_name device_seen (λ device. device.name) c.tables.inside.parts.devices.entries c.args.d _ (sym c.in-Some.ensures.entry) in
    c.as_str.ensures.value ∙ sym (subst (λ (net : Network). name_at (device_names net) c.args.d ≡ string_bytes c.in-Some.name.now) c.tables.view_is named)
