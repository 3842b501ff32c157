use Rattle.std.proofs.Common.{◌≡◌, sym, subst, ◌∙◌, refl, Option, Some, None, ℕ}
use Rattle.sd_plan.specs.topo.Network.{Network, device_names, number_in}
use Rattle.sd_plan.specs.topo.Seen.{device_seen}
use Rattle.sd_plan.proofs.topo.Tables.{numbered}
use Rattle.sd_plan.proofs.topo.topology.Topology.number_of.Goals as goal

pub returns-in-Some : goal.returns-in-Some
returns-in-Some c =
    let told = numbered device_seen (λ device. device.name) (λ e. refl) c.args.name.now c.tables.inside.parts.devices.entries in
    subst (λ (net : Network). Some c.in-Some.number ≡ number_in (device_names net) c.args.name.now) c.tables.view_is (c.in-Some.ensures.index ∙ sym told)

pub returns-in-None : goal.returns-in-None
returns-in-None c =
    let told = numbered device_seen (λ device. device.name) (λ e. refl) c.args.name.now c.tables.inside.parts.devices.entries in
    let none : Option ℕ = None in
    subst (λ (net : Network). none ≡ number_in (device_names net) c.args.name.now) c.tables.view_is (c.in-None.ensures.index ∙ sym told)
