use Rattle.std.proofs.Common.{◌≡◌, sym, subst, refl}
use Rattle.sd_plan.specs.topo.Network.{no_rates}
use Rattle.sd_plan.specs.topo.Network.{Network, rates_of}
use Rattle.sd_plan.specs.topo.Seen.{device_seen}
use Rattle.sd_plan.proofs.topo.Tables.{at_value}
use Rattle.sd_plan.proofs.topo.topology.Topology.rates.Goals as goal

pub returns : goal.returns
returns c =
    let told = at_value device_seen (λ device. device.rates) (λ value. value.rates)
    (λ e. refl) no_rates c.tables.inside.parts.devices.entries c.args.d _ c.index.ensures in
    sym (subst (λ (net : Network). rates_of net c.args.d ≡ c.index.result.now.rates) c.tables.view_is told)
