use Rattle.std.proofs.Common.{◌≡◌, sym, subst, refl}
use Rattle.sd_plan.specs.declared.topo.Side.TheVariants.{Root}
use Rattle.sd_plan.specs.topo.Network.{Network}
use Rattle.sd_plan.specs.topo.Places.{side_of}
use Rattle.sd_plan.specs.topo.Seen.{device_seen}
use Rattle.sd_plan.proofs.topo.Tables.{at_value}
use Rattle.sd_plan.proofs.topo.topology.Topology.side.Goals as goal

pub returns : goal.returns
returns c =
    let told = at_value device_seen (λ device. device.side) (λ value. value.side)
    (λ e. refl) Root c.tables.inside.parts.devices.entries c.args.d _ c.index.ensures in
    sym (subst (λ (net : Network). side_of net c.args.d ≡ c.index.result.now.side) c.tables.view_is told)
