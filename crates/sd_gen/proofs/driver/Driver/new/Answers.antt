use Rattle.std.proofs.Common.{[], ap, ◌∙◌, length}
use Rattle.sd_plan.specs.topo.Network.{Network}
use Rattle.sd_gen.proofs.Making.{begins}
use Rattle.sd_gen.proofs.driver.Driver.new.Goals as goal

pub returns : goal.returns
returns g c setting net stands =
    begins g.D.Driven _ setting c.args.number c.devices-devices.result c.seed_from_u64-random.result net stands
    (c.devices-devices.ensures ∙ ap (λ (n : Network). length n.devices) (c.fleet.ensures setting [] stands).fabric.net)
    c.seed_from_u64-random.ensures c.in_ok-leads.ensures.leads c.in_ok-leads.ensures.random
    (c.new.ensures 0)
