use Rattle.std.proofs.Common.{length}
use Rattle.sd_plan.specs.topo.Topologies.{network}
use Rattle.sd_plantext.proofs.Shape.{absent_within}
use Rattle.sd_plantext.proofs.print.plan_value.Goals as goal

pub devices_value-requires : goal.devices_value-requires
devices_value-requires c =
    absent_within (length (network c.args.topo.now).devices) c.as_slice.result.now c.args.plan.now.absent.devices c.requires.fits.absent_devices
    c.as_slice.ensures

pub links_value-requires : goal.links_value-requires
links_value-requires c =
    absent_within (length (network c.args.topo.now).links) c.as_slice-2.result.now c.args.plan.now.absent.links c.requires.fits.absent_links
    c.as_slice-2.ensures
