use Rattle.std.proofs.Common.{Some, None, sym}
use Rattle.sd_plan.specs.topo.Topologies.{network}
use Rattle.sd_checker.proofs.check_root.Paths.{backup_within, backup_member}
use Rattle.sd_checker.proofs.check_root.Fallbacks.{breach_of, device_breach, no_breach}
use Rattle.sd_checker.proofs.check_root.fallback.fallback_breach.Goals as goal

pub first_device-requires-clause-range : goal.first_device-requires-clause-range
first_device-requires-clause-range c =
    (backup_within (network c.args.planned.topo.now) c.args.planned.plan.now c.args.planned.plan.now.backup_root c.in-Some.hop c.args.planned.is_index.fits
    (sym c.in-Some.ensures)).0

pub first_device-requires-clause-member : goal.first_device-requires-clause-member
first_device-requires-clause-member c =
    backup_member (network c.args.planned.topo.now) c.args.planned.plan.now c.args.planned.plan.now.backup_root c.in-Some.hop c.args.planned.is_index.structured
    c.args.planned.is_index.fits.backup_root (sym c.in-Some.ensures)

pub first_link-requires-clause-from : goal.first_link-requires-clause-from
first_link-requires-clause-from c =
    (backup_within (network c.args.planned.topo.now) c.args.planned.plan.now c.args.planned.plan.now.backup_root c.in-Some.hop c.args.planned.is_index.fits
    (sym c.in-Some.ensures)).0

pub first_link-requires-clause-member : goal.first_link-requires-clause-member
first_link-requires-clause-member c =
    backup_member (network c.args.planned.topo.now) c.args.planned.plan.now c.args.planned.plan.now.backup_root c.in-Some.hop c.args.planned.is_index.structured
    c.args.planned.is_index.fits.backup_root (sym c.in-Some.ensures)

pub returns-in-Some-first_device : goal.returns-in-Some-first_device
returns-in-Some-first_device c =
    sym (device_breach (network c.args.planned.topo.now) c.args.planned.plan.now c.args.domain c.in-Some.hop c.in-Some-first_device.d
    c.args.planned.topo.now.is_network c.requires (sym c.in-Some.ensures) c.in-Some-first_device.ensures)

pub returns-in-Some-first_link : goal.returns-in-Some-first_link
returns-in-Some-first_link c =
    sym (breach_of (network c.args.planned.topo.now) c.args.planned.plan.now c.args.domain c.in-Some.hop None
    (Some c.in-Some-first_link.l) c.args.planned.topo.now.is_network c.requires (sym c.in-Some.ensures)
    c.in-None-first_device.ensures c.in-Some-first_link.ensures)

pub returns-in-None-first_link : goal.returns-in-None-first_link
returns-in-None-first_link c =
    sym (breach_of (network c.args.planned.topo.now) c.args.planned.plan.now c.args.domain c.in-Some.hop None None c.args.planned.topo.now.is_network
    c.requires (sym c.in-Some.ensures) c.in-None-first_device.ensures c.in-None-first_link.ensures)

pub returns-in-None : goal.returns-in-None
returns-in-None c = sym (no_breach (network c.args.planned.topo.now) c.args.planned.plan.now c.args.domain (sym c.in-None.ensures))
