use Rattle.sd_plan.specs.topo.Topologies.{network}
use Rattle.sd_plan.proofs.Rules.{keeps_rules, both_end}
use Rattle.sd_plan.proofs.table.duties.duty_of.Goals as goal

pub edge_of-primary-requires : goal.edge_of-primary-requires
edge_of-primary-requires c =
    rw c.primary_of.ensures
    (both_end (network c.args.topo.now) c.args.plan.now c.args.d c.requires.fits
    (keeps_rules (network c.args.topo.now) c.args.plan.now c.requires.structured) c.requires.device).0

pub edge_of-backup-requires : goal.edge_of-backup-requires
edge_of-backup-requires c =
    rw c.backup_of.ensures
    (both_end (network c.args.topo.now) c.args.plan.now c.args.d c.requires.fits
    (keeps_rules (network c.args.topo.now) c.args.plan.now c.requires.structured) c.requires.device).1
