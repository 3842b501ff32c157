use Rattle.std.proofs.Common.{sym, ◌∙◌}
use Rattle.sd_checker.specs.check_reach.Aftermaths.{net_of, plan_of, domain_of}
use Rattle.sd_plan.proofs.Rules.{keeps_rules}
use Rattle.sd_checker.proofs.check_reach.Joining.{held_backup, unhit_backup}
use Rattle.sd_checker.proofs.check_reach.aftermath.Aftermath.backup_reaches.Goals as goal
use Rattle.sd_checker.proofs.check_reach.aftermath.Aftermath.backup_reaches.Goals.{then-holds_device-via-then-holds_device, then-holds_device-via-else-holds_device+then-not-hits}

pub returns-then-holds_device-clause-reaches : goal.returns-then-holds_device-clause-reaches
returns-then-holds_device-clause-reaches c = λ trusted.
    let o = c.args.self.now in
    let net = net_of o in
    let index = c.args.self.now.outage.planned.is_index in
    elim c.then-holds_device.branch [
      | then-holds_device-via-then-holds_device w ↦ held_backup net (plan_of o) (domain_of o) (sym c.holds_device.ensures ∙ w.if-holds_device.true)
      | then-holds_device-via-else-holds_device+then-not-hits w ↦
          unhit_backup net (plan_of o) (domain_of o) index.fits index.structured (keeps_rules net (plan_of o) index.structured)
          (sym w.hits.ensures ∙ w.if-not-hits.true)
    ]
