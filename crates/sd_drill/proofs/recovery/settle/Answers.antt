use Rattle.std.proofs.Common.{◌∙◌, ap}
use Rattle.sd_checker.specs.check_hit.Outages.{net_of, plan_of}
use Rattle.sd_plan.proofs.Rules.{keeps_rules}
use Rattle.sd_drill.specs.recovery.Hops.{listed}
use Rattle.sd_drill.proofs.recovery.Reached.{reaches_from}
use Rattle.sd_drill.proofs.recovery.Rows.{listed_is}
use Rattle.sd_drill.proofs.recovery.settle.Goals as goal

pub returns : goal.returns
returns c =
    let o = c.args.outage.now in
    let are = ap listed c.requires.hops
    ∙ listed_is (net_of o) (plan_of o) o.domain c.args.d (keeps_rules (net_of o) (plan_of o) o.planned.is_index.structured) c.requires.device in
    record {
      fed = c.is_fed-fed.ensures;
      reach = rw c.farther.ensures (reaches_from (net_of o) (plan_of o) o.domain c.args.d c.args.hops are c.reach_over-primary.result c.reach_over-backup.result
          c.reach_over-primary.ensures c.reach_over-backup.ensures);
    }
