use Rattle.std.proofs.Common.{List, sym, subst}
use Rattle.sd_checker.specs.check_hit.Outages.{net_of, plan_of}
use Rattle.sd_drill.specs.recovery.Searches.{IsSettled, mark_at}
use Rattle.sd_drill.specs.declared.recovery.marks.Mark.{Mark}
use Rattle.sd_drill.proofs.recovery.Searching.{settled_off}
use Rattle.sd_drill.proofs.recovery.search.Recoveries.of.Goals as goal

pub settled_at-requires-clause-settled : goal.settled_at-requires-clause-settled
settled_at-requires-clause-settled c =
    let o = c.args.outage.now in
    let ready = c.in_ok-visit.ensures.ready in
    subst (λ (marks : List Mark). IsSettled (net_of o) (plan_of o) o.domain c.args.d (mark_at marks c.args.d)) (sym c.deref.ensures.value)
    (settled_off (net_of o) (plan_of o) o.domain c.visit.new.self.marks.items c.args.d ready.searched c.in_ok-visit.ensures.old)
