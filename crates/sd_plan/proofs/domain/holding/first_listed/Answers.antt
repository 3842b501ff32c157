use Rattle.std.proofs.Common.{length, sym, arith}
use Rattle.sd_plan.specs.topo.Topologies.{network}
use Rattle.sd_plan.specs.domain.Within.{has_all}
use Rattle.sd_plan.specs.declared.domain.DomainId.TheVariants as domain
use Rattle.sd_num.proofs.Firsts.{find_below_here, find_below_more}
use Rattle.sd_plan.proofs.domain.holding.first_listed.Goals as goal

pub returns-then-is_within-clause-first : goal.returns-then-is_within-clause-first
returns-then-is_within-clause-first c =
    sym (find_below_here (λ k. has_all (network c.args.topo.now) c.args.failed.now (domain.Listed k))
    c.loop-k.k (length (network c.args.topo.now).domains) (omega arith) c.loop-k.invariant (sym c.if-is_within.ensures))

pub loop-k-preserved : goal.loop-k-preserved
loop-k-preserved c =
    find_below_more (λ k. has_all (network c.args.topo.now) c.args.failed.now (domain.Listed k)) c.loop-k.k c.loop-k.invariant (sym c.if-is_within.ensures)
