use Rattle.std.proofs.Common.{◌≡◌, ◌≤◌, length, subst, sym, arith}
use Rattle.sd_num.specs.Numbers.{low}
use Rattle.sd_num.specs.declared.Rates.{Rates}
use Rattle.sd_plan.specs.topo.Topologies.{network}
use Rattle.sd_planner.proofs.Least.{IsLeastOf, least_more, least_is}
use Rattle.sd_planner.proofs.waits.least_wait.Goals as goal

pub loop-d-preserved : goal.loop-d-preserved
loop-d-preserved c =
    let net = network c.args.topo.now in
    rw c.greater-least.ensures
    (least_more net c.args.long c.loop-d.d c.loop-d.least c.wait_at.result c.loop-d.invariant
    (λ x there. subst (λ (r : Rates). c.args.long ≤ low r x) c.rates.ensures (c.wait_at.ensures.enough x there))
    (λ x there. c.wait_at.ensures.least x (subst (λ (r : Rates). c.args.long ≤ low r x) (sym c.rates.ensures) there)) c.wait_at.ensures.bound)

pub returns-clause-is : goal.returns-clause-is
returns-clause-is c =
    let net = network c.args.topo.now in
    let all : c.loop-d.d ≡ length net.devices = omega arith in
    least_is net c.args.long c.loop-d.least c.args.topo.now.is_network (subst (λ n. IsLeastOf net c.args.long n c.loop-d.least) all c.loop-d.invariant)
