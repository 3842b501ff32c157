use Rattle.std.proofs.Common.{◌≡◌, ℕ, None, find, subst, not, ap, sym, arith, length}
use Rattle.sd_num.specs.Lists.{below}
use Rattle.sd_plan.specs.topo.Topologies.{network}
use Rattle.sd_plan.specs.Structure.{is_no_ancestor}
use Rattle.sd_num.proofs.Firsts.{find_below_here, find_below_more}
use Rattle.sd_checker.proofs.ancestor.ancestor_breach.Goals as goal

pub returns-then-not-is_no_ancestor : goal.returns-then-not-is_no_ancestor
returns-then-not-is_no_ancestor c =
    let net = network c.args.planned.topo.now in
    let within = c.loop-d-test.true in
    sym (find_below_here (λ d. not (is_no_ancestor net c.args.planned.plan.now d)) c.loop-d.d (length net.devices)
    (omega (arith, within, c.devices-d-end.ensures)) c.loop-d.invariant (ap not (sym (c.if-not-is_no_ancestor.ensures))))

pub loop-d-preserved : goal.loop-d-preserved
loop-d-preserved c =
    find_below_more (λ d. not (is_no_ancestor (network c.args.planned.topo.now) c.args.planned.plan.now d)) c.loop-d.d c.loop-d.invariant
    (ap not (sym (c.if-not-is_no_ancestor.ensures)))

pub returns : goal.returns
returns c =
    let count : c.loop-d.d ≡ length (network c.args.planned.topo.now).devices =
    omega (arith, c.loop-d-test.false, c.loop-d.auto.d-end, c.devices-d-end.ensures) in
    sym (subst (λ (n : ℕ). find (λ d. not (is_no_ancestor (network c.args.planned.topo.now) c.args.planned.plan.now d)) (below n) ≡ None) count
    c.loop-d.invariant)
