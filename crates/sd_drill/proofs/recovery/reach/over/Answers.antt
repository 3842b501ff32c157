use Rattle.std.proofs.Common.{◌≡◌, ◌≤◌, ◌*◌, ◌^◌, Option, subst, ap, arith}
use Rattle.sd_plan.specs.topo.Network.{bounds_of}
use Rattle.sd_checker.specs.check_hit.Outages.{net_of, plan_of}
use Rattle.sd_drill.specs.recovery.Reaches.{ReachesFrom, IsReachOf}
use Rattle.sd_drill.specs.recovery.Walks.{IsWalk}
use Rattle.sd_drill.specs.declared.recovery.reach.Reach.{Reach}
use Rattle.sd_drill.proofs.recovery.Reached.{over_overlong, over_too_long, over_reach, half_small}
use Rattle.sd_drill.proofs.recovery.reach.over.Goals as goal

pub returns-in_default : goal.returns-in_default
returns-in_default c =
    let o = c.args.outage.now in
    over_overlong (net_of o) (plan_of o) o.domain c.args.d c.args.hop
    (subst (λ (behind : Option Reach). ReachesFrom (net_of o) (plan_of o) o.domain c.args.hop.parent behind) c.in_default.is c.requires.behind)

pub returns-then-behind-params : goal.returns-then-behind-params
returns-then-behind-params c =
    let o = c.args.outage.now in
    let is : IsReachOf (net_of o) (IsWalk (net_of o) (plan_of o) o.domain c.args.hop.parent) c.args.hop.parent c.in-Some.behind =
    subst (λ (behind : Option Reach). ReachesFrom (net_of o) (plan_of o) o.domain c.args.hop.parent behind) c.in-Some.is c.requires.behind in
    let depth : c.params.result.depth ≡ (net_of o).params.depth = ap (λ p. p.depth) c.params.ensures in
    over_too_long (net_of o) (plan_of o) o.domain c.args.d c.args.hop c.in-Some.behind (omega (arith, depth, c.if-behind-params.true)) is

pub overflow_add-result : goal.overflow_add-result
overflow_add-result c =
    let o = c.args.outage.now in
    let net = net_of o in
    let is : IsReachOf net (IsWalk net (plan_of o) o.domain c.args.hop.parent) c.args.hop.parent c.in-Some.behind =
    subst (λ (behind : Option Reach). ReachesFrom net (plan_of o) o.domain c.args.hop.parent behind) c.in-Some.is c.requires.behind in
    let depth : c.params.result.depth ≡ net.params.depth = ap (λ p. p.depth) c.params.ensures in
    let half : c.bounds.result.half ≡ (bounds_of net c.args.hop.link c.args.d).half = ap (λ b. b.half) c.bounds.ensures in
    let law = o.planned.topo.now.is_network in
    let small : (bounds_of net c.args.hop.link c.args.d).half ≤ 10 ^ 12 = half_small net c.args.hop.link c.args.d law c.requires.right.1.0 in
    let few : net.params.depth ≤ 64 = law.depth.1 in
    let most : c.in-Some.behind.far ≤ c.in-Some.behind.long * 10 ^ 12 = is.bound in
    omega (arith, depth, half, small, few, most, c.if-behind-params.false)

pub returns : goal.returns
returns c =
    let o = c.args.outage.now in
    let net = net_of o in
    let is : IsReachOf net (IsWalk net (plan_of o) o.domain c.args.hop.parent) c.args.hop.parent c.in-Some.behind =
    subst (λ (behind : Option Reach). ReachesFrom net (plan_of o) o.domain c.args.hop.parent behind) c.in-Some.is c.requires.behind in
    let depth : c.params.result.depth ≡ net.params.depth = ap (λ p. p.depth) c.params.ensures in
    let small : (bounds_of net c.args.hop.link c.args.d).half ≤ 10 ^ 12 =
    half_small net c.args.hop.link c.args.d o.planned.topo.now.is_network c.requires.right.1.0 in
    rw c.bounds.ensures (over_reach net (plan_of o) o.domain c.args.d c.args.hop c.in-Some.behind (omega (arith, depth, c.if-behind-params.false)) small is)
