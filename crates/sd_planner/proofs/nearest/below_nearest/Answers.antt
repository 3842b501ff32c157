use Rattle.std.proofs.Common.{◌<◌, All, Some, None, nat_eq, sym, ap, ◌∙◌, subst, arith}
use Rattle.sd_planner.specs.declared.present.Neighbour.{Neighbour}
use Rattle.sd_planner.specs.declared.placement.Placed.{Placed}
use Rattle.sd_planner.specs.Views.{net_of, left_out}
use Rattle.sd_planner.specs.Nearing.{AreKnown, IsNearest}
use Rattle.sd_planner.proofs.Elements.{found_at_place}
use Rattle.sd_planner.proofs.Finding.{below_is}
use Rattle.sd_planner.proofs.nearest.below_nearest.Goals as goal

pub nearest_of-requires-clause-neighbours : goal.nearest_of-requires-clause-neighbours
nearest_of-requires-clause-neighbours c =
    subst (λ n. All (λ (neighbour : Neighbour). neighbour.device < n) c.neighbours_of.result.now) (sym c.requires.count) c.neighbours_of.ensures.within

pub below-requires : goal.below-requires
below-requires c =
    let (k, at, passes) =
    found_at_place (λ (p : Placed). nat_eq p.device c.in-Some.near.placed.device) c.args.placement.now.order c.in-Some.near.placed
    c.in-Some.ensures.stands in
    let shallow : c.in-Some.near.placed.depth < c.args.placement.now.count = c.requires.known.shallow k c.in-Some.near.placed at in
    omega (arith, c.requires.count, c.args.present.now.topo.now.is_network.devices)

pub returns-in-Some : goal.returns-in-Some
returns-in-Some c =
    let net = net_of c.args.present.now in
    let absent = left_out c.args.present.now in
    ap (λ p. Some p) c.below.ensures
    ∙ sym
    (below_is net absent c.args.placement.now.order c.args.d (Some c.in-Some.near)
    (subst (λ n. AreKnown n c.args.placement.now.order) c.requires.count c.requires.known)
    (subst (λ neighbours. IsNearest c.args.placement.now.order neighbours (Some c.in-Some.near)) c.neighbours_of.ensures.are c.in-Some.ensures))

pub returns-in-None : goal.returns-in-None
returns-in-None c =
    let net = net_of c.args.present.now in
    let absent = left_out c.args.present.now in
    sym
    (below_is net absent c.args.placement.now.order c.args.d None (subst (λ n. AreKnown n c.args.placement.now.order) c.requires.count c.requires.known)
    (subst (λ neighbours. IsNearest c.args.placement.now.order neighbours None) c.neighbours_of.ensures.are c.in-None.ensures))
