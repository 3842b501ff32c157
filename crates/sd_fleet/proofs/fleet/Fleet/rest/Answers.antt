-- The fleet goes on with all nodes as they are.
use Rattle.std.proofs.Common.{subst}
use Rattle.sd_fleet.specs.Nodes.{RestsAt}
use Rattle.sd_fleet.proofs.NodeRests.{place_there, floor_low, crew_resting, goes_resting}
use Rattle.sd_fleet.proofs.fleet.Fleet.rest.Goals as goal

pub rests_at-requires-clause-place : goal.rests_at-requires-clause-place
rests_at-requires-clause-place g c =
    place_there g.N.Node c.args.self.now.fabric c.args.self.now.nodes.items c.deref.result.now c.args.reference c.args.d c.args.counter c.deref.ensures.value
    c.args.self.now.are_nodes (c.admits_tick.ensures.accepted c.if-not-admits_tick.false)

pub rests_at-requires-clause-floor : goal.rests_at-requires-clause-floor
rests_at-requires-clause-floor g c =
    floor_low g.N.Node c.args.self.now.fabric c.args.self.now.nodes.items c.deref.result.now c.args.reference c.args.d c.args.counter c.deref.ensures.value
    c.args.self.now.are_nodes (c.admits_tick.ensures.accepted c.if-not-admits_tick.false)

pub invariant_of-self : goal.invariant_of-self
invariant_of-self g c =
    record {
      are_nodes = crew_resting g.N.Node c.args.self.now.fabric c.rest.new.self c.args.self.now.nodes.items c.args.reference c.args.d c.args.counter
          c.args.self.now.are_nodes (c.admits_tick.ensures.accepted c.if-not-admits_tick.false)
          (subst (λ ns. RestsAt g.N.Node ns c.args.d c.args.counter) c.deref.ensures.value (c.rests_at.ensures c.if-not-rests_at.false)) c.rest.ensures.after
          c.admits_tick.ensures.sound;
    }

pub returns-clause-accepted : goal.returns-clause-accepted
returns-clause-accepted g c =
    λ yes setting run stands.
    (let on =
    goes_resting g.N.Node c.args.self.now.fabric c.rest.new.self c.args.self.now.nodes.items c.args.reference c.args.d c.args.counter
    c.args.self.now.are_nodes (c.admits_tick.ensures.accepted c.if-not-admits_tick.false)
    (subst (λ ns. RestsAt g.N.Node ns c.args.d c.args.counter) c.deref.ensures.value (c.rests_at.ensures c.if-not-rests_at.false)) c.rest.ensures.after
    (c.admits_tick.ensures.shut c.if-not-admits_tick.false) setting run stands.is_run stands.fabric stands.nodes in
    record { next = on.step; happens = on.happens; comes = on.comes; stands = record { is_run = on.is_run; fabric = on.stands; nodes = on.nodes } })
