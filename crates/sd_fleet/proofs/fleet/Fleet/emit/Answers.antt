-- The node ticked, and what it sends went out: a step of the history.
use Rattle.std.proofs.Common.{◌≡◌, ◌∙◌, None, sym}
use Rattle.std.specs.Vec.{with_items}
use Rattle.std.proofs.lemmas.List.{with_items_is}
use Rattle.sd_sched.specs.declared.Event.TheVariants as event
use Rattle.sd_world.specs.membership.Standing.{summary}
use Rattle.sd_history.specs.Nodes.{answers_of}
use Rattle.sd_fleet.specs.Doing.{replied}
use Rattle.sd_fleet.specs.Keeping.{outcome_keeping}
use Rattle.sd_fleet.proofs.FabricKeeping.{reference_few}
use Rattle.sd_fleet.proofs.NodeKeeps.{IsMade, length_made, nodes_made, goes_made, made_tick}
use Rattle.sd_fleet.proofs.Stepping.{can_tick}
use Rattle.sd_fleet.proofs.fleet.Fleet.emit.Given.{Over}
use Rattle.sd_fleet.proofs.fleet.Fleet.emit.Goals as goal

pub emit_at-effect-requires-clause-callable : goal.emit_at-effect-requires-clause-callable
emit_at-effect-requires-clause-callable g c =
    (can_tick g.N.Node c.args.self.now.fabric c.args.reference c.args.d c.args.counter c.args.self.now.nodes.items c.deref_mut.result.now
    c.context_of_call-context.result c.deref_mut.ensures.value c.context_of_call-context.ensures.context c.args.self.now.are_nodes
    c.context_of_call-context.ensures.sound (c.admits_tick.ensures.accepted c.if-not-admits_tick.false) c.requires.within).2

pub tick-sent-requires-clause-reference : goal.tick-sent-requires-clause-reference
tick-sent-requires-clause-reference g c = reference_few (event.Tick c.args.reference c.args.d c.args.counter) c.requires.within

made : (g : Over) (c : goal.After-tick-sent g)
    → IsMade g.N.Node c.args.self.now.fabric c.tick-sent.new.self (event.Tick c.args.reference c.args.d c.args.counter) c.args.self.now.nodes.items
    c.deref_mut.result.now c.emit_at-effect.new.nodes c.context_of_call-context.result
    (replied c.emit_at-effect.result (summary (answers_of g.N.Node c.emit_at-effect.ensures.node)))
    (outcome_keeping c.args.self.now.fabric c.args.d None c.tick-sent.result)
made g c =
    made_tick g.N.Node c.args.self.now.fabric c.tick-sent.new.self c.args.self.now.nodes.items c.deref_mut.result.now c.emit_at-effect.new.nodes
    c.args.reference c.args.d c.args.counter c.context_of_call-context.result c.emit_at-effect.result c.tick-sent.result c.deref_mut.ensures.value
    c.context_of_call-context.ensures.context c.args.self.now.are_nodes c.context_of_call-context.ensures.sound
    (c.admits_tick.ensures.shut c.if-not-admits_tick.false) (c.admits_tick.ensures.accepted c.if-not-admits_tick.false) c.emit_at-effect.ensures
    c.tick-sent.ensures.sends

left_is : (g : Over) (c : goal.After-tick-sent g)
    → (with_items c.args.self.now.nodes c.emit_at-effect.new.nodes).items ≡ c.emit_at-effect.new.nodes
left_is g c =
    with_items_is c.args.self.now.nodes c.emit_at-effect.new.nodes
    (length_made g.N.Node c.args.self.now.fabric c.tick-sent.new.self (event.Tick c.args.reference c.args.d c.args.counter)
    c.args.self.now.nodes.items c.deref_mut.result.now c.emit_at-effect.new.nodes c.context_of_call-context.result
    (replied c.emit_at-effect.result (summary (answers_of g.N.Node c.emit_at-effect.ensures.node)))
    (outcome_keeping c.args.self.now.fabric c.args.d None c.tick-sent.result) (made g c) ∙ sym c.args.self.now.nodes.ok.0)

pub invariant_of-self : goal.invariant_of-self
invariant_of-self g c =
    record {
      are_nodes =
          nodes_made g.N.Node c.args.self.now.fabric c.tick-sent.new.self (event.Tick c.args.reference c.args.d c.args.counter)
          c.args.self.now.nodes.items c.deref_mut.result.now c.emit_at-effect.new.nodes c.context_of_call-context.result
          (replied c.emit_at-effect.result (summary (answers_of g.N.Node c.emit_at-effect.ensures.node)))
          (outcome_keeping c.args.self.now.fabric c.args.d None c.tick-sent.result) (made g c)
          (with_items c.args.self.now.nodes c.emit_at-effect.new.nodes).items (left_is g c);
    }

pub returns-clause-accepted : goal.returns-clause-accepted
returns-clause-accepted g c =
    λ setting run stands.
    (let on =
    goes_made g.N.Node c.args.self.now.fabric c.tick-sent.new.self (event.Tick c.args.reference c.args.d c.args.counter)
    c.args.self.now.nodes.items c.deref_mut.result.now c.emit_at-effect.new.nodes c.context_of_call-context.result
    (replied c.emit_at-effect.result (summary (answers_of g.N.Node c.emit_at-effect.ensures.node)))
    (outcome_keeping c.args.self.now.fabric c.args.d None c.tick-sent.result) (made g c.before)
    (with_items c.args.self.now.nodes c.emit_at-effect.new.nodes).items (left_is g c.before) setting run stands.is_run stands.fabric stands.nodes
    in
    record { next = on.step; happens = on.happens; comes = on.comes; stands = record { is_run = on.is_run; fabric = on.stands; nodes = on.nodes } })
