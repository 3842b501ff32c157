-- The flight was taken, its device received it, and what it sends went out: a step of the history.
use Rattle.std.proofs.Common.{◌≡◌, ◌≤◌, ◌∙◌, Some, false, ap, sym, subst}
use Rattle.std.specs.Vec.{with_items}
use Rattle.std.proofs.lemmas.List.{with_items_is}
use Rattle.sd_sched.specs.declared.Event.{Event}
use Rattle.sd_sched.specs.declared.Event.TheVariants as event
use Rattle.sd_plan.specs.topo.Network.{Network}
use Rattle.sd_world.specs.world.Registers.{is_open}
use Rattle.sd_world.specs.membership.Memberships as membership
use Rattle.sd_world.specs.membership.Standing.{summary}
use Rattle.sd_history.specs.Nodes.{answers_of}
use Rattle.sd_fleet.specs.Registers.{kept}
use Rattle.sd_fleet.specs.Doing.{replied}
use Rattle.sd_fleet.specs.Keeping.{outcome_keeping}
use Rattle.sd_fleet.specs.Room.{ends_in}
use Rattle.sd_fleet.specs.Staying.{StaysAt}
use Rattle.sd_fleet.specs.declared.Outcome.{Outcome}
use Rattle.sd_fleet.specs.declared.Reply.{Reply}
use Rattle.sd_fleet.proofs.FabricKeeping.{reference_few}
use Rattle.sd_fleet.proofs.NodeKeeps.{IsMade, length_made, nodes_made, goes_made, made_receipt}
use Rattle.sd_fleet.proofs.Staying.{heard_accepted, following}
use Rattle.sd_fleet.proofs.Steady.{mid_accepted}
use Rattle.sd_fleet.proofs.Stepping.{can_receive, room_without}
use Rattle.sd_fleet.proofs.fleet.Fleet.hear.Given.{Over}
use Rattle.sd_fleet.proofs.fleet.Fleet.hear.Goals as goal

pub hear_at-effect-requires-clause-callable : goal.hear_at-effect-requires-clause-callable
hear_at-effect-requires-clause-callable g c =
    (can_receive g.N.Node c.args.self.now.fabric c.args.reference c.args.d c.args.counter c.args.message c.receive-flight.result
    c.args.self.now.nodes.items c.deref_mut.result.now c.context_of_call-context.result c.deref_mut.ensures.value c.context_of_call-context.ensures.context
    c.receive-flight.ensures.found c.args.self.now.are_nodes c.context_of_call-context.ensures.sound
    (heard_accepted c.args.self.now.fabric c.args.reference c.args.d c.args.counter c.args.message
    (c.admits_tick.ensures.accepted c.if-not-admits_tick.false) (sym c.is_on_time.ensures ∙ c.if-not-is_on_time.false))
    c.requires.within).2

pub tick-sent-requires-clause-accepted : goal.tick-sent-requires-clause-accepted
tick-sent-requires-clause-accepted g c =
    mid_accepted c.args.self.now.fabric c.receive-flight.new.self c.args.reference c.args.d c.args.counter c.args.message c.hear_at-effect.result
    (following 0) c.receive-flight.ensures.left
    (heard_accepted c.args.self.now.fabric c.args.reference c.args.d c.args.counter c.args.message
    (c.admits_tick.ensures.accepted c.if-not-admits_tick.false) (sym c.is_on_time.ensures ∙ c.if-not-is_on_time.false))

pub tick-sent-requires-clause-reference : goal.tick-sent-requires-clause-reference
tick-sent-requires-clause-reference g c = reference_few (event.Recv c.args.reference c.args.d c.args.counter c.args.message) c.requires.within

pub tick-sent-requires-clause-shut : goal.tick-sent-requires-clause-shut
tick-sent-requires-clause-shut g c =
    subst (λ (m : membership.Registers). is_open m.world.window ≡ false) (sym c.receive-flight.ensures.left.membership)
    (c.admits_tick.ensures.shut c.if-not-admits_tick.false)

pub tick-sent-requires-clause-room : goal.tick-sent-requires-clause-room
tick-sent-requires-clause-room g c =
    room_without c.args.self.now.fabric c.receive-flight.new.self c.args.d c.args.message c.receive-flight.ensures.left c.requires.room

-- what happened, what was replied, and what came of it

abbrev happened : (g : Over) → goal.After-tick-sent g → Event
happened g c = event.Recv c.args.reference c.args.d c.args.counter c.args.message

abbrev reply : (g : Over) → goal.After-tick-sent g → Reply
reply g c = replied c.hear_at-effect.result (summary (answers_of g.N.Node c.hear_at-effect.ensures.node))

abbrev outcome : (g : Over) → goal.After-tick-sent g → Outcome
outcome g c = outcome_keeping c.args.self.now.fabric c.args.d (Some c.receive-flight.result) c.tick-sent.result

made : (g : Over) (c : goal.After-tick-sent g)
    → IsMade g.N.Node c.args.self.now.fabric c.tick-sent.new.self (happened g c) c.args.self.now.nodes.items c.deref_mut.result.now
    c.hear_at-effect.new.nodes c.context_of_call-context.result (reply g c) (outcome g c)
made g c =
    made_receipt g.N.Node c.args.self.now.fabric c.tick-sent.new.self c.args.self.now.nodes.items c.deref_mut.result.now c.hear_at-effect.new.nodes
    c.args.reference c.args.d c.args.counter c.context_of_call-context.result c.hear_at-effect.result c.tick-sent.result c.deref_mut.ensures.value
    c.context_of_call-context.ensures.context c.args.self.now.are_nodes c.context_of_call-context.ensures.sound
    (c.admits_tick.ensures.shut c.if-not-admits_tick.false) c.receive-flight.new.self c.args.message c.receive-flight.result
    (heard_accepted c.args.self.now.fabric c.args.reference c.args.d c.args.counter c.args.message
    (c.admits_tick.ensures.accepted c.if-not-admits_tick.false) (sym c.is_on_time.ensures ∙ c.if-not-is_on_time.false))
    c.receive-flight.ensures.found c.receive-flight.ensures.left c.hear_at-effect.ensures c.tick-sent.ensures.sends

left_is : (g : Over) (c : goal.After-tick-sent g)
    → (with_items c.args.self.now.nodes c.hear_at-effect.new.nodes).items ≡ c.hear_at-effect.new.nodes
left_is g c =
    with_items_is c.args.self.now.nodes c.hear_at-effect.new.nodes
    (length_made g.N.Node c.args.self.now.fabric c.tick-sent.new.self (happened g c) c.args.self.now.nodes.items c.deref_mut.result.now
    c.hear_at-effect.new.nodes c.context_of_call-context.result (reply g c) (outcome g c) (made g c) ∙ sym c.args.self.now.nodes.ok.0)

pub invariant_of-self : goal.invariant_of-self
invariant_of-self g c =
    record {
      are_nodes =
          nodes_made g.N.Node c.args.self.now.fabric c.tick-sent.new.self (event.Recv c.args.reference c.args.d c.args.counter c.args.message)
          c.args.self.now.nodes.items c.deref_mut.result.now c.hear_at-effect.new.nodes c.context_of_call-context.result
          (replied c.hear_at-effect.result (summary (answers_of g.N.Node c.hear_at-effect.ensures.node)))
          (outcome_keeping c.args.self.now.fabric c.args.d (Some c.receive-flight.result) c.tick-sent.result) (made g c)
          (with_items c.args.self.now.nodes c.hear_at-effect.new.nodes).items (left_is g c);
    }

pub returns-clause-accepted : goal.returns-clause-accepted
returns-clause-accepted g c =
    λ setting run stands.
    (let on =
    goes_made g.N.Node c.args.self.now.fabric c.tick-sent.new.self (happened g c.before) c.args.self.now.nodes.items c.deref_mut.result.now
    c.hear_at-effect.new.nodes c.context_of_call-context.result (reply g c.before) (outcome g c.before) (made g c.before)
    (with_items c.args.self.now.nodes c.hear_at-effect.new.nodes).items (left_is g c.before) setting run stands.is_run stands.fabric stands.nodes
    in
    record { next = on.step; happens = on.happens; comes = on.comes; stands = record { is_run = on.is_run; fabric = on.stands; nodes = on.nodes } })

pub returns-clause-few : goal.returns-clause-few
returns-clause-few g c =
    let left = c.receive-flight.ensures.left in
    subst (λ n. c.tick-sent.result.count ≤ n)
    (ap (λ (n : Network). ends_in (kept n c.receive-flight.new.self.membership c.receive-flight.new.self.book) c.args.d) left.net
    ∙ ap (λ (m : membership.Registers). ends_in (kept c.args.self.now.fabric.net m c.receive-flight.new.self.book) c.args.d) left.membership)
    c.tick-sent.ensures.few

pub returns-clause-stays : goal.returns-clause-stays
returns-clause-stays g c =
    subst (λ (m : membership.Registers). StaysAt m c.tick-sent.new.self.membership c.args.d) c.receive-flight.ensures.left.membership
    c.tick-sent.ensures.stays
