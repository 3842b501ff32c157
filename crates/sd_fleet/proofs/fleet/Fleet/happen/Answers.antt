-- What the node did and the fabric keeps makes the fleet stand for one step more.
use Rattle.std.proofs.Common.{◌∙◌, refl, sym, subst}
use Rattle.std.specs.Vec.{with_items}
use Rattle.std.proofs.lemmas.List.{with_items_is}
use Rattle.sd_fleet.specs.Doing.{act_in}
use Rattle.sd_fleet.specs.Bounds.{AreNodes, context_of}
use Rattle.sd_fleet.proofs.Telling.{tells}
use Rattle.sd_fleet.proofs.Applying.{length_done, nodes_next}
use Rattle.sd_fleet.proofs.Reporting.{outcome_limited, sent_most}
use Rattle.sd_fleet.proofs.Stepping.{goes_further}
use Rattle.sd_fleet.proofs.fleet.Fleet.happen.Goals as goal

pub address-reply-requires-clause-nodes : goal.address-reply-requires-clause-nodes
address-reply-requires-clause-nodes g c =
    subst (AreNodes g.N.Node c.args.self.now.fabric) (sym c.deref_mut.ensures.value) c.args.self.now.are_nodes

pub note-requires-clause-tells : goal.note-requires-clause-tells
note-requires-clause-tells g c =
    tells g.N.Node c.deref_mut.result.now c.address-reply.new.nodes (context_of c.args.self.now.fabric c.args.event.now) c.address-reply.result
    c.args.self.now.fabric c.args.event.now c.requires.prepared.accepted c.address-reply.ensures.acts

pub invariant_of-self : goal.invariant_of-self
invariant_of-self g c =
    let r = c.args.self.now.fabric in
    let e = c.args.event.now in
    let acts = c.address-reply.ensures.acts in
    let long = length_done g.N.Node c.args.self.now.nodes.items c.deref_mut.result.now c.address-reply.new.nodes (context_of r e) (act_in r e)
    c.address-reply.result c.deref_mut.ensures.value acts in
    record {
      are_nodes =
          nodes_next g.N.Node r c.note.new.self e c.args.self.now.nodes.items c.deref_mut.result.now c.address-reply.new.nodes
          (with_items c.args.self.now.nodes c.address-reply.new.nodes).items (context_of r e) (act_in r e) c.address-reply.result
          c.deref_mut.ensures.value refl refl acts
          (with_items_is c.args.self.now.nodes c.address-reply.new.nodes (long ∙ sym c.args.self.now.nodes.ok.0)) c.args.self.now.are_nodes
          c.address-reply.ensures.sound c.requires.prepared.accepted c.note.ensures.after;
    }

pub returns : goal.returns
returns g c =
    let r = c.args.self.now.fabric in
    let e = c.args.event.now in
    let acts = c.address-reply.ensures.acts in
    let accepted = c.requires.prepared.accepted in
    let replies = tells g.N.Node c.deref_mut.result.now c.address-reply.new.nodes (context_of r e) c.address-reply.result r e accepted acts in
    let long = length_done g.N.Node c.args.self.now.nodes.items c.deref_mut.result.now c.address-reply.new.nodes (context_of r e) (act_in r e)
    c.address-reply.result c.deref_mut.ensures.value acts in
    record {
      accepted =
          λ setting run stands.
          (let on =
          goes_further g.N.Node r c.note.new.self e c.args.self.now.nodes.items c.deref_mut.result.now c.address-reply.new.nodes
          (with_items c.args.self.now.nodes c.address-reply.new.nodes).items (context_of r e) c.address-reply.result c.note.new.outcome
          c.deref_mut.ensures.value acts
          (with_items_is c.args.self.now.nodes c.address-reply.new.nodes (long ∙ sym c.args.self.now.nodes.ok.0)) c.args.self.now.are_nodes accepted
          replies c.note.ensures.after c.note.ensures.comes setting run stands.is_run stands.fabric stands.nodes
          in
          record { next = on.step; happens = on.happens; comes = on.comes; stands = record { is_run = on.is_run; fabric = on.stands; nodes = on.nodes } });
      limited =
          outcome_limited g.N.Node r e c.deref_mut.result.now c.address-reply.new.nodes (context_of r e) (act_in r e) c.address-reply.result
          c.note.new.outcome c.address-reply.ensures.sound.events refl acts c.note.ensures.comes;
      few = sent_most r e c.address-reply.result c.note.new.outcome accepted replies c.note.ensures.comes;
    }
