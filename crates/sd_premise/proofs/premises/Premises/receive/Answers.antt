use Rattle.std.proofs.Common.{◌≡◌, ◌≤◌, false, None, Some, length, Option, option_map, refl, subst, sym, ap, ◌∙◌}
use Rattle.sd_plan.specs.topo.Network.{Network}
use Rattle.sd_device.specs.declared.msg.Flight.{Flight}
use Rattle.sd_sched.specs.declared.Event.TheVariants.{Recv}
use Rattle.sd_sched.specs.Events.{reference_of}
use Rattle.sd_sched.specs.Honesty.{clock_set}
use Rattle.sd_history.specs.World.{Seen}
use Rattle.sd_history.specs.Premises.{newly}
use Rattle.sd_history.specs.Refusals.{makes_some}
use Rattle.sd_history.specs.Things.{failure_of}
use Rattle.sd_world.specs.world.Registers.{registers_after}
use Rattle.sd_monitors.specs.clocks.Drifts.{reading_of, IsReading}
use Rattle.sd_monitors.proofs.clocks.Skipping.{start_skips}
use Rattle.sd_monitors.specs.loss.rounds.Standing.{IsShown}
use Rattle.sd_monitors.proofs.renewal.Skipping.{domain_skips, renewal_skips_receipt}
use Rattle.sd_premise.specs.Calm.{IsCalmReceipt}
use Rattle.sd_premise.specs.Worlds.{world_after}
use Rattle.sd_premise.proofs.Following.{follows}
use Rattle.sd_premise.proofs.Worlds.{world_stands, world_by}
use Rattle.sd_premise.proofs.Judging.{held_answered, sees}
use Rattle.sd_premise.proofs.premises.Premises.receive.Goals as goal

pub returns : goal.returns
returns c =
    sees (λ setting earlier s is can stands.
    (let event = is.receipt.event in
    let at = ap reference_of event in
    let reading : IsReading s.event c.args.device c.args.reference c.args.counter false = record { reading = ap reading_of event; life = sym (ap makes_some event) } in
    let shown : IsShown c.args.reference None (Some c.args.flight.now.number) c.args.sent.now s = record {
      reference = at;
      failed = ap failure_of event;
      taken = ap (λ (o : Option Flight). option_map (λ f. f.number) o) is.taken;
      sent = is.sends;
    } in
    let start = start_skips c.args.self.now.start s earlier (ap clock_set event) stands.start in
    let some : 1 ≤ length setting.net.devices =
    subst (λ (n : Network). 1 ≤ length n.devices) (sym stands.net) c.args.self.now.topology.is_network.devices.0 in
    let domain = domain_skips setting c.args.self.now.domain s earlier (ap failure_of event) is.receipt.stays some stands.domain in
    let renew = renewal_skips_receipt setting c.args.self.now.renew s earlier c.args.reference c.args.device c.args.counter is.message is.receipt
    is.activated
    can.allowed stands.renew in
    record {
      order = (stands.order, can);
      net = stands.net;
      count = stands.count;
      sound = stands.sound;
      members = stands.members;
      links = stands.links;
      world = world_stands c.args.self.now.world _ setting s earlier (c.note_call.ensures.receipt is.message ∙ world s is) stands.world;
      start = start;
      drift = c.read.ensures.stands setting earlier s reading stands.drift can.allowed;
      delay = c.read-2.ensures.stands setting earlier s stands.net at is.taken stands.delay;
      tick = c.receive.ensures.stands setting earlier s c.args.device c.args.counter is.message is.receipt can.allowed stands.tick;
      loss = c.see.ensures.stands setting earlier s shown (follows setting earlier s can) stands.loss;
      domain = domain;
      renew = renew;
      broken =
          c.note_held.ensures.kept
          ∙ held_answered setting s earlier c.args.self.now.broken _ stands.broken
          (sym stands.start.holds ∙ start.holds)
          (c.read.ensures.holds setting earlier s reading stands.drift can.allowed)
          (c.read-2.ensures.holds setting earlier s stands.net at is.taken stands.delay)
          (c.receive.ensures.holds setting earlier s c.args.device c.args.counter is.message is.receipt can.allowed stands.tick)
          (c.see.ensures.holds setting earlier s shown (follows setting earlier s can) stands.loss)
          (sym stands.domain.holds ∙ domain.holds)
          (sym stands.renew.holds ∙ renew.holds);
    }))
    (c.note_held.ensures.breaks ∙ ap (newly c.args.self.now.broken) (sym c.note_held.ensures.kept)) c.see.ensures.room (λ s is. c.note_call.ensures.receipt is.message ∙ world s is) refl
  where
    world : (s : Seen) (is : IsCalmReceipt s c.args.reference c.args.device c.args.counter c.args.flight.now c.args.sent.now)
        → registers_after c.args.self.now.world (Recv c.args.reference c.args.device c.args.counter is.message) ≡ world_after c.args.self.now.world s
    world s is = world_by c.args.self.now.world s (Recv c.args.reference c.args.device c.args.counter is.message) is.receipt.event is.receipt.stays
