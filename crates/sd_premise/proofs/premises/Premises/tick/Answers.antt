use Rattle.std.proofs.Common.{◌≡◌, ◌≤◌, false, None, length, Option, option_map, refl, subst, sym, ap, ◌∙◌}
use Rattle.sd_plan.specs.topo.Network.{Network}
use Rattle.sd_device.specs.declared.msg.Flight.{Flight}
use Rattle.sd_sched.specs.declared.Event.TheVariants.{Tick}
use Rattle.sd_sched.specs.Events.{reference_of}
use Rattle.sd_sched.specs.Honesty.{clock_set}
use Rattle.sd_history.specs.declared.BrokenSet.{BrokenSet}
use Rattle.sd_history.specs.World.{Seen}
use Rattle.sd_history.specs.Premises.{delay_holds, newly}
use Rattle.sd_history.specs.Refusals.{makes_some}
use Rattle.sd_history.specs.Things.{failure_of}
use Rattle.sd_world.specs.world.Registers.{registers_after}
use Rattle.sd_monitors.specs.clocks.Drifts.{reading_of, IsReading}
use Rattle.sd_monitors.proofs.clocks.Skipping.{start_skips, delay_skips}
use Rattle.sd_monitors.specs.loss.rounds.Standing.{IsShown}
use Rattle.sd_monitors.proofs.renewal.Skipping.{domain_skips, renewal_skips_tick}
use Rattle.sd_premise.specs.Calm.{IsCalmTick}
use Rattle.sd_premise.specs.Worlds.{world_after}
use Rattle.sd_premise.proofs.Following.{follows, tick_before}
use Rattle.sd_premise.proofs.Worlds.{world_stands, world_by}
use Rattle.sd_premise.proofs.Judging.{held_answered, sees, still}
use Rattle.sd_premise.proofs.premises.Premises.tick.Goals as goal

pub returns : goal.returns
returns c =
    sees (λ setting earlier s is can stands.
    (let event = is.tick.event in
    let at = ap reference_of event in
    let reading : IsReading s.event c.args.device c.args.reference c.args.counter false = record { reading = ap reading_of event; life = sym (ap makes_some event) } in
    let low = tick_before setting earlier s c.args.device c.args.reference stands.order can at in
    let shown : IsShown c.args.reference None None c.args.sent.now s = record {
      reference = at;
      failed = ap failure_of event;
      taken = ap (λ (o : Option Flight). option_map (λ f. f.number) o) is.taken;
      sent = is.sends;
    } in
    let start = start_skips c.args.self.now.start s earlier (ap clock_set event) stands.start in
    let delay = delay_skips setting c.args.self.now.delay s earlier is.taken stands.delay in
    let some : 1 ≤ length setting.net.devices =
    subst (λ (n : Network). 1 ≤ length n.devices) (sym stands.net) c.args.self.now.topology.is_network.devices.0 in
    let domain = domain_skips setting c.args.self.now.domain s earlier (ap failure_of event) is.tick.stays some stands.domain in
    let renew = renewal_skips_tick setting c.args.self.now.renew s earlier c.args.reference c.args.device c.args.counter is.tick is.activated
    can.allowed stands.renew in
    record {
      order = (stands.order, can);
      net = stands.net;
      count = stands.count;
      sound = stands.sound;
      members = stands.members;
      links = stands.links;
      world = world_stands c.args.self.now.world _ setting s earlier (c.note_call.ensures.tick ∙ world s is) stands.world;
      start = start;
      drift = c.read.ensures.stands setting earlier s reading stands.drift can.allowed;
      delay = delay;
      tick = c.tick.ensures.stands setting earlier s c.args.counter is.tick can.allowed low stands.tick;
      loss = c.see.ensures.stands setting earlier s shown (follows setting earlier s can) stands.loss;
      domain = domain;
      renew = renew;
      broken =
          c.note_held.ensures.kept
          ∙ held_answered setting s earlier c.args.self.now.broken _ stands.broken
          (sym stands.start.holds ∙ start.holds)
          (c.read.ensures.holds setting earlier s reading stands.drift can.allowed)
          (still c.args.self.now.broken.delay (delay_holds setting earlier) (ap (λ (b : BrokenSet). b.delay) stands.broken) ∙ sym stands.delay.holds ∙ delay.holds)
          (c.tick.ensures.holds setting earlier s c.args.counter is.tick can.allowed low stands.tick)
          (c.see.ensures.holds setting earlier s shown (follows setting earlier s can) stands.loss)
          (sym stands.domain.holds ∙ domain.holds)
          (sym stands.renew.holds ∙ renew.holds);
    }))
    (c.note_held.ensures.breaks ∙ ap (newly c.args.self.now.broken) (sym c.note_held.ensures.kept)) c.see.ensures.room (λ s is. c.note_call.ensures.tick ∙ world s is) refl
  where
    world : (s : Seen) → IsCalmTick s c.args.reference c.args.device c.args.counter c.args.sent.now
        → registers_after c.args.self.now.world (Tick c.args.reference c.args.device c.args.counter) ≡ world_after c.args.self.now.world s
    world s is = world_by c.args.self.now.world s (Tick c.args.reference c.args.device c.args.counter) is.tick.event is.tick.stays
