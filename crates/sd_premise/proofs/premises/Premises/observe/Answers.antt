use Rattle.std.proofs.Common.{◌∷◌, refl, sym, ◌∙◌}
use Rattle.sd_history.specs.World.{Seen}
use Rattle.sd_monitors.specs.clocks.Sights.{sight_of}
use Rattle.sd_monitors.specs.loss.rounds.Standing.{IsShown}
use Rattle.sd_premise.proofs.Following.{follows}
use Rattle.sd_premise.proofs.Judging.{answered, breaks_with}
use Rattle.sd_premise.proofs.premises.Premises.observe.Goals as goal

pub returns-clause-stands : goal.returns-clause-stands
returns-clause-stands c setting earlier can stands =
    let s : Seen = sight_of c.args.seen.now in
    let shown : IsShown c.reference.result c.failure_of.result c.number_taken.result c.args.seen.now.sent.now s = record {
      reference = sym c.reference.ensures;
      failed = sym c.failure_of.ensures;
      taken = sym c.number_taken.ensures;
      sent = refl;
    } in
    let world = c.observe_world.ensures.stands setting earlier stands.world in
    record {
      order = (stands.order, can);
      net = stands.net;
      count = stands.count;
      sound = stands.sound;
      members = stands.members;
      links = stands.links;
      world = world;
      start = c.observe.ensures.stands earlier stands.start;
      drift = c.observe-2.ensures.stands setting earlier stands.drift can.allowed;
      delay = c.observe-3.ensures.stands setting earlier stands.net stands.delay;
      tick = c.observe-4.ensures.stands setting earlier stands.members world stands.tick;
      loss = c.see.ensures.stands setting earlier s shown (follows setting earlier s can) stands.loss;
      domain = c.observe-5.ensures.stands setting earlier stands.net stands.domain;
      renew = c.observe-renew.ensures.stands setting earlier
          (record { net = stands.net; sound = stands.sound; members = stands.members; links = stands.links; world = stands.world }) can.allowed stands.renew;
      broken =
          c.break_now.ensures.kept
          ∙ answered setting (s ∷ earlier) c.observe.result c.observe-2.result c.observe-3.result c.observe-4.result c.see.result c.observe-5.result
          c.observe-renew.result
          (c.observe.ensures.holds earlier stands.start)
          (c.observe-2.ensures.holds setting earlier stands.drift can.allowed)
          (c.observe-3.ensures.holds setting earlier stands.net stands.delay)
          (c.observe-4.ensures.holds setting earlier stands.members world stands.tick)
          (c.see.ensures.holds setting earlier s shown (follows setting earlier s can) stands.loss)
          (c.observe-5.ensures.holds setting earlier stands.net stands.domain)
          (c.observe-renew.ensures.holds setting earlier
          (record { net = stands.net; sound = stands.sound; members = stands.members; links = stands.links; world = stands.world }) can.allowed
          stands.renew);
    }

pub returns-clause-breaks : goal.returns-clause-breaks
returns-clause-breaks c setting earlier can stands =
    c.break_now.ensures.breaks
    ∙ breaks_with setting (sight_of c.args.seen.now) earlier c.args.self.now.broken _ stands.broken
    (sym c.break_now.ensures.kept ∙ (returns-clause-stands c setting earlier can stands).broken)
