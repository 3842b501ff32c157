-- The way down the cut walk of a device behind the backup root, of which nothing failed, is open to each round that the backup root emits from its takeover on.
use Rattle.std.specs.Prelude.{◌≡◌, ℕ, true, false, not, List, [], ◌∷◌, Some, refl}
use Rattle.std.proofs.Common.{arith, ap, sym, subst}
use Rattle.std.proofs.lemmas.Bool.{eq-eqb, not-true, false_from_ne_true}
use Rattle.sd_plan.specs.declared.topo.Thing.{Thing}
use Rattle.sd_plan.specs.declared.topo.Thing.TheVariants as thing
use Rattle.sd_plan.specs.declared.Hop.{Hop}
use Rattle.sd_plan.specs.declared.Plan.{Plan}
use Rattle.sd_plan.specs.Plans.{is_backup_root}
use Rattle.sd_plan.specs.Duties.{follows_over}
use Rattle.sd_plan.specs.Walks.{end_of}
use Rattle.sd_device.specs.Calls.{Past}
use Rattle.sd_sched.specs.declared.Event.{Event}
use Rattle.sd_history.specs.World.{Setting, fails, is_up, has_commit, link_has_failed}
use Rattle.sd_history.specs.Steps.{Step, seen_of, acts_in}
use Rattle.sd_history.specs.Chronicle.{past_in, chronicle}
use Rattle.sd_safety.specs.invariant.Eras.{era, plan_now, is_among, failed_now, is_old, is_new}
use Rattle.sd_safety.specs.invariant.Coming.{IsNextEvent}
use Rattle.sd_safety.proofs.invariant.Facts.{IsSound}
use Rattle.sd_safety.proofs.invariant.Sides.{implied, not_both}
use Rattle.sd_safety.specs.messages.Moments.{whole, behind, Moment, upto, IsIn}
use Rattle.sd_safety.specs.messages.Rounds.{IsReady}
use Rattle.sd_safety.proofs.messages.Tails.{tail_trans}
use Rattle.sd_safety.proofs.messages.Ends.{primary_follows}
use Rattle.sd_safety.proofs.waits.Standing.{now, sound}
use Rattle.sd_safety.proofs.silences.Links.{alone}
use Rattle.sd_safety.proofs.silences.Phases.{era_grows, open_at, fails_among, failed_on, Known}
use Rattle.sd_safety.proofs.silences.SoundWays.{top_of, map_walks}
use Rattle.sd_safety.proofs.silences.WalkWays.{Walks, end_at, way_of}
use Rattle.sd_safety.specs.rounds.Rounds.{IsOpenHop, AreOpenHops}
use Rattle.sd_safety.proofs.rounds.NewHops.{open_ways}
use Rattle.sd_safety.proofs.feeds.Cuts.{IsCutClear}
use Rattle.sd_safety.proofs.feeds.Ready.{cut_fewer, cut_then, cut_up, cut_link, cut_ready}
use Rattle.sd_safety.proofs.takeovers.Places.{took, stood, known_since}

-- where the event fails none of some things, with which all are that failed by now
module _ (setting : Setting) (x : Event) (h : List Event) (e : Event) (comes : IsNextEvent setting (x ∷ h) e)
    (old : is_old (chronicle setting (x ∷ h)) (plan_now setting (chronicle setting (x ∷ h))).backup_root ≡ true)
    (acts : acts_in (chronicle setting (x ∷ h)) (plan_now setting (chronicle setting (x ∷ h))).backup_root ≡ true) (failed : List Thing)
    (more : (y : Thing) → is_among failed y ≡ false → is_among (failed_now (chronicle setting (x ∷ h))) y ≡ false) (spares : (y : Thing)
    → is_among failed y ≡ false → fails y e ≡ false) where
  abbrev steps : List Step
  steps = chronicle setting (x ∷ h)

  abbrev plan : Plan
  plan = plan_now setting (chronicle setting (x ∷ h))

  abbrev b : ℕ
  b = (plan_now setting (chronicle setting (x ∷ h))).backup_root

  abbrev start : Moment
  start = (took setting x h e comes old acts).moment

  -- what did not fail by now has not failed since the takeover
  lasts : (y : Thing) → is_among failed y ≡ false → (q : Moment) → IsIn q (chronicle setting (e ∷ x ∷ h)) → IsIn start (upto q)
      → fails y q.step.seen.event ≡ false
  lasts y none q whole since = spares y none
  lasts y none q (behind t) since =
      let same = (stood setting x h e comes old acts q (behind t) since).0 in
      let grows = era_grows (upto q) steps t in
      let next = era_grows q.earlier (upto q) (behind whole) in
      false_from_ne_true (fails y q.step.seen.event)
      (λ is. not_both (is_among (failed_now steps) y)
      (failed_on y (upto q) steps t (omega (arith, same, grows, next))
      (fails_among q.step q.earlier y (open_at q.step q.earlier (omega (arith, same, grows))) is)) (more y none))

  module _ (y : ℕ) (hop : Hop) (clear : IsCutClear setting.net (plan_now setting (chronicle setting (x ∷ h))) failed y hop) where
    clear_at : (q : Moment) (k : Known setting (chronicle setting (x ∷ h)) q)
        → IsCutClear setting.net (plan_now setting (chronicle setting (k.x ∷ k.h))) (failed_now (chronicle setting (k.x ∷ k.h))) y hop
    clear_at q k =
        cut_then setting (chronicle setting (k.x ∷ k.h)) steps y hop k.part k.same (cut_fewer setting.net plan failed (failed_now steps) y hop more clear)

    whole_at : (q : Moment) → Known setting (chronicle setting (x ∷ h)) q
        → (link_has_failed (seen_of q.earlier) hop.link ≡ false) × (is_up (seen_of q.earlier) y ≡ true)
    whole_at q k =
        subst (λ (p : Moment). (link_has_failed (seen_of p.earlier) hop.link ≡ false) × (is_up (seen_of p.earlier) y ≡ true)) (sym k.is)
        (cut_link setting k.x k.h k.e k.comes k.late y hop (clear_at q k), cut_up setting k.x k.h k.e k.comes k.late y hop (clear_at q k))

    not_new : (q : Moment) (k : Known setting (chronicle setting (x ∷ h)) q) → is_new (chronicle setting (k.x ∷ k.h)) y ≡ false
    not_new q k =
        let older : List Step = chronicle setting (k.x ∷ k.h) in
        not-true (is_new older y)
        (implied (not (has_commit (seen_of older))) (not (is_new older y)) ((now setting k.x k.h k.e k.comes).core.uncommitted.devices y) (ap not k.calm))

    ready_at : (q : Moment) → Known setting (chronicle setting (x ∷ h)) q → (past : Past) → past_in q.earlier y ≡ Some past
        → IsReady past (era (chronicle setting (x ∷ h))) hop.link
    ready_at q k =
        subst (λ (p : Moment). (past : Past) → past_in p.earlier y ≡ Some past → IsReady past (era steps) hop.link) (sym k.is)
        (λ past there. subst (λ n. IsReady past n hop.link) k.same (cut_ready setting k.x k.h k.e k.comes k.late y hop (clear_at q k) (not_new q k) past there))

    open_hop : (first : Moment) → IsIn start (upto first) → (limit : ℕ)
        → IsOpenHop setting (top_of setting (x ∷ h) e) (era (chronicle setting (x ∷ h))) first limit b hop.parent (end_at y hop)
    open_hop first from limit =
        let fine : IsSound setting.net plan = sound setting x h e comes in
        let follows : follows_over plan hop.parent hop.link y ≡ true = primary_follows plan y hop.parent hop.link hop clear.primary refl refl in
        record {
          follows = follows;
          alone = λ c is. alone setting.net plan fine.fits fine.rules hop.parent hop.link y c follows is;
          known = (clear.within.1, clear.known);
          apart = λ same. not_both (is_backup_root plan y) (eq-eqb b y (sym same)) clear.ordinary;
          whole = λ q q_in started by. whole_at q (known_since setting x h e comes old acts q (behind q_in) (tail_trans from started));
          ready = λ q q_in since by. ready_at q (known_since setting x h e comes old acts q (behind q_in) (tail_trans from (behind since)));
          lasts = λ q q_in since. let after = tail_trans from (behind since) in (
            lasts (thing.Device hop.parent) clear.parent q q_in after,
            lasts (thing.Device y) clear.self q q_in after,
            lasts
                (thing.Link hop.link) clear.link q q_in after,
          );
        }

  pub open_way : (d : ℕ) (hs : List Hop) → Walks plan (IsCutClear setting.net (plan_now setting (chronicle setting (x ∷ h))) failed) d hs → end_of d hs ≡ b
      → (first : Moment) → IsIn start (upto first) → (limit : ℕ)
      → AreOpenHops setting (top_of setting (x ∷ h) e) (era (chronicle setting (x ∷ h))) first limit b b (way_of d hs [])
  open_way d hs clear ends first from limit =
      subst (λ z. AreOpenHops setting (top_of setting (x ∷ h) e) (era steps) first limit b z (way_of d hs [])) ends
      (open_ways setting (top_of setting (x ∷ h) e) plan (era steps) first limit b d hs []
      (map_walks plan _ _ (λ y hop is. open_hop y hop is first from limit) hs d clear) tt)
