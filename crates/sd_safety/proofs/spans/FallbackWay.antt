-- The way over the fallback of the backup root, which C7 says is whole, is open to each round, where that has been on its backup since.
use Rattle.std.specs.Prelude.{◌≡◌, ℕ, ◌+◌, ◌*◌, ◌<◌, ◌≤◌, Bool, true, false, ◌&&◌, not, List, ◌∷◌, nat_eq, Some, IfSome, refl}
use Rattle.std.proofs.Common.{arith, sym, ◌∙◌, ap, subst}
use Rattle.std.proofs.lemmas.Bool.{and_from, or_left, or_right, eqb-true, eq-eqb, not-true}
use Rattle.sd_num.specs.Lists.{has}
use Rattle.sd_plan.specs.declared.topo.Thing.{Thing}
use Rattle.sd_plan.specs.declared.topo.Thing.TheVariants as thing
use Rattle.sd_plan.specs.topo.Network.{greatest_delay}
use Rattle.sd_plan.specs.declared.Hop.{Hop}
use Rattle.sd_plan.specs.declared.Plan.{Plan}
use Rattle.sd_plan.specs.declared.End.{End}
use Rattle.sd_plan.specs.Plans.{IsHop, is_member, is_present, is_root, backup_of}
use Rattle.sd_plan.specs.Duties.{follows_over}
use Rattle.sd_plan.specs.Walks.{walk, end_of, things_of, devices_of, links_of}
use Rattle.sd_plan.proofs.Rules.{hops_within}
use Rattle.sd_checker.specs.check_root.Roots.{fallback_devices, fallback_links}
use Rattle.sd_device.specs.Calls.{Past}
use Rattle.sd_sched.specs.declared.Event.{Event}
use Rattle.sd_sched.specs.Events.{reference_of}
use Rattle.sd_history.specs.World.{Setting, fails, is_up, link_has_failed, plan_numbered}
use Rattle.sd_history.specs.Steps.{Step, seen_of, acts_in}
use Rattle.sd_history.specs.Chronicle.{past_in, chronicle}
use Rattle.sd_history.proofs.Given.{some_is}
use Rattle.sd_safety.specs.invariant.Eras.{era, plan_now, all_started, is_among, touches, failed_now, link_failed_now, is_old, moved, on_backup, root_failed}
use Rattle.sd_safety.specs.invariant.Invariant.{Invariant}
use Rattle.sd_safety.proofs.invariant.Facts.{IsSound}
use Rattle.sd_safety.proofs.invariant.Sides.{implied, not_both}
use Rattle.sd_safety.specs.messages.Moments.{behind, Moment, when, IsIn}
use Rattle.sd_safety.specs.messages.Rounds.{IsReady}
use Rattle.sd_safety.proofs.messages.Ends.{backup_follows}
use Rattle.sd_safety.proofs.waits.Waits.{Stands, old_stands}
use Rattle.sd_safety.proofs.waits.LookingBack.{two_parts}
use Rattle.sd_safety.proofs.waits.Standing.{now, sound}
use Rattle.sd_safety.proofs.silences.Phases.{fewer}
use Rattle.sd_safety.proofs.silences.WalkWays.{Walks, way_of, end_at}
use Rattle.sd_safety.proofs.silences.Paths.{IsClear, clear_walk}
use Rattle.sd_safety.proofs.silences.Links.{alone}
use Rattle.sd_safety.proofs.silences.SoundWays.{top_of}
use Rattle.sd_safety.proofs.silences.FallbackWay.{things_fine, on_fallback, link_of_fallback, ready_back, fallback_hop}
use Rattle.sd_safety.specs.rounds.Rounds.{IsOpenHop, AreOpenHops}
use Rattle.sd_safety.specs.rounds.Spans.{IsSpan}
use Rattle.sd_safety.proofs.rounds.Places.{InEra, of_era}
use Rattle.sd_safety.proofs.rounds.Hops.{IsOldRound, since_first, hop_lasts}
use Rattle.sd_safety.proofs.spans.PathHears.{walk_open}

-- where the event fails nothing of the fallback of an old backup root that has been on its backup since
module _ (setting : Setting) (x : Event) (h : List Event) (e : Event) (s0 : ℕ) (span : IsSpan setting x h e s0)
    (kept : root_failed setting (chronicle setting (x ∷ h)) ≡ false) (late : all_started setting (chronicle setting (x ∷ h)) < reference_of e)
    (failed : List Thing) (more : (y : Thing) → is_among failed y ≡ false → is_among (failed_now (chronicle setting (x ∷ h))) y ≡ false) (spares : (y : Thing)
    → is_among failed y ≡ false → fails y e ≡ false)
    (devices : (d : ℕ) → has (fallback_devices setting.net (plan_now setting (chronicle setting (x ∷ h)))) d ≡ true → is_among failed (thing.Device d) ≡ false)
    (links : (l : ℕ) → has (fallback_links setting.net (plan_now setting (chronicle setting (x ∷ h)))) l ≡ true → is_among failed (thing.Link l) ≡ false)
    (root_spared : is_among failed (thing.Device (plan_now setting (chronicle setting (x ∷ h))).root) ≡ false)
    (self : is_among failed (thing.Device (plan_now setting (chronicle setting (x ∷ h))).backup_root) ≡ false)
    (then_ : (q : Moment) → IsIn q (chronicle setting (e ∷ x ∷ h)) → s0 < when q
    → (era q.earlier ≡ era (chronicle setting (x ∷ h))) × (is_old q.earlier (plan_now setting (chronicle setting (x ∷ h))).backup_root ≡ true)
    × (on_backup q.earlier (plan_now setting (chronicle setting (x ∷ h))).backup_root ≡ true)
    × (is_up (seen_of q.earlier) (plan_now setting (chronicle setting (x ∷ h))).backup_root ≡ true)) where
  abbrev steps : List Step
  steps = chronicle setting (x ∷ h)

  abbrev plan : Plan
  plan = plan_now setting (chronicle setting (x ∷ h))

  abbrev b : ℕ
  b = (plan_now setting (chronicle setting (x ∷ h))).backup_root

  fine : IsSound setting.net (plan_now setting (chronicle setting (x ∷ h)))
  fine = sound setting x h e span.comes

  module _ (hop : Hop) (is_hop : backup_of (plan_now setting (chronicle setting (x ∷ h))) (plan_now setting (chronicle setting (x ∷ h))).backup_root
      ≡ Some hop) where
    on_way : (d : ℕ) → has (devices_of hop.parent (walk setting.net plan hop.parent)) d ≡ true → is_among failed (thing.Device d) ≡ false
    on_way d is = go (is_root plan d) refl
      where
        go : (r : Bool) → is_root plan d ≡ r → is_among failed (thing.Device d) ≡ false
        go true root = subst (λ z. is_among failed (thing.Device z) ≡ false) (eqb-true plan.root d root) root_spared
        go false other = devices d (on_fallback setting.net plan hop d is_hop is other)

    on_links : (l : ℕ) → has (hop.link ∷ links_of (walk setting.net plan hop.parent)) l ≡ true → is_among failed (thing.Link l) ≡ false
    on_links l is = links l (link_of_fallback setting.net plan hop l is_hop is)

    parent_fine : is_among failed (thing.Device hop.parent) ≡ false
    parent_fine = on_way hop.parent (or_left (nat_eq hop.parent hop.parent) _ (eq-eqb hop.parent hop.parent refl))

    hop_fine : is_among failed (thing.Link hop.link) ≡ false
    hop_fine = on_links hop.link (or_left (nat_eq hop.link hop.link) _ (eq-eqb hop.link hop.link refl))

    within : IsHop setting.net hop
    within = subst (λ o. IfSome o (IsHop setting.net)) is_hop (hops_within setting.net plan b fine.fits).1

    right : (is_member plan hop.parent ≡ true) × (is_present plan hop.link ≡ true)
    right = fallback_hop setting.net plan b hop (fine.rules.hops b fine.fits.backup_root) is_hop

    era_of : (q : Moment) → IsIn q (chronicle setting (e ∷ x ∷ h)) → s0 < when q → InEra setting (chronicle setting (x ∷ h)) q
    era_of q here after = of_era setting x h e s0 span q here after (then_ q here after).0

    ready_at : (q : Moment) → IsIn q (chronicle setting (e ∷ x ∷ h)) → s0 < when q → (past : Past) → past_in q.earlier b ≡ Some past
        → IsReady past (era (chronicle setting (x ∷ h))) hop.link
    ready_at q here after past there =
        let k : InEra setting steps q = era_of q here after in
        let facts = then_ q here after in
        let older : List Step = chronicle setting (k.x ∷ k.h) in
        let same : q.earlier ≡ older = ap (λ (p : Moment). p.earlier) k.is in
        let s : Stands setting older b = old_stands setting (k.x ∷ k.h) b (subst (λ l. is_old l b ≡ true) same facts.1) in
        let parts = two_parts (moved older b) (acts_in older b) (subst (λ l. on_backup l b ≡ true) same facts.2) in
        subst (λ p. IsReady p (era steps) hop.link) (some_is (sym s.there ∙ sym (ap (λ l. past_in l b) same) ∙ there))
        (subst (λ n. IsReady s.past n hop.link) k.same
        (ready_back setting.net (plan_now setting older) (era older) b hop s.past s.duty (sym s.moved_is ∙ parts.0) (sym s.acts_is ∙ parts.1)
        (subst (λ n. backup_of (plan_numbered setting n) b ≡ Some hop) (sym k.same) is_hop)))

    link_at : (q : Moment) → IsIn q (chronicle setting (e ∷ x ∷ h)) → s0 < when q → link_has_failed (seen_of q.earlier) hop.link ≡ false
    link_at q here after =
        let k : InEra setting steps q = era_of q here after in
        let older : List Step = chronicle setting (k.x ∷ k.h) in
        let same = k.same in
        let there : Invariant setting older = now setting k.x k.h k.e k.comes in
        subst (λ (p : Moment). link_has_failed (seen_of p.earlier) hop.link ≡ false) (sym k.is)
        (not-true (link_has_failed (seen_of older) hop.link)
        (implied (is_present (plan_now setting older) hop.link && not (link_failed_now older hop.link)) (not (link_has_failed (seen_of older) hop.link))
        (there.core.census.links hop.link)
        (and_from (is_present (plan_now setting older) hop.link) (not (link_failed_now older hop.link))
        (subst (λ n. is_present (plan_numbered setting n) hop.link ≡ true) (sym k.same) right.1)
        (ap not (fewer (thing.Link hop.link) older steps k.part (omega (arith, same)) (more (thing.Link hop.link) hop_fine))))))

    last_hop : (first_ : Moment) → IsOldRound setting x h s0 first_ → (limit : ℕ)
        → IsOpenHop setting (top_of setting (x ∷ h) e) (era (chronicle setting (x ∷ h))) first_ limit plan.root hop.parent (end_at b hop)
    last_hop first_ round limit =
        let follows : follows_over plan hop.parent hop.link b ≡ true = backup_follows plan b hop.parent hop.link hop is_hop refl refl in
        record {
          follows = follows;
          alone = λ c is. alone setting.net plan fine.fits fine.rules hop.parent hop.link b c follows is;
          known = (within.1, fine.fits.backup_root);
          apart = λ same. not_both (nat_eq b plan.root) (eq-eqb b plan.root same) fine.apart;
          whole = λ q q_in started by. let after = since_first setting x h e s0 span first_ round.late q (behind q_in) started in
              (link_at q (behind q_in) after, (then_ q (behind q_in) after).3);
          ready = λ q q_in since by. ready_at q (behind q_in) (since_first setting x h e s0 span first_ round.late q (behind q_in) (behind since));
          lasts = λ q q_in since. hop_lasts setting x h e s0 span failed more spares b hop parent_fine self hop_fine q q_in
              (since_first setting x h e s0 span first_ round.late q q_in (behind since));
        }

    -- the way over the fallback, and on to other ends
    pub fallback_open : (first_ : Moment) → IsOldRound setting x h s0 first_ → (limit : ℕ)
        → limit ≤ when first_ + 2 * (setting.net.params.depth + 1) * greatest_delay setting.net → (ends : List End)
        → AreOpenHops setting (top_of setting (x ∷ h) e) (era (chronicle setting (x ∷ h))) first_ limit plan.root b ends
        → AreOpenHops setting (top_of setting (x ∷ h) e) (era (chronicle setting (x ∷ h))) first_ limit plan.root plan.root
        (way_of hop.parent (walk setting.net plan hop.parent) (end_at b hop ∷ ends))
    fallback_open first_ round limit soon ends base =
        let hs = walk setting.net plan hop.parent in
        let none : touches failed (things_of hs) ≡ false =
        things_fine failed hs (λ d is. on_way d (or_right (nat_eq d hop.parent) _ is)) (λ l is. on_links l (or_right (nat_eq l hop.link) _ is)) in
        let clear : Walks plan (IsClear setting.net plan failed) hop.parent hs =
        clear_walk plan setting.net failed fine.fits fine.rules hs hop.parent refl within.0 right.0 parent_fine none in
        let reach : is_root plan (end_of hop.parent hs) ≡ true = implied (is_member plan hop.parent) _ (fine.rules.reaches hop.parent within.0) right.0 in
        subst (λ z. AreOpenHops setting (top_of setting (x ∷ h) e) (era steps) first_ limit plan.root z (way_of hop.parent hs (end_at b hop ∷ ends)))
        (sym (eqb-true plan.root (end_of hop.parent hs) reach))
        (walk_open setting x h e s0 span kept late failed more spares hop.parent hs clear first_ round limit soon (end_at b hop ∷ ends)
        (last_hop first_ round limit, base))
