-- So each round of the root comes down the path to the backup root, and on down the cut walk to a device behind it.
use Rattle.std.specs.Prelude.{◌≡◌, ℕ, ◌+◌, ◌*◌, ◌<◌, ◌≤◌, true, false, ◌&&◌, List, [], ◌∷◌, length, Option, Some, refl}
use Rattle.std.proofs.Common.{arith, ◌∙◌, ap, sym, subst}
use Rattle.std.proofs.lemmas.Bool.{eqb-true, eq-eqb}
use Rattle.sd_plan.specs.topo.Network.{greatest_delay}
use Rattle.sd_plan.specs.declared.topo.Thing.{Thing}
use Rattle.sd_plan.specs.declared.topo.Thing.TheVariants as thing
use Rattle.sd_num.specs.Lists.{map_or}
use Rattle.sd_plan.specs.declared.Duty.{Duty}
use Rattle.sd_plan.specs.declared.End.{End}
use Rattle.sd_plan.specs.declared.Hop.{Hop}
use Rattle.sd_plan.specs.declared.Plan.{Plan}
use Rattle.sd_plan.specs.Plans.{is_member, is_root, primary_of}
use Rattle.sd_plan.specs.Walks.{walk, end_of}
use Rattle.sd_device.specs.Calls.{Past}
use Rattle.sd_sched.specs.declared.Event.{Event}
use Rattle.sd_sched.specs.Events.{reference_of}
use Rattle.sd_history.specs.World.{Setting, is_thing, fails, is_up, plan_numbered}
use Rattle.sd_history.specs.Steps.{Step, seen_of, acts_in}
use Rattle.sd_history.specs.Chronicle.{past_in, chronicle}
use Rattle.sd_history.proofs.Among.{Among}
use Rattle.sd_history.proofs.Given.{some_is}
use Rattle.sd_history.proofs.Known.{admitted_up_is_known}
use Rattle.sd_safety.specs.invariant.Bounds.{depth, delay, rounds_gap}
use Rattle.sd_safety.specs.invariant.Eras.{era, plan_now, all_started, failed_now, is_among, heard_at, is_old, is_new, is_ordinary, on_primary, hit, root_failed}
use Rattle.sd_safety.proofs.invariant.Facts.{IsSound}
use Rattle.sd_safety.proofs.invariant.Sides.{implied, not_both}
use Rattle.sd_safety.specs.invariant.Coming.{IsNextEvent}
use Rattle.sd_safety.specs.messages.Moments.{Moment, when, IsIn}
use Rattle.sd_safety.specs.messages.Rounds.{IsReady}
use Rattle.sd_safety.proofs.waits.Waits.{Stands, old_stands}
use Rattle.sd_safety.proofs.waits.Standing.{sound, is_up_then}
use Rattle.sd_safety.proofs.silences.Phases.{fewer}
use Rattle.sd_safety.proofs.silences.States.{ready_of, old_unless_new}
use Rattle.sd_safety.proofs.silences.SoundWays.{top_of, map_walks}
use Rattle.sd_safety.proofs.silences.WalkWays.{Walks, end_at, way_of, way_length, way_keeps, begins, walk_length}
use Rattle.sd_safety.proofs.windows.Committing.{staged_plan}
use Rattle.sd_safety.proofs.entering.States as states
use Rattle.sd_safety.specs.rounds.Rounds.{AreOpenHops}
use Rattle.sd_safety.specs.rounds.Spans.{IsSpan}
use Rattle.sd_safety.proofs.rounds.Hops.{IsOldRound, IsLasting, lasting_hop}
use Rattle.sd_safety.proofs.rounds.NewHops.{open_ways}
use Rattle.sd_safety.proofs.rounds.Places.{InEra, of_era, ready_then}
use Rattle.sd_safety.proofs.rounds.Leaders.{IsLeader}
use Rattle.sd_safety.proofs.rounds.Silent.{IsSilent, silent_by}
use Rattle.sd_safety.proofs.rounds.Sources.{root_leads, staged_is}
use Rattle.sd_safety.proofs.behind.Mends.{fails_nothing}
use Rattle.sd_safety.proofs.spans.SilenceStarts.{idle_of}
use Rattle.sd_safety.proofs.spans.Staged.{is_staged}
use Rattle.sd_safety.proofs.spans.PathHears.{not_root, IsSpared, spared, acts}
use Rattle.sd_safety.proofs.feeds.Cuts.{IsCutClear}
use Rattle.sd_safety.proofs.feeds.Ready.{cut_lasting as lasting_cut}
use Rattle.sd_safety.proofs.stragglers.Stragglers.{is_broken, IsFed}
use Rattle.sd_safety.proofs.stragglers.PathWholeSince.{IsPathHop, other, unfailed, kept, mended_since, era_at, none_fails, link_at, span, on_path, stands_on, whole_walk}

module _ (setting : Setting) (x : Event) (h : List Event) (e : Event) (comes : IsNextEvent setting (x ∷ h) e)
    (old : is_old (chronicle setting (x ∷ h)) (plan_now setting (chronicle setting (x ∷ h))).backup_root ≡ true)
    (on : on_primary (chronicle setting (x ∷ h)) (plan_now setting (chronicle setting (x ∷ h))).backup_root ≡ true)
    (fed : IsFed setting (chronicle setting (x ∷ h))) (s0 : ℕ) (since : when fed.moment ≤ s0)
    (started : all_started setting (chronicle setting (x ∷ h)) ≤ s0) (late : all_started setting (chronicle setting (x ∷ h)) < reference_of e) where
  abbrev steps : List Step
  steps = chronicle setting (x ∷ h)

  abbrev plan : Plan
  plan = plan_now setting (chronicle setting (x ∷ h))

  abbrev b : ℕ
  b = (plan_now setting (chronicle setting (x ∷ h))).backup_root

  abbrev top : Moment
  top = top_of setting (x ∷ h) e

  fine : IsSound setting.net (plan_now setting (chronicle setting (x ∷ h)))
  fine = sound setting x h e comes

  kept_ : root_failed setting (chronicle setting (x ∷ h)) ≡ false
  kept_ = kept setting x h e comes old on fed

  span_ : IsSpan setting x h e s0
  span_ = span setting x h e comes old on fed s0 since (λ first. started)

  leads : IsLeader setting x h e s0 (plan_now setting (chronicle setting (x ∷ h))).root
  leads = root_leads setting x h e s0 span_ kept_

  -- a moment since is of the era
  era_of : (q : Moment) → IsIn q (chronicle setting (e ∷ x ∷ h)) → s0 < when q → InEra setting (chronicle setting (x ∷ h)) q
  era_of q here after = of_era setting x h e s0 span_ q here after (era_at setting x h e comes old on fed s0 since q here after)

  spares : (y : Thing) → is_among (failed_now (chronicle setting (x ∷ h))) y ≡ false → fails y e ≡ false
  spares y none = ap (λ o. is_thing o y) (fails_nothing setting e (x ∷ h) comes.clean (mended_since setting x h e comes old on fed))

  no_root : (y : ℕ) → is_root (plan_now setting (chronicle setting (x ∷ h))) y ≡ false → y ≡ (plan_now setting (chronicle setting (x ∷ h))).root → ⊥
  no_root y low same = not_both (is_root plan y) (eq-eqb plan.root y (sym same)) low

  -- a hop of the path of the backup root
  module _ (y : ℕ) (hop : Hop)
      (p : IsPathHop setting.net (plan_now setting (chronicle setting (x ∷ h))) (on_path setting x h e comes old on fed) (is_broken fed.moment.earlier) y hop)
      (q : Moment) (k : InEra setting (chronicle setting (x ∷ h)) q) where
    abbrev older : List Step
    older = chronicle setting (k.x ∷ k.h)

    member_then : is_member (plan_now setting (chronicle setting (k.x ∷ k.h))) y ≡ true
    member_then = subst (λ n. is_member (plan_numbered setting n) y ≡ true) (sym k.same) p.clear.member

    self_then : is_among (failed_now (chronicle setting (k.x ∷ k.h))) (thing.Device y) ≡ false
    self_then = fewer (thing.Device y) older steps k.part (let same_ = k.same in omega (arith, same_)) (unfailed setting x h e comes old on fed y p.self)

    path_up : is_up (seen_of (chronicle setting (k.x ∷ k.h))) y ≡ true
    path_up = is_up_then setting k.x k.h k.e k.comes y p.clear.known member_then self_then k.late

    path_ready : is_new (chronicle setting (k.x ∷ k.h)) y ≡ false → (past : Past) → past_in (chronicle setting (k.x ∷ k.h)) y ≡ Some past
        → IsReady past (era (chronicle setting (k.x ∷ k.h))) hop.link
    path_ready not_new past there =
        let old_y : is_old older y ≡ true = old_unless_new setting k.x k.h k.e k.comes y member_then self_then path_up not_new in
        let s : Stands setting older y = old_stands setting (k.x ∷ k.h) y old_y in
        let put = stands_on setting x h e comes old on fed y p.on_it p.clear.other older k.part s.past s.there
        (ap (λ (o : Option Duty). map_or o 0 (λ u. u.epoch)) s.duty ∙ k.same) in
        subst (λ z. IsReady z (era older) hop.link) (some_is (sym s.there ∙ there))
        (ready_of setting.net (plan_now setting older) (era older) y hop s.past s.duty put.0 put.1
        (subst (λ n. primary_of (plan_numbered setting n) y ≡ Some hop) (sym k.same) p.clear.primary))

  path_lasting : (y : ℕ) (hop : Hop)
      → IsPathHop setting.net (plan_now setting (chronicle setting (x ∷ h))) (on_path setting x h e comes old on fed) (is_broken fed.moment.earlier) y hop
      → IsLasting setting x h e s0 (plan_now setting (chronicle setting (x ∷ h))).root y hop
  path_lasting y hop p =
      record {
        primary = p.clear.primary;
        other = no_root y p.clear.other;
        known = p.clear.known;
        within = p.clear.within;
        whole = λ q here after. (
          link_at setting x h e comes old on fed s0 since q here after hop.link p.link,
          subst (λ (r : Moment). is_up (seen_of r.earlier) y ≡ true) (sym (era_of q here after).is) (path_up y hop p q (era_of q here after)),
        );
        ready = λ q here after not_new. let k : InEra setting steps q = era_of q here after in
            ready_then setting steps q k y hop.link (path_ready y hop p q k (not_new k));
        lasts = λ q here after. (
          none_fails setting x h e comes old on fed s0 since q here after (thing.Device hop.parent),
          none_fails setting x h e comes old on fed s0 since q here after (thing.Device y),
          none_fails setting x h e comes old on fed s0 since q here after (thing.Link hop.link),
        );
      }

  -- a hop of a cut walk of which nothing failed
  pub cut_lasting : (y : ℕ) (hop : Hop) → IsCutClear setting.net (plan_now setting (chronicle setting (x ∷ h))) (failed_now (chronicle setting (x ∷ h))) y hop
      → IsLasting setting x h e s0 (plan_now setting (chronicle setting (x ∷ h))).root y hop
  cut_lasting y hop clear =
      lasting_cut setting x h e s0 span_ (λ q here after. era_at setting x h e comes old on fed s0 since q here after) (failed_now steps)
      (λ z none. none) spares plan.root y hop clear (no_root y clear.other)

  -- The device

  reach : is_root plan (end_of b (walk setting.net plan b)) ≡ true
  reach = implied (is_member plan b) _ (fine.rules.reaches b fine.fits.backup_root) fine.backup_member

  self_b : is_among (failed_now (chronicle setting (x ∷ h))) (thing.Device b) ≡ false
  self_b = (spared setting x h e comes b old).self

  module _ (d : ℕ) (old_d : is_old (chronicle setting (x ∷ h)) d ≡ true) (on_d : on_primary (chronicle setting (x ∷ h)) d ≡ true)
      (unhit : (hit setting (chronicle setting (x ∷ h)) d && is_ordinary (plan_now setting (chronicle setting (x ∷ h))) d) ≡ false)
      (heard : heard_at (chronicle setting (x ∷ h)) d ≤ s0) where
    own : IsSpared setting (chronicle setting (x ∷ h)) d
    own = spared setting x h e comes d old_d

    silent : IsSilent setting x h s0 d
    silent =
        record {
          old = old_d;
          heard = heard;
          staged = λ commit. (
            admitted_up_is_known setting (x ∷ h) comes.clean.is.0 d own.up,
            is_staged setting x h e comes late d commit own.up own.member unhit,
            not_root steps (staged_plan setting steps) d
                (subst (λ z. acts_in steps z ≡ true) (sym (staged_is setting x h e s0 span_ kept_ commit) ∙ states.root_is setting (x ∷ h) e comes commit)
                (acts setting x h e s0 span_ kept_ late (failed_now steps) (λ y none. none) spares)) (idle_of steps d on_d),
          );
        }

    way_open : (hs : List Hop) → Walks plan (IsLasting setting x h e s0 (plan_now setting (chronicle setting (x ∷ h))).root) d hs → end_of d hs ≡ b
        → (first : Moment) → IsOldRound setting x h s0 first → (limit : ℕ)
        → limit ≤ when first + 2 * (setting.net.params.depth + 1) * greatest_delay setting.net
        → AreOpenHops setting (top_of setting (x ∷ h) e) (era (chronicle setting (x ∷ h))) first limit plan.root plan.root
        (way_of b (walk setting.net plan b) (way_of d hs []))
    way_open hs cut ends first round limit soon =
        let down : AreOpenHops setting top (era steps) first limit plan.root b (way_of d hs []) =
        subst (λ z. AreOpenHops setting top (era steps) first limit plan.root z (way_of d hs [])) ends
        (open_ways setting top plan (era steps) first limit plan.root d hs []
        (map_walks plan _ _ (λ z hop l. lasting_hop setting x h e s0 plan.root leads z hop l first round limit soon) hs d cut) tt) in
        subst (λ z. AreOpenHops setting top (era steps) first limit plan.root z (way_of b (walk setting.net plan b) (way_of d hs [])))
        (sym (eqb-true plan.root (end_of b (walk setting.net plan b)) reach))
        (open_ways setting top plan (era steps) first limit plan.root b (walk setting.net plan b) (way_of d hs [])
        (map_walks plan _ _ (λ z hop p. lasting_hop setting x h e s0 plan.root leads z hop (path_lasting z hop p) first round limit soon)
        (walk setting.net plan b) b (whole_walk setting x h e comes old on fed self_b)) down)

    -- the way ends at the device
    record Ends (hs : List Hop) : Type 0 where
      last : End
      among : Among last (way_of b (walk setting.net plan b) (way_of d hs []))
      device : last.device ≡ d

    root_not : is_root (plan_now setting (chronicle setting (x ∷ h))) b ≡ false
    root_not = other setting x h e comes old on fed

    at_backup_root : (ws : List Hop) → is_root plan (end_of b ws) ≡ true → (last : End) × Among last (way_of b ws []) × (last.device ≡ b)
    at_backup_root [] ends = absurd (not_both (is_root plan b) ends root_not)
    at_backup_root (hop ∷ ws) ends = (end_at b hop, begins b hop ws, refl)

    ends_at_it : (hs : List Hop) → end_of d hs ≡ b → Ends hs
    ends_at_it [] ends = let e_ = at_backup_root (walk setting.net plan b) reach in record { last = e_.0; among = e_.1; device = e_.2 ∙ sym ends }
    ends_at_it (hop ∷ hs) ends =
        record { last = end_at d hop; among = way_keeps b (walk setting.net plan b) (way_of d (hop ∷ hs) []) (end_at d hop) (begins d hop hs); device = refl }

    short_by : (a c l n : ℕ) → a ≡ c + l → c ≤ n → l ≤ n → a ≤ 2 * n
    short_by a c l n is one two = omega (arith, is, one, two)

    length_by : (a l n : ℕ) → a ≡ l + 0 → l ≤ n → a ≤ n
    length_by a l n is le = omega (arith, is, le)

    least : (n : ℕ) → n ≤ 2 * n
    least n = omega arith

    most : (n : ℕ) → 2 * n ≤ 2 * (n + 1)
    most n = omega arith

    pub comes_down : (hs : List Hop) → Walks plan (IsLasting setting x h e s0 (plan_now setting (chronicle setting (x ∷ h))).root) d hs → end_of d hs ≡ b
        → length hs ≤ depth setting.net → reference_of e ≤ s0 + rounds_gap setting.net + 2 * depth setting.net * delay setting.net
    comes_down hs cut ends short =
        let at : Ends hs = ends_at_it hs ends in
        silent_by setting x h e s0 plan.root leads d (2 * depth setting.net) silent
        (record {
          way = way_of b (walk setting.net plan b) (way_of d hs []);
          last = at.last;
          among = at.among;
          device = at.device;
          short =
              short_by (length (way_of b (walk setting.net plan b) (way_of d hs []))) (length (walk setting.net plan b)) (length (way_of d hs []))
              (depth setting.net) (way_length b (walk setting.net plan b) (way_of d hs []))
              (walk_length setting.net plan b) (length_by (length (way_of d hs [])) (length hs) (depth setting.net) (way_length d hs []) short);
          hops = λ first round limit soon. way_open hs cut ends first round limit soon;
        }) (least (depth setting.net)) (most (depth setting.net))
