-- While the root lives and the backup root is on its backup, a round comes over the fallback to the backup root, and down the cut walk of a device behind it.
use Rattle.std.specs.Prelude.{◌≡◌, ℕ, suc, ◌+◌, ◌*◌, ◌<◌, ◌≤◌, true, false, ◌&&◌, List, [], ◌∷◌, length, Some, refl}
use Rattle.std.proofs.Common.{arith, ◌∙◌, ap, sym, subst}
use Rattle.std.proofs.lemmas.Bool.{eq-eqb}
use Rattle.sd_num.specs.Lists.{has}
use Rattle.sd_plan.specs.declared.topo.Thing.{Thing}
use Rattle.sd_plan.specs.declared.topo.Thing.TheVariants as thing
use Rattle.sd_plan.specs.topo.Network.{greatest_delay}
use Rattle.sd_plan.specs.declared.Hop.{Hop}
use Rattle.sd_plan.specs.declared.Plan.{Plan}
use Rattle.sd_plan.specs.declared.End.{End}
use Rattle.sd_plan.specs.Plans.{is_member, is_root, is_backup_root, backup_of}
use Rattle.sd_plan.specs.Walks.{walk, epath, end_of, on_walk}
use Rattle.sd_checker.specs.check_root.Roots.{fallback_devices, fallback_links}
use Rattle.sd_sched.specs.declared.Event.{Event}
use Rattle.sd_sched.specs.Events.{reference_of}
use Rattle.sd_history.specs.World.{Setting, fails}
use Rattle.sd_history.specs.Steps.{Step, acts_in}
use Rattle.sd_history.specs.Chronicle.{chronicle}
use Rattle.sd_history.proofs.Among.{later}
use Rattle.sd_history.proofs.Known.{admitted_up_is_known}
use Rattle.sd_safety.specs.invariant.Bounds.{depth, delay, rounds_gap}
use Rattle.sd_safety.specs.invariant.Eras.{era, plan_now, all_started, is_among, touches, failed_now, heard_at, is_old, is_behind, is_ordinary, on_primary, hit, root_failed}
use Rattle.sd_safety.proofs.invariant.Facts.{IsSound}
use Rattle.sd_safety.proofs.invariant.Sides.{not_both}
use Rattle.sd_safety.specs.messages.Moments.{Moment, when, IsIn}
use Rattle.sd_safety.proofs.waits.Standing.{sound}
use Rattle.sd_safety.proofs.silences.FallbackWay.{falls, the_hop}
use Rattle.sd_safety.proofs.silences.Phases.{touched_less}
use Rattle.sd_safety.proofs.silences.SoundWays.{top_of, map_walks}
use Rattle.sd_safety.proofs.silences.WalkWays.{Walks, end_at, way_of, way_length, way_keeps, begins, walk_length}
use Rattle.sd_safety.proofs.windows.Committing.{staged_plan}
use Rattle.sd_safety.proofs.entering.States as states
use Rattle.sd_safety.specs.rounds.Rounds.{IsOpenHop, AreOpenHops}
use Rattle.sd_safety.specs.rounds.Spans.{IsSpan}
use Rattle.sd_safety.proofs.rounds.Hops.{IsOldRound, lasting_hop}
use Rattle.sd_safety.proofs.rounds.NewHops.{open_ways}
use Rattle.sd_safety.proofs.rounds.Silent.{IsSilent, silent_by}
use Rattle.sd_safety.proofs.rounds.Sources.{root_leads, staged_is}
use Rattle.sd_safety.proofs.behind.Silent.{behind_parts}
use Rattle.sd_safety.proofs.spans.SilenceStarts.{idle_of}
use Rattle.sd_safety.proofs.spans.FallbackWay.{fallback_open}
use Rattle.sd_safety.proofs.spans.Staged.{is_staged}
use Rattle.sd_safety.proofs.spans.PathHears.{not_root, IsSpared, spared, acts}
use Rattle.sd_plan.proofs.CutOff.{cut_off}
use Rattle.sd_safety.proofs.feeds.Cuts.{IsCutClear, CutWalk, cut_walk_of}
use Rattle.sd_safety.proofs.feeds.Ready.{cut_lasting}
use Rattle.sd_safety.proofs.feeds.Since.{IsOnBackup}

-- where the event fails nothing of the fallback, nor of the cut path of the device
module _ (setting : Setting) (x : Event) (h : List Event) (e : Event) (s0 : ℕ) (span : IsSpan setting x h e s0)
    (kept : root_failed setting (chronicle setting (x ∷ h)) ≡ false) (late : all_started setting (chronicle setting (x ∷ h)) < reference_of e)
    (failed : List Thing) (more : (y : Thing) → is_among failed y ≡ false → is_among (failed_now (chronicle setting (x ∷ h))) y ≡ false) (spares : (y : Thing)
    → is_among failed y ≡ false → fails y e ≡ false)
    (devices : (d : ℕ) → has (fallback_devices setting.net (plan_now setting (chronicle setting (x ∷ h)))) d ≡ true → is_among failed (thing.Device d) ≡ false)
    (links : (l : ℕ) → has (fallback_links setting.net (plan_now setting (chronicle setting (x ∷ h)))) l ≡ true → is_among failed (thing.Link l) ≡ false)
    (root_spared : is_among failed (thing.Device (plan_now setting (chronicle setting (x ∷ h))).root) ≡ false)
    (self : is_among failed (thing.Device (plan_now setting (chronicle setting (x ∷ h))).backup_root) ≡ false)
    (then_ : (q : Moment) → IsIn q (chronicle setting (e ∷ x ∷ h)) → s0 < when q
    → IsOnBackup (chronicle setting (x ∷ h)) q (plan_now setting (chronicle setting (x ∷ h))).backup_root) where
  abbrev steps : List Step
  steps = chronicle setting (x ∷ h)

  abbrev plan : Plan
  plan = plan_now setting (chronicle setting (x ∷ h))

  abbrev b : ℕ
  b = (plan_now setting (chronicle setting (x ∷ h))).backup_root

  fine : IsSound setting.net (plan_now setting (chronicle setting (x ∷ h)))
  fine = sound setting x h e span.comes

  -- a hop of a cut walk is open to each round
  cut_hop : (y : ℕ) (hop : Hop) → IsCutClear setting.net (plan_now setting (chronicle setting (x ∷ h))) failed y hop → (first : Moment)
      → IsOldRound setting x h s0 first → (limit : ℕ)
      → limit ≤ when first + 2 * (setting.net.params.depth + 1) * greatest_delay setting.net
      → IsOpenHop setting (top_of setting (x ∷ h) e) (era (chronicle setting (x ∷ h))) first limit
      (plan_now setting (chronicle setting (x ∷ h))).root hop.parent (end_at y hop)
  cut_hop y hop clear =
      lasting_hop setting x h e s0 plan.root (root_leads setting x h e s0 span kept) y hop
      (cut_lasting setting x h e s0 span (λ q here after. (then_ q here after).0) failed more spares plan.root y hop clear
      (λ same. not_both (is_root plan y) (eq-eqb plan.root y (sym same)) clear.other))

  module _ (d : ℕ) (behind_ : is_behind setting.net (plan_now setting (chronicle setting (x ∷ h))) d ≡ true) (old : is_old (chronicle setting (x ∷ h)) d ≡ true)
      (primary : on_primary (chronicle setting (x ∷ h)) d ≡ true)
      (self_d : is_among failed (thing.Device d) ≡ false) (missed : touches failed (epath setting.net (plan_now setting (chronicle setting (x ∷ h))) d) ≡ false)
      (heard : heard_at (chronicle setting (x ∷ h)) d ≤ s0) where
    own : IsSpared setting (chronicle setting (x ∷ h)) d
    own = spared setting x h e span.comes d old

    known : d < length setting.net.devices
    known = admitted_up_is_known setting (x ∷ h) span.comes.clean.is.0 d own.up

    parts : (is_backup_root (plan_now setting (chronicle setting (x ∷ h))) d ≡ false)
        × (on_walk setting.net (plan_now setting (chronicle setting (x ∷ h))) d (plan_now setting (chronicle setting (x ∷ h))).backup_root ≡ true)
    parts = behind_parts (is_member plan d) (is_backup_root plan d) (on_walk setting.net plan d b) behind_

    unhit : hit setting (chronicle setting (x ∷ h)) d ≡ false
    unhit = touched_less (is_among (failed_now steps)) (is_among failed) (epath setting.net plan d) more missed

    silent : IsSilent setting x h s0 d
    silent =
        record {
          old = old;
          heard = heard;
          staged = λ commit. (
            known,
            is_staged setting x h e span.comes late d commit own.up own.member (ap (λ c. c && is_ordinary plan d) unhit),
            not_root steps (staged_plan setting steps) d
                (subst (λ z. acts_in steps z ≡ true) (sym (staged_is setting x h e s0 span kept commit) ∙ states.root_is setting (x ∷ h) e span.comes commit)
                (acts setting x h e s0 span kept late failed more spares)) (idle_of steps d primary),
          );
        }

    cut_walk_ : CutWalk setting.net (plan_now setting (chronicle setting (x ∷ h))) failed d (walk setting.net (plan_now setting (chronicle setting (x ∷ h))) d)
    cut_walk_ = cut_walk_of setting.net plan failed fine d known own.member parts.0 self_d missed parts.1

    short_by : (a c l w n : ℕ) → a ≡ c + suc l → c ≤ n → l + 1 ≤ w → w ≤ n → a ≤ 2 * n
    short_by a c l w n is one two three = omega (arith, is, one, two, three)

    length_by : (a l : ℕ) → a ≡ l + 0 → a ≡ l
    length_by a l is = omega (arith, is)

    fed_by : (hop : Hop) → backup_of plan b ≡ Some hop → (hs : List Hop) → Walks plan (IsCutClear setting.net plan failed) d hs → end_of d hs ≡ b
        → length hs + 1 ≤ length (walk setting.net plan d)
        → reference_of e ≤ s0 + rounds_gap setting.net + 2 * depth setting.net * delay setting.net
    fed_by hop is_hop [] clear ends short = absurd (not_both (is_backup_root plan d) (eq-eqb b d (sym ends)) parts.0)
    fed_by hop is_hop (k ∷ ks) clear ends short =
        let up : List Hop = walk setting.net plan hop.parent in
        let cuts : List End = way_of d (k ∷ ks) [] in
        silent_by setting x h e s0 plan.root (root_leads setting x h e s0 span kept) d (2 * depth setting.net) silent
        (record {
          way = way_of hop.parent up (end_at b hop ∷ cuts);
          last = end_at d k;
          among = way_keeps hop.parent up (end_at b hop ∷ cuts) (end_at d k) (later (begins d k ks));
          device = refl;
          short = short_by (length (way_of hop.parent up (end_at b hop ∷ cuts))) (length up) (length (k ∷ ks)) (length (walk setting.net plan d))
              (depth setting.net)
              (way_length hop.parent up (end_at b hop ∷ cuts)
              ∙ ap (λ n. length up + suc n) (length_by (length cuts) (length (k ∷ ks)) (way_length d (k ∷ ks) [])))
              (walk_length setting.net plan hop.parent) short (walk_length setting.net plan d);
          hops = λ first round limit soon.
              fallback_open setting x h e s0 span kept late failed more spares devices links root_spared self then_ hop is_hop first round limit soon cuts
              (subst (λ z. AreOpenHops setting (top_of setting (x ∷ h) e) (era steps) first limit plan.root z cuts) ends
              (open_ways setting (top_of setting (x ∷ h) e) plan (era steps) first limit plan.root d (k ∷ ks) []
              (map_walks plan _ _ (λ z j is. cut_hop z j is first round limit soon) (k ∷ ks) d clear) tt));
        }) (least (depth setting.net)) (most (depth setting.net))
      where
        least : (n : ℕ) → n ≤ 2 * n
        least n = omega arith

        most : (n : ℕ) → 2 * n ≤ 2 * (n + 1)
        most n = omega arith

    pub fed_silent : reference_of e ≤ s0 + rounds_gap setting.net + 2 * depth setting.net * delay setting.net
    fed_silent =
        let hop = the_hop (backup_of plan b) (falls setting.net plan fine.guarded.structure fine.fits.backup_root) in
        fed_by hop.0 hop.1 (cut_off plan (walk setting.net plan d)) cut_walk_.clear cut_walk_.ends cut_walk_.short
