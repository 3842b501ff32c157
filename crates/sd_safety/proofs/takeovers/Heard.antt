-- A device behind the backup root, on its primary and not hit, heard no earlier than each clean round of the backup root was emitted that had time to come to
-- it.
use Rattle.std.specs.Prelude.{◌≡◌, ℕ, ◌+◌, ◌*◌, ◌<◌, ◌≤◌, true, false, List, [], ◌∷◌, length, is_some}
use Rattle.std.proofs.Common.{arith, ◌∙◌, ap, sym, inl}
use Rattle.std.proofs.lemmas.Bool.{eq-eqb}
use Rattle.std.proofs.Math.Nat.{mul-le-mul_right}
use Rattle.sd_plan.specs.declared.topo.Thing.{Thing}
use Rattle.sd_plan.specs.declared.topo.Thing.TheVariants as thing
use Rattle.sd_plan.specs.topo.Network.{greatest_delay}
use Rattle.sd_plan.specs.declared.Hop.{Hop}
use Rattle.sd_plan.specs.declared.Plan.{Plan}
use Rattle.sd_plan.specs.declared.End.{End}
use Rattle.sd_plan.specs.Plans.{is_member, is_backup_root}
use Rattle.sd_plan.specs.Walks.{walk, epath, end_of, on_walk}
use Rattle.sd_device.specs.declared.msg.Message.{Message}
use Rattle.sd_device.specs.Calls.{Receive}
use Rattle.sd_sched.specs.declared.Event.{Event}
use Rattle.sd_sched.specs.Events.{reference_of}
use Rattle.sd_history.specs.World.{Setting, fails}
use Rattle.sd_history.specs.Steps.{Step, seen_of, acts_in}
use Rattle.sd_history.specs.Chronicle.{chronicle}
use Rattle.sd_history.proofs.Known.{admitted_up_is_known}
use Rattle.sd_history.specs.Rounds.{is_spoiled}
use Rattle.sd_safety.proofs.invariant.Parts.{AllButStart, premises_of}
use Rattle.sd_safety.specs.invariant.Bounds.{depth, delay}
use Rattle.sd_safety.specs.invariant.Eras.{era, plan_now, is_among, touches, failed_now, is_old, is_behind, hears, heard_at}
use Rattle.sd_safety.specs.invariant.Coming.{IsNextEvent}
use Rattle.sd_safety.proofs.invariant.Sides.{not_both}
use Rattle.sd_safety.specs.messages.Moments.{behind, IsChronicle, Moment, upto, when, IsIn, Emits}
use Rattle.sd_safety.proofs.messages.Tails.{tail_chronicle, before_is_earlier, tail_trans}
use Rattle.sd_safety.proofs.messages.Flowing.{HeardBy}
use Rattle.sd_safety.proofs.waits.Standing.{sound}
use Rattle.sd_safety.proofs.silences.Feeding.{below_top}
use Rattle.sd_safety.proofs.silences.Hearing.{heard_from}
use Rattle.sd_safety.proofs.silences.SoundWays.{top_of}
use Rattle.sd_safety.proofs.silences.WalkWays.{Walks, end_at, way_of, way_length, begins, walk_length}
use Rattle.sd_safety.specs.rounds.Rounds.{IsRound}
use Rattle.sd_safety.proofs.rounds.Along.{heard_along}
use Rattle.sd_safety.proofs.behind.Silent.{behind_parts}
use Rattle.sd_safety.proofs.spans.PathHears.{IsSpared, spared}
use Rattle.sd_plan.proofs.CutOff.{cut_off}
use Rattle.sd_safety.proofs.feeds.Cuts.{IsCutClear, CutWalk, cut_walk_of}
use Rattle.sd_safety.proofs.takeovers.Acted.{does_is}
use Rattle.sd_safety.proofs.takeovers.Places.{took, all_chronicle, stood}
use Rattle.sd_safety.proofs.takeovers.Source.{spacing, rule, terms, emits_in_era, newest}
use Rattle.sd_safety.proofs.takeovers.Open.{open_way}

module _ (setting : Setting) (x : Event) (h : List Event) (e : Event) (comes : IsNextEvent setting (x ∷ h) e)
    (old : is_old (chronicle setting (x ∷ h)) (plan_now setting (chronicle setting (x ∷ h))).backup_root ≡ true)
    (acts : acts_in (chronicle setting (x ∷ h)) (plan_now setting (chronicle setting (x ∷ h))).backup_root ≡ true) (failed : List Thing)
    (more : (y : Thing) → is_among failed y ≡ false → is_among (failed_now (chronicle setting (x ∷ h))) y ≡ false) (spares : (y : Thing)
    → is_among failed y ≡ false → fails y e ≡ false) (d : ℕ)
    (behind_ : is_behind setting.net (plan_now setting (chronicle setting (x ∷ h))) d ≡ true) (old_d : is_old (chronicle setting (x ∷ h)) d ≡ true)
    (self : is_among failed (thing.Device d) ≡ false)
    (missed : touches failed (epath setting.net (plan_now setting (chronicle setting (x ∷ h))) d) ≡ false) where
  abbrev steps : List Step
  steps = chronicle setting (x ∷ h)

  abbrev plan : Plan
  plan = plan_now setting (chronicle setting (x ∷ h))

  abbrev b : ℕ
  b = (plan_now setting (chronicle setting (x ∷ h))).backup_root

  abbrev start : Moment
  start = (took setting x h e comes old acts).moment

  abbrev top : Moment
  top = top_of setting (x ∷ h) e

  parts : (is_backup_root (plan_now setting (chronicle setting (x ∷ h))) d ≡ false)
      × (on_walk setting.net (plan_now setting (chronicle setting (x ∷ h))) d (plan_now setting (chronicle setting (x ∷ h))).backup_root ≡ true)
  parts = behind_parts (is_member plan d) (is_backup_root plan d) (on_walk setting.net plan d b) behind_

  cut_walk : CutWalk setting.net (plan_now setting (chronicle setting (x ∷ h))) failed d (walk setting.net (plan_now setting (chronicle setting (x ∷ h))) d)
  cut_walk =
      let own : IsSpared setting steps d = spared setting x h e comes d old_d in
      cut_walk_of setting.net plan failed (sound setting x h e comes) d
      (admitted_up_is_known setting (x ∷ h) comes.clean.is.0 d own.up) own.member parts.0 self missed parts.1

  -- one clean round, from the takeover on
  module _ (first : Moment) (here : IsIn first (chronicle setting (x ∷ h))) (from : IsIn start (upto first)) (m : Message) (emits : Emits first b m)
      (fresh : is_spoiled (seen_of (chronicle setting (e ∷ x ∷ h))) m.stamp.term m.stamp.round ≡ false)
      (before : when first + depth setting.net * delay setting.net < reference_of e) where
    soon : when first + depth setting.net * delay setting.net ≤ when first + 2 * (setting.net.params.depth + 1) * greatest_delay setting.net
    soon = let le : depth setting.net * greatest_delay setting.net ≤ 2 * (setting.net.params.depth + 1) * greatest_delay setting.net =
        mul-le-mul_right (greatest_delay setting.net) (least (depth setting.net)) in omega (arith, le)
      where
        least : (n : ℕ) → n ≤ 2 * (n + 1)
        least n = omega arith

    round : IsRound setting top b (era (chronicle setting (x ∷ h))) first (when first + depth setting.net * delay setting.net)
    round =
        let premises : AllButStart setting (seen_of (chronicle setting (e ∷ x ∷ h))) =
        premises_of setting (seen_of (chronicle setting (e ∷ x ∷ h))) comes.clean.premises in
        record {
          chronicle_ = all_chronicle setting x h e comes old acts;
          delay = premises.delay;
          renew = premises.renew;
          life = (terms setting x h e comes old acts).life;
          spacing = spacing setting x h e comes old acts;
          rule = rule setting x h e comes old acts;
          here = here;
          message = m;
          emits = emits;
          epoch_is = emits_in_era setting x h e comes old acts first here from m emits;
          clean = fresh;
          before = before;
          soon = soon;
          newest = λ q q_in y n two own. newest setting x h e comes old acts first here from m emits q q_in y n two;
          current = λ q q_in started by. inl (sym (stood setting x h e comes old acts q (behind q_in) (tail_trans from started)).0);
        }

    by_walk : (hs : List Hop) → Walks plan (IsCutClear setting.net plan failed) d hs → end_of d hs ≡ b → length hs + 1 ≤ length (walk setting.net plan d)
        → when first ≤ heard_at (chronicle setting (x ∷ h)) d
    unfolding round
    by_walk [] clear ends short = absurd (not_both (is_backup_root plan d) (eq-eqb b d (sym ends)) parts.0)
    by_walk (k ∷ ks) clear ends short =
        let way : List End = way_of d (k ∷ ks) [] in
        let fits : when first + length way * greatest_delay setting.net ≤ when first + depth setting.net * delay setting.net =
        let le : length way * greatest_delay setting.net ≤ depth setting.net * greatest_delay setting.net =
        mul-le-mul_right (greatest_delay setting.net)
        (short_by (length way) (length (k ∷ ks)) (length (walk setting.net plan d)) (depth setting.net) (way_length d (k ∷ ks) []) short
        (walk_length setting.net plan d)) in omega (arith, le) in
        let by : HeardBy (upto top) m.stamp (era steps) first (when first + length way * greatest_delay setting.net) d =
        heard_along setting top b (era steps) first (when first + depth setting.net * delay setting.net) round way (end_at d k) (begins d k ks) fits
        (open_way setting x h e comes old acts failed more spares d (k ∷ ks) clear ends first from (when first + depth setting.net * delay setting.net)) in
        heard_since by (in_time by.in_time fits)
      where
        short_by : (a l w n : ℕ) → a ≡ l + 0 → l + 1 ≤ w → w ≤ n → a ≤ n
        short_by a l w n is one two = omega (arith, is, one, two)

        in_time : {w a c : ℕ} → w ≤ a → a ≤ c → w ≤ c
        in_time one two = omega (arith, one, two)

        heard_since : {limit : ℕ} (by : HeardBy (upto top) m.stamp (era steps) first limit d)
            → when by.moment ≤ when first + depth setting.net * delay setting.net → when first ≤ heard_at (chronicle setting (x ∷ h)) d
        heard_since by soon_ =
            let all : IsChronicle setting (chronicle setting (e ∷ x ∷ h)) = all_chronicle setting x h e comes old acts in
            let took_it = by.hears.takes in
            let goes : when first ≤ when by.moment = before_is_earlier setting first by.moment (tail_chronicle setting by.is_in all) by.since in
            let at : when by.moment ≤ heard_at steps d =
            heard_from setting by.moment d steps all.0 (below_top top by.moment by.is_in (omega (arith, soon_, before)))
            (does_is hears by.moment.earlier by.moment.step d took_it.past (Receive by.link by.hears.message by.hears.counter) took_it.there by.hears.act
            ∙ ap is_some took_it.over) in
            omega (arith, goes, at)

    pub heard_after : when first ≤ heard_at (chronicle setting (x ∷ h)) d
    heard_after = by_walk (cut_off plan (walk setting.net plan d)) cut_walk.clear cut_walk.ends cut_walk.short
