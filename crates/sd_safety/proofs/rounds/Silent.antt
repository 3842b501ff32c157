-- Over a span of a leader, an old device to which an open way leads and which heard nothing later than s0 has its next event by s0 + A + n * D: of K + 1 rounds
-- one is clean. One of the era's plan comes along the old way; and by one of the staged plan the device would be new.
use Rattle.std.specs.Prelude.{◌≡◌, ℕ, zero, suc, ◌+◌, ◌*◌, ◌<◌, ◌≤◌, true, false, List, ◌∷◌, length, ◌⊎◌}
use Rattle.std.proofs.Common.{arith, sym, ◌∙◌, subst, inl, inr}
use Rattle.std.proofs.lemmas.Bool.{cases_lt}
use Rattle.std.proofs.Math.Nat.{mul-le-mul_right, le_trans}
use Rattle.sd_plan.specs.topo.Network.{greatest_delay}
use Rattle.sd_plan.specs.declared.End.{End}
use Rattle.sd_plan.specs.Plans.{is_member, is_root}
use Rattle.sd_device.specs.declared.msg.Stamp.{Stamp}
use Rattle.sd_device.specs.declared.msg.Message.{Message}
use Rattle.sd_checker.specs.check_root.Timing.{round_gap}
use Rattle.sd_sched.specs.declared.Event.{Event}
use Rattle.sd_sched.specs.Events.{reference_of}
use Rattle.sd_history.specs.World.{Setting, has_commit, epoch_in_force, staged_epoch, window_is_open}
use Rattle.sd_history.specs.Steps.{Step, seen_of}
use Rattle.sd_history.specs.Chronicle.{chronicle}
use Rattle.sd_history.proofs.Among.{Among}
use Rattle.sd_history.specs.Rounds.{is_spoiled}
use Rattle.sd_safety.proofs.invariant.Parts.{AllButStart, premises_of}
use Rattle.sd_safety.specs.invariant.Bounds.{depth, delay, rounds_gap}
use Rattle.sd_safety.specs.invariant.Eras.{era, is_old, heard_at}
use Rattle.sd_safety.specs.invariant.Guarded.{IsSteady}
use Rattle.sd_safety.proofs.invariant.Prefix.{clean_before}
use Rattle.sd_safety.specs.messages.Moments.{whole, behind, IsChronicle, Moment, upto, when, IsIn, Emits}
use Rattle.sd_safety.specs.messages.Rounds.{Hears}
use Rattle.sd_safety.proofs.messages.Tails.{tail_chronicle, history_chronicle, before_is_earlier}
use Rattle.sd_safety.proofs.messages.Cleans.{Clean, one_is_clean}
use Rattle.sd_safety.proofs.messages.Flowing.{HeardBy}
use Rattle.sd_safety.specs.silences.Feeds.{IsFed}
use Rattle.sd_safety.proofs.silences.Feeding.{below_top}
use Rattle.sd_safety.proofs.silences.Hearing.{fed_heard}
use Rattle.sd_safety.proofs.silences.States.{not_old_and_new}
use Rattle.sd_safety.proofs.silences.Supply.{start, IsRound as IsSent, round_is}
use Rattle.sd_safety.proofs.silences.Rounds.{Sent, first_sent, each_sent}
use Rattle.sd_safety.proofs.silences.SoundWays.{top_of}
use Rattle.sd_safety.proofs.windows.Committing.{staged_plan}
use Rattle.sd_safety.proofs.terms.Terms.{IsTermed, termed}
use Rattle.sd_safety.proofs.entering.States as states
use Rattle.sd_safety.proofs.entering.Entering.{hearer_new}
use Rattle.sd_safety.specs.rounds.Rounds.{IsRound, AreOpenHops}
use Rattle.sd_safety.proofs.rounds.Along.{heard_along}
use Rattle.sd_safety.proofs.rounds.Places.{InEra, InWindow, place}
use Rattle.sd_safety.proofs.rounds.Leaders.{IsLeader, source, spacing, rule, newest, lead_epoch, leader_is_staged}
use Rattle.sd_safety.proofs.rounds.Hops.{IsOldRoundOf, since_first}
use Rattle.sd_safety.proofs.rounds.NewHops.{committed_now, new_current, NewWay, new_way}

-- sums
round_by : (s0 i k p m w : ℕ) → i ≤ k → s0 + (k + 1) * p + m < w → s0 + suc i * p + m < w
round_by s0 i k p m w le less = let part : suc i * p ≤ (k + 1) * p = mul-le-mul_right p (omega (arith, le)) in omega (arith, part, less)

first_by : (s0 k p m w : ℕ) → s0 + (k + 1) * p + m < w → s0 + suc zero * p < w
first_by s0 k p m w less = let all : s0 + suc zero * p + m < w = round_by s0 zero k p m w (omega arith) less in omega (arith, all)

-- an old device that heard nothing later than s0, and is after a commit a member of the staged plan other than its root
pub record IsSilent (setting : Setting) (x : Event) (h : List Event) (s0 d : ℕ) : Type 0 where
  pub old : is_old (chronicle setting (x ∷ h)) d ≡ true
  pub heard : heard_at (chronicle setting (x ∷ h)) d ≤ s0
  pub staged : has_commit (seen_of (chronicle setting (x ∷ h))) ≡ true
      → (d < length setting.net.devices) × (is_member (staged_plan setting (chronicle setting (x ∷ h))) d ≡ true)
      × (is_root (staged_plan setting (chronicle setting (x ∷ h))) d ≡ false)

module _ (setting : Setting) (x : Event) (h : List Event) (e : Event) (s0 a : ℕ) (l : IsLeader setting x h e s0 a) where
  abbrev steps : List Step
  steps = chronicle setting (x ∷ h)

  abbrev top : Moment
  top = top_of setting (x ∷ h) e

  -- a way from the leader to it, open to each round of the era's plan
  pub record OldWay (d n : ℕ) : Type 0 where
    pub way : List End
    pub last : End
    pub among : Among last way
    pub device : last.device ≡ d
    pub short : length way ≤ n
    pub hops : (first : Moment) → IsOldRoundOf setting x h s0 a first → (limit : ℕ)
        → limit ≤ when first + 2 * (setting.net.params.depth + 1) * greatest_delay setting.net
        → AreOpenHops setting (top_of setting (x ∷ h) e) (era (chronicle setting (x ∷ h))) first limit a a way

  clean : IsSteady setting (x ∷ h)
  clean = clean_before setting e (x ∷ h) l.span.comes.clean

  all_chronicle : IsChronicle setting (chronicle setting (e ∷ x ∷ h))
  all_chronicle = history_chronicle setting (e ∷ x ∷ h) l.span.comes.clean.is

  module _ (d n : ℕ) (silent : IsSilent setting x h s0 d) (old_way : OldWay d n) (least : depth setting.net ≤ n)
      (most : n ≤ 2 * (setting.net.params.depth + 1)) where
    -- one clean round, with a limit before the event
    module _ (first : Moment) (here : IsIn first (chronicle setting (x ∷ h))) (late : s0 < when first) (m : Message) (emits : Emits first a m)
        (fresh : is_spoiled (seen_of (chronicle setting (e ∷ x ∷ h))) m.stamp.term m.stamp.round ≡ false)
        (before : when first + n * greatest_delay setting.net < reference_of e) where
      abbrev limit : ℕ
      limit = when first + n * greatest_delay setting.net

      soon : when first + n * greatest_delay setting.net ≤ when first + 2 * (setting.net.params.depth + 1) * greatest_delay setting.net
      soon = let le : n * greatest_delay setting.net ≤ 2 * (setting.net.params.depth + 1) * greatest_delay setting.net =
          mul-le-mul_right (greatest_delay setting.net) most in omega (arith, le)

      round_of : (epoch : ℕ) → m.epoch ≡ epoch
          → ((q : Moment) → IsIn q (chronicle setting (x ∷ h)) → IsIn first (upto q)
          → (epoch ≡ epoch_in_force (seen_of q.earlier)) ⊎ (epoch ≡ staged_epoch (seen_of q.earlier)) × (window_is_open (seen_of q.earlier) ≡ true))
          → IsRound setting top a epoch first limit
      round_of epoch epoch_is current =
          let premises : AllButStart setting (seen_of (chronicle setting (e ∷ x ∷ h))) =
          premises_of setting (seen_of (chronicle setting (e ∷ x ∷ h))) l.span.comes.clean.premises in
          let terms : IsTermed setting steps = termed setting (x ∷ h) l.span.comes.fair clean l.span.comes.before in
          record {
            chronicle_ = all_chronicle;
            delay = premises.delay;
            renew = premises.renew;
            life = terms.life;
            spacing = spacing setting x h e s0 a l;
            rule = rule setting x h e s0 a l;
            here = here;
            message = m;
            emits = emits;
            epoch_is = epoch_is;
            clean = fresh;
            before = before;
            soon = soon;
            newest = λ q q_in y n' two own. newest setting x h e s0 a l first here late m emits q q_in y n' two;
            current = λ q q_in started by. current q q_in started;
          }

      -- who heard it heard it before the event, and later than s0
      heard_in_time : (epoch len : ℕ) (way_end : End) → len ≤ n → way_end.device ≡ d
          → HeardBy (upto top) m.stamp epoch first (when first + len * greatest_delay setting.net) way_end.device → IsFed top s0 epoch d
      heard_in_time epoch len way_end le device by =
          let part : len * greatest_delay setting.net ≤ n * greatest_delay setting.net = mul-le-mul_right (greatest_delay setting.net) le in
          let in_time = by.in_time in
          let goes : when first ≤ when by.moment = before_is_earlier setting first by.moment (tail_chronicle setting by.is_in all_chronicle) by.since in
          record {
            moment = by.moment;
            is_in = below_top top by.moment by.is_in (omega (arith, in_time, part, before));
            late = omega (arith, goes, late);
            stamp = m.stamp;
            link = by.link;
            hears = subst (λ z. Hears m.stamp epoch by.moment z by.link) device by.hears;
          }

      in_force : (q : Moment) → IsIn q (chronicle setting (x ∷ h)) → IsIn first (upto q)
          → (era (chronicle setting (x ∷ h)) ≡ epoch_in_force (seen_of q.earlier)) ⊎ (era (chronicle setting (x ∷ h)) ≡ staged_epoch (seen_of q.earlier))
          × (window_is_open (seen_of q.earlier) ≡ true)
      in_force q q_in started = by (place setting x h e s0 l.span q (behind q_in) (since_first setting x h e s0 l.span first late q (behind q_in) started))
        where
          by : InEra setting (chronicle setting (x ∷ h)) q ⊎ InWindow setting (chronicle setting (x ∷ h)) q
              → (era steps ≡ epoch_in_force (seen_of q.earlier)) ⊎ (era steps ≡ staged_epoch (seen_of q.earlier)) × (window_is_open (seen_of q.earlier) ≡ true)
          by (inl k) = inl (subst (λ (p : Moment). era steps ≡ epoch_in_force (seen_of p.earlier)) (sym k.is) (sym k.same))
          by (inr k) =
              inr (
                subst (λ (p : Moment). era steps ≡ staged_epoch (seen_of p.earlier)) (sym k.is) (sym k.same),
                subst (λ (p : Moment). window_is_open (seen_of p.earlier) ≡ true) (sym k.is) (states.opened setting k.h k.e k.comes k.commit),
              )

      by_old : m.epoch ≡ era (chronicle setting (x ∷ h)) → (has_commit (seen_of first.earlier) ≡ true → era first.earlier ≡ era (chronicle setting (x ∷ h)) → ⊥)
          → ⊥
      unfolding round_of
      by_old epoch calm =
          let w = old_way in
          let round : IsOldRoundOf setting x h s0 a first = record { here = here; late = late; message = m; emits = emits; epoch = epoch; calm = calm } in
          let part : length w.way * greatest_delay setting.net ≤ n * greatest_delay setting.net = mul-le-mul_right (greatest_delay setting.net) w.short in
          let by : HeardBy (upto top) m.stamp (era steps) first (when first + length w.way * greatest_delay setting.net) w.last.device =
          heard_along setting top a (era steps) first limit (round_of (era steps) epoch in_force) w.way w.last w.among (omega (arith, part))
          (w.hops first round limit soon) in
          let after_ : s0 < heard_at steps d =
          fed_heard setting top s0 (era steps) d all_chronicle (heard_in_time (era steps) (length w.way) w.last w.short w.device by) in
          let heard = silent.heard in
          absurd (omega (arith, after_, heard))

      by_new : m.epoch ≡ era (chronicle setting (x ∷ h)) + 1 → era first.earlier ≡ era (chronicle setting (x ∷ h)) → has_commit (seen_of first.earlier) ≡ true
          → ⊥
      unfolding round_of
      by_new epoch same commit =
          let now : has_commit (seen_of steps) ≡ true = committed_now setting (x ∷ h) e l.span.comes first here same commit in
          let member = silent.staged now in
          let w : NewWay setting (x ∷ h) e l.span.comes first here same commit limit d =
          new_way setting (x ∷ h) e l.span.comes first here same commit limit d member.0 member.1 member.2 in
          let by_root : a ≡ (staged_plan setting steps).root = sym (leader_is_staged setting x h e s0 a l top whole (omega (arith, late, before)) now)
          ∙ states.root_is setting (x ∷ h) e l.span.comes now in
          let hops : AreOpenHops setting top (era steps + 1) first limit a a w.way =
          subst (λ z. AreOpenHops setting top (era steps + 1) first limit z z w.way) (sym by_root) w.hops in
          let short : length w.way ≤ n = le_trans w.short least in
          let part : length w.way * greatest_delay setting.net ≤ n * greatest_delay setting.net = mul-le-mul_right (greatest_delay setting.net) short in
          let by : HeardBy (upto top) m.stamp (era steps + 1) first (when first + length w.way * greatest_delay setting.net) w.last.device =
          heard_along setting top a (era steps + 1) first limit
          (round_of (era steps + 1) epoch (new_current setting (x ∷ h) e l.span.comes first here same commit)) w.way w.last w.among
          (omega (arith, part)) hops in
          let fed : IsFed top s0 (era steps + 1) d = heard_in_time (era steps + 1) (length w.way) w.last short w.device by in
          not_old_and_new steps d silent.old
          (hearer_new setting (x ∷ h) l.span.comes.fair clean l.span.comes.before fed.moment fed.is_in fed.stamp d fed.link fed.hears)

      never : ⊥
      never = by (lead_epoch setting x h e s0 a l first here late m emits)
        where
          by : ((m.epoch ≡ era steps) × (has_commit (seen_of first.earlier) ≡ true → era first.earlier ≡ era steps → ⊥))
              ⊎ ((m.epoch ≡ era steps + 1) × (era first.earlier ≡ era steps) × (has_commit (seen_of first.earlier) ≡ true)) → ⊥
          by (inl old) = by_old old.0 old.1
          by (inr new) = by_new new.0 new.1 new.2

    too_late : s0 + rounds_gap setting.net + n * greatest_delay setting.net < reference_of e → ⊥
    too_late less =
        let src = source setting x h e s0 a l in
        let apart = spacing setting x h e s0 a l in
        let rule_ = rule setting x h e s0 a l in
        let gap = round_gap setting.net in
        let last = n * greatest_delay setting.net in
        let premises : AllButStart setting (seen_of (chronicle setting (e ∷ x ∷ h))) =
        premises_of setting (seen_of (chronicle setting (e ∷ x ∷ h))) l.span.comes.clean.premises in
        let one = first_sent setting top a s0 src apart rule_ (first_by s0 setting.net.params.loss gap last (reference_of e) less) in
        let fresh : Clean setting (seen_of (upto top)) one.0.stamp.term one.0.stamp.round =
        one_is_clean setting (seen_of (upto top)) one.0.stamp.term one.0.stamp.round premises.loss in
        let i = fresh.place in
        let all : s0 + suc i * gap + last < reference_of e = round_by s0 i setting.net.params.loss gap last (reference_of e) fresh.within less in
        let less_i : s0 + suc i * gap < reference_of e = omega (arith, all) in
        let r : IsSent setting top a s0 src i = round_is setting top a s0 src i less_i in
        let s : Sent setting top a s0 src apart rule_ one.0.stamp.term one.0.stamp.round i = each_sent setting top a s0 src apart rule_ one.0 one.1 i less_i in
        let by = r.by in
        let after = r.is.after in
        let since = r.late in
        never (start setting top a s0 src i) r.is.is_in (omega (arith, after, since)) s.message s.emits
        (subst (λ (t : Stamp). is_spoiled (seen_of (upto top)) t.term t.round ≡ false) (sym s.carries) fresh.clean) (omega (arith, by, all))

    pub silent_by : reference_of e ≤ s0 + rounds_gap setting.net + n * delay setting.net
    silent_by = by (cases_lt (s0 + rounds_gap setting.net + n * greatest_delay setting.net) (reference_of e))
      where
        by : (s0 + rounds_gap setting.net + n * greatest_delay setting.net < reference_of e)
            ⊎ (reference_of e ≤ s0 + rounds_gap setting.net + n * greatest_delay setting.net)
            → reference_of e ≤ s0 + rounds_gap setting.net + n * delay setting.net
        by (inl less) = absurd (too_late less)
        by (inr le) = le
