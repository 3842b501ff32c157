-- The feeding lemma: along a sound way of at most 2(H + 1) hops from a source, a device hears by s0 + A + m * D a round that was emitted later than s0.
-- From the K + 1 rounds of the source, of which one is clean, and the flow of that one.
use Rattle.std.specs.Prelude.{◌≡◌, ℕ, zero, suc, ◌+◌, ◌*◌, ◌<◌, ◌≤◌, true, false, List, [], ◌∷◌, length, Some, ◌⊎◌, refl}
use Rattle.std.proofs.Common.{arith, sym, ◌∙◌, subst, inl, inr}
use Rattle.std.proofs.lemmas.Bool.{and_parts}
use Rattle.std.proofs.Math.Nat.{mul-le-mul_right}
use Rattle.sd_plan.specs.topo.Network.{greatest_delay}
use Rattle.sd_plan.specs.declared.End.{End}
use Rattle.sd_device.specs.declared.msg.Stamp.{Stamp}
use Rattle.sd_device.specs.declared.msg.Message.{Message}
use Rattle.sd_checker.specs.check_root.Timing.{round_gap}
use Rattle.sd_device.specs.Calls.{Past}
use Rattle.sd_history.specs.World.{Setting, epoch_in_force, staged_epoch, window_is_open, plan_numbered}
use Rattle.sd_history.specs.Steps.{seen_of, ends_at}
use Rattle.sd_history.specs.Chronicle.{past_in}
use Rattle.sd_history.specs.Premises.{arrives_in_time, delay_holds, renew_holds}
use Rattle.sd_history.proofs.Among.{Among}
use Rattle.sd_history.specs.Rounds.{is_spoiled}
use Rattle.sd_safety.specs.invariant.Bounds.{rounds_gap}
use Rattle.sd_safety.specs.messages.Moments.{whole, behind, IsChronicle, Moment, upto, when, IsIn, Emits}
use Rattle.sd_safety.specs.messages.Rounds.{Takes, HeardSince, IsOpen, AreOpen, Flows, IsOnlyEmission, IsSpaced, IsReady, follows_parent, has_given, AreApart}
use Rattle.sd_safety.proofs.messages.Tails.{tail_chronicle, before_is_earlier}
use Rattle.sd_safety.proofs.messages.Hearing.{receiver_past}
use Rattle.sd_safety.proofs.messages.Following.{follows_or_heard, given_takes}
use Rattle.sd_safety.proofs.messages.Ends.{ends_has, ends_in_force, ends_staged}
use Rattle.sd_safety.proofs.messages.Newest.{newest_in_time, only_of_distinct}
use Rattle.sd_safety.proofs.messages.Terms.{terms_distinct, terms_spaced}
use Rattle.sd_safety.proofs.messages.Cleans.{Clean, one_is_clean}
use Rattle.sd_safety.proofs.messages.Flowing.{flows, HeardBy, each_heard}
use Rattle.sd_safety.specs.silences.Feeds.{Feeds, IsSound, AreSound, IsFed}
use Rattle.sd_safety.proofs.silences.NextEmissions.{counts_from_one}
use Rattle.sd_safety.proofs.silences.Supply.{start, IsRound, round_is}
use Rattle.sd_safety.proofs.silences.Rounds.{Sent, first_sent, each_sent}

pub below_top : (top q : Moment) → IsIn q (upto top) → when q < when top → IsIn q top.earlier
below_top top q whole less = absurd (omega (arith, less))
below_top top q (behind t) less = t

pub from_start : (setting : Setting) (start_ q : Moment) → IsChronicle setting (upto q) → IsIn start_ (upto q) → when start_ ≤ when q
from_start setting start_ q is whole = omega arith
from_start setting start_ q is (behind t) = before_is_earlier setting start_ q is t

module _ (setting : Setting) (top : Moment) (x s0 epoch : ℕ) (f : Feeds setting top x s0 epoch) where
  is_chronicle : IsChronicle setting (upto top)
  is_chronicle = f.source.chronicle_

  delay_before : delay_holds setting (seen_of top.earlier) ≡ true
  delay_before = (and_parts (arrives_in_time setting top.step.seen) (delay_holds setting (seen_of top.earlier)) f.delay).1

  renew_before : renew_holds setting (seen_of top.earlier) ≡ true
  renew_before = (and_parts (renew_holds setting (seen_of top.earlier)) _ f.source.renew).0

  -- one round, emitted at the first moment, up to a limit before the top
  module _ (first : Moment) (first_in : IsIn first top.earlier) (late : s0 < when first) (m0 : Message) (emits : Emits first x m0) (limit : ℕ)
      (past_limit : limit < when top)
      (soon : limit ≤ when first + 2 * (setting.net.params.depth + 1) * greatest_delay setting.net) where
    only : IsOnlyEmission top.earlier m0.stamp first x
    only = only_of_distinct top.earlier first x m0 (terms_distinct top.earlier f.life) first_in emits

    spaced : IsSpaced setting top.earlier m0.stamp epoch first
    spaced = terms_spaced setting top.earlier first x epoch m0 first_in emits f.life f.spacing
        (λ p p_in y n emits' epoch_is. f.newest first first_in late m0 emits p p_in y n emits' epoch_is)

    open_hop : (y : ℕ) (e : End) → IsSound setting top epoch s0 x y e → IsOpen setting (upto top) m0.stamp epoch first limit y e
    open_hop y e hop =
        record {
          follows = λ q q_in started by m sends carries epoch_is.
              let in_ = below_top top q q_in (less by) in
              let since = after q q_in started in
              let both = hop.whole q in_ since in
              (end_at q (f.current q in_ since), both.0, both.1);
          lasts = λ q q_in before by. hop.lasts q q_in (after q q_in (behind before));
          accepts = λ q q_in before by m c carries epoch_is act.
              let in_ = below_top top q q_in (less by) in
              let has = receiver_past setting q e.device e.link m c (tail_chronicle setting q_in is_chronicle) act in
              takes_at q in_ by m c carries epoch_is has.0 has.1 (hop.ready q in_ (after q q_in (behind before)) has.0 has.1);
        }
      where
        less : {a : ℕ} → a ≤ limit → a < when top
        less le = omega (arith, le, past_limit)

        after : (q : Moment) → IsIn q (upto top) → IsIn first (upto q) → s0 < when q
        after q q_in started = let goes = from_start setting first q (tail_chronicle setting q_in is_chronicle) started in omega (arith, goes, late)

        end_at : (q : Moment) → (epoch ≡ epoch_in_force (seen_of q.earlier)) ⊎ (epoch ≡ staged_epoch (seen_of q.earlier))
            × (window_is_open (seen_of q.earlier) ≡ true) → Among e (ends_at setting q.earlier epoch y)
        end_at q (inl is) =
            ends_in_force setting q.earlier epoch y e is (ends_has setting.net (plan_numbered setting epoch) y e hop.known.0 hop.known.1 hop.follows hop.alone)
        end_at q (inr is) =
            ends_staged setting q.earlier epoch y e is.0 is.1
            (ends_has setting.net (plan_numbered setting epoch) y e hop.known.0 hop.known.1 hop.follows hop.alone)

        takes_at : (q : Moment) → IsIn q top.earlier → when q ≤ limit → (m : Message) (c : ℕ) → m.stamp ≡ m0.stamp → m.epoch ≡ epoch → (past : Past)
            → past_in q.earlier e.device ≡ Some past → IsReady past epoch e.link
            → Takes q e.device e.link m c ⊎ HeardSince m0.stamp epoch first q e.device
        takes_at q q_in by m c carries epoch_is past there (has_given duty edge given of primary link) =
            inl (given_takes q e.device e.link m c past duty edge there given (of ∙ sym epoch_is) primary link)
        takes_at q q_in by m c carries epoch_is past there (follows_parent edge of parent link) =
            follows_or_heard setting top.earlier m0.stamp epoch first x q e.device e.link m c past edge is_chronicle.0 delay_before renew_before q_in
            (counts_from_one first x m0 emits) only
            (newest_in_time setting top.earlier m0.stamp epoch first q is_chronicle.0 q_in f.rule spaced (omega (arith, soon, by))) hop.apart carries epoch_is
            there of parent link

    open_way : (y : ℕ) (way : List End) → AreSound setting top epoch s0 x y way → AreOpen setting (upto top) m0.stamp epoch first limit y way
    open_way y [] sound = tt
    open_way y (e ∷ way) sound = (open_hop y e sound.0, open_way e.device way sound.1)

    -- where it is clean it goes along a sound way
    way_flows : is_spoiled (seen_of (upto top)) m0.stamp.term m0.stamp.round ≡ false → (way : List End)
        → when first + length way * greatest_delay setting.net ≤ limit → AreSound setting top epoch s0 x x way
        → Flows (upto top) m0.stamp epoch first (greatest_delay setting.net) (when first) way
    way_flows clean way fits sound =
        flows setting (upto top) m0.stamp epoch first limit (record { chronicle_ = is_chronicle; delay = f.delay; clean = clean; past = past_limit }) way first
        (when first) (behind first_in) whole (omega arith) fits x m0 emits.sends refl
        (f.epoch_is first first_in late m0 emits) (open_way x way sound)

  -- sums
  round_by : (i k p m w : ℕ) → i ≤ k → s0 + (k + 1) * p + m < w → s0 + suc i * p + m < w
  round_by i k p m w le less = let part : suc i * p ≤ (k + 1) * p = mul-le-mul_right p (omega (arith, le)) in omega (arith, part, less)

  first_by : (k p m w : ℕ) → s0 + (k + 1) * p + m < w → s0 + suc zero * p < w
  first_by k p m w less = let all : s0 + suc zero * p + m < w = round_by zero k p m w (omega arith) less in omega (arith, all)

  -- the feeding lemma
  pub feeding : (way : List End) (e : End) → Among e way → length way ≤ 2 * (setting.net.params.depth + 1) → AreSound setting top epoch s0 x x way
      → s0 + rounds_gap setting.net + length way * greatest_delay setting.net < when top → IsFed top s0 epoch e.device
  feeding way e a short sound less =
      let src = f.source in
      let gap = round_gap setting.net in
      let last = length way * greatest_delay setting.net in
      let spacing : AreApart setting top.earlier = f.spacing in
      let one = first_sent setting top x s0 src spacing f.rule (first_by setting.net.params.loss gap last (when top) less) in
      let clean : Clean setting (seen_of (upto top)) one.0.stamp.term one.0.stamp.round =
      one_is_clean setting (seen_of (upto top)) one.0.stamp.term one.0.stamp.round f.loss in
      let i = clean.place in
      let all : s0 + suc i * gap + last < when top = round_by i setting.net.params.loss gap last (when top) clean.within less in
      let less_i : s0 + suc i * gap < when top = omega (arith, all) in
      let r : IsRound setting top x s0 src i = round_is setting top x s0 src i less_i in
      let s : Sent setting top x s0 src spacing f.rule one.0.stamp.term one.0.stamp.round i =
      each_sent setting top x s0 src spacing f.rule one.0 one.1 i less_i in
      let first = start setting top x s0 src i in
      let by = r.by in
      let after = r.is.after in
      let since = r.late in
      let late : s0 < when first = omega (arith, after, since) in
      let limit = when first + last in
      let past_limit : limit < when top = omega (arith, by, all) in
      let most : last ≤ 2 * (setting.net.params.depth + 1) * greatest_delay setting.net = mul-le-mul_right (greatest_delay setting.net) short in
      let soon : limit ≤ when first + 2 * (setting.net.params.depth + 1) * greatest_delay setting.net = omega (arith, most) in
      let is_clean : is_spoiled (seen_of (upto top)) s.message.stamp.term s.message.stamp.round ≡ false =
      subst (λ (t : Stamp). is_spoiled (seen_of (upto top)) t.term t.round ≡ false) (sym s.carries) clean.clean in
      let flow = way_flows first r.is.is_in late s.message s.emits limit past_limit soon is_clean way (omega arith) sound in
      let h : HeardBy (upto top) s.message.stamp epoch first limit e.device =
      each_heard (upto top) s.message.stamp epoch first (greatest_delay setting.net) (when first) way flow e a in
      let in_time = h.in_time in
      let goes : when first ≤ when h.moment = before_is_earlier setting first h.moment (tail_chronicle setting h.is_in is_chronicle) h.since in
      record {
        moment = h.moment;
        is_in = below_top top h.moment h.is_in (omega (arith, in_time, past_limit));
        late = omega (arith, goes, late);
        stamp = s.message.stamp;
        link = h.link;
        hears = h.hears;
      }
