-- A clean round goes along a way of open hops, and comes to its end by the limit (11 for one round).
use Rattle.std.specs.Prelude.{◌≡◌, ℕ, ◌+◌, ◌*◌, ◌<◌, ◌≤◌, true, List, [], ◌∷◌, length, Some, ◌⊎◌, refl}
use Rattle.std.proofs.Common.{arith, sym, ◌∙◌, inl, inr}
use Rattle.std.proofs.lemmas.Bool.{and_parts}
use Rattle.sd_plan.specs.topo.Network.{greatest_delay}
use Rattle.sd_plan.specs.declared.End.{End}
use Rattle.sd_device.specs.declared.msg.Message.{Message}
use Rattle.sd_device.specs.Calls.{Past}
use Rattle.sd_history.specs.World.{Setting, epoch_in_force, staged_epoch, window_is_open, plan_numbered}
use Rattle.sd_history.specs.Steps.{seen_of, ends_at}
use Rattle.sd_history.specs.Chronicle.{past_in}
use Rattle.sd_history.specs.Premises.{arrives_in_time, delay_holds, renew_holds}
use Rattle.sd_history.proofs.Among.{Among}
use Rattle.sd_safety.specs.messages.Moments.{whole, behind, Moment, upto, when, IsIn}
use Rattle.sd_safety.specs.messages.Rounds.{Takes, HeardSince, IsOpen, AreOpen, IsOnlyEmission, IsSpaced, IsReady, follows_parent, has_given}
use Rattle.sd_safety.proofs.messages.Tails.{tail_chronicle}
use Rattle.sd_safety.proofs.messages.Hearing.{receiver_past}
use Rattle.sd_safety.proofs.messages.Following.{follows_or_heard, given_takes}
use Rattle.sd_safety.proofs.messages.Ends.{ends_has, ends_in_force, ends_staged}
use Rattle.sd_safety.proofs.messages.Newest.{newest_in_time, only_of_distinct}
use Rattle.sd_safety.proofs.messages.Terms.{terms_distinct, terms_spaced}
use Rattle.sd_safety.proofs.messages.Flowing.{flows, HeardBy, each_heard}
use Rattle.sd_safety.proofs.silences.NextEmissions.{counts_from_one}
use Rattle.sd_safety.proofs.silences.Feeding.{below_top}
use Rattle.sd_safety.specs.rounds.Rounds.{IsRound, IsOpenHop, AreOpenHops}

module _ (setting : Setting) (top : Moment) (source epoch : ℕ) (start : Moment) (limit : ℕ) (r : IsRound setting top source epoch start limit) where
  delay_before : delay_holds setting (seen_of top.earlier) ≡ true
  delay_before = (and_parts (arrives_in_time setting top.step.seen) (delay_holds setting (seen_of top.earlier)) r.delay).1

  renew_before : renew_holds setting (seen_of top.earlier) ≡ true
  renew_before = (and_parts (renew_holds setting (seen_of top.earlier)) _ r.renew).0

  only : IsOnlyEmission top.earlier r.message.stamp start source
  only = only_of_distinct top.earlier start source r.message (terms_distinct top.earlier r.life) r.here r.emits

  spaced : IsSpaced setting top.earlier r.message.stamp epoch start
  spaced = terms_spaced setting top.earlier start source epoch r.message r.here r.emits r.life r.spacing r.newest

  open_hop : (x : ℕ) (e : End) → IsOpenHop setting top epoch start limit source x e → IsOpen setting (upto top) r.message.stamp epoch start limit x e
  open_hop x e hop =
      record {
        follows = λ q q_in started by m sends carries epoch_is.
            let in_ = below_top top q q_in (less by) in
            let both = hop.whole q in_ started by in
            (end_at q (r.current q in_ started by), both.0, both.1);
        lasts = λ q q_in since by. hop.lasts q q_in since;
        accepts = λ q q_in since by m c carries epoch_is act.
            let in_ = below_top top q q_in (less by) in
            let has = receiver_past setting q e.device e.link m c (tail_chronicle setting q_in r.chronicle_) act in
            takes_at q in_ by m c carries epoch_is has.0 has.1 (hop.ready q in_ since by has.0 has.1);
      }
    where
      less : {a : ℕ} → a ≤ limit → a < when top
      less le = let before = r.before in omega (arith, le, before)

      end_at : (q : Moment) → (epoch ≡ epoch_in_force (seen_of q.earlier)) ⊎ (epoch ≡ staged_epoch (seen_of q.earlier))
          × (window_is_open (seen_of q.earlier) ≡ true) → Among e (ends_at setting q.earlier epoch x)
      end_at q (inl is) =
          ends_in_force setting q.earlier epoch x e is (ends_has setting.net (plan_numbered setting epoch) x e hop.known.0 hop.known.1 hop.follows hop.alone)
      end_at q (inr is) =
          ends_staged setting q.earlier epoch x e is.0 is.1
          (ends_has setting.net (plan_numbered setting epoch) x e hop.known.0 hop.known.1 hop.follows hop.alone)

      takes_at : (q : Moment) → IsIn q top.earlier → when q ≤ limit → (m : Message) (c : ℕ) → m.stamp ≡ r.message.stamp → m.epoch ≡ epoch → (past : Past)
          → past_in q.earlier e.device ≡ Some past → IsReady past epoch e.link
          → Takes q e.device e.link m c ⊎ HeardSince r.message.stamp epoch start q e.device
      takes_at q q_in by m c carries epoch_is past there (has_given duty edge given of primary link) =
          inl (given_takes q e.device e.link m c past duty edge there given (of ∙ sym epoch_is) primary link)
      takes_at q q_in by m c carries epoch_is past there (follows_parent edge of parent link) =
          let soon = r.soon in
          follows_or_heard setting top.earlier r.message.stamp epoch start source q e.device e.link m c past edge r.chronicle_.0 delay_before renew_before q_in
          (counts_from_one start source r.message r.emits) only
          (newest_in_time setting top.earlier r.message.stamp epoch start q r.chronicle_.0 q_in r.rule spaced (omega (arith, soon, by))) hop.apart carries
          epoch_is there of parent link

  open_way : (x : ℕ) (way : List End) → AreOpenHops setting top epoch start limit source x way
      → AreOpen setting (upto top) r.message.stamp epoch start limit x way
  open_way x [] hops = tt
  open_way x (e ∷ way) hops = (open_hop x e hops.0, open_way e.device way hops.1)

  pub heard_along : (way : List End) (e : End) → Among e way → when start + length way * greatest_delay setting.net ≤ limit
      → AreOpenHops setting top epoch start limit source source way
      → HeardBy (upto top) r.message.stamp epoch start (when start + length way * greatest_delay setting.net) e.device
  heard_along way e a fits hops =
      each_heard (upto top) r.message.stamp epoch start (greatest_delay setting.net) (when start) way
      (flows setting (upto top) r.message.stamp epoch start limit
      (record { chronicle_ = r.chronicle_; delay = r.delay; clean = r.clean; past = r.before }) way start (when start) (behind r.here) whole
      (omega arith) fits source r.message r.emits.sends refl
      r.epoch_is (open_way source way hops)) e a
