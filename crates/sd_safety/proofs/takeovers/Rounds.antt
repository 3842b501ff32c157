-- The rounds of the backup root: the takeover itself, and those that follow it. One of each K + 1 of them is clean, so a device that heard nothing since the
-- takeover has its next event by K * P + H * D after that, and one that did by A + H * D after it last heard.
use Rattle.std.specs.Prelude.{◌≡◌, ℕ, zero, suc, ◌+◌, ◌*◌, ◌<◌, ◌≤◌, max, true, false, List, ◌∷◌, ◌⊎◌, refl}
use Rattle.std.proofs.Common.{arith, ◌∙◌, ap, sym, subst, inl, inr}
use Rattle.std.proofs.lemmas.Bool.{cases_lt, false_from_ne_true}
use Rattle.std.proofs.Math.Nat.{mul-le-mul_right}
use Rattle.sd_device.specs.declared.msg.Stamp.{Stamp}
use Rattle.sd_device.specs.declared.msg.Message.{Message}
use Rattle.sd_device.specs.msg.Stamps.{stamp}
use Rattle.sd_checker.specs.check_root.Timing.{round_gap}
use Rattle.sd_sched.specs.declared.Event.{Event}
use Rattle.sd_sched.specs.Events.{reference_of}
use Rattle.sd_history.specs.World.{Setting, Seen}
use Rattle.sd_history.specs.Steps.{Step, seen_of, acts_in}
use Rattle.sd_history.specs.Chronicle.{chronicle}
use Rattle.sd_history.specs.Premises.{loss_holds}
use Rattle.sd_history.specs.Rounds.{is_spoiled}
use Rattle.sd_safety.proofs.invariant.Parts.{premises_of}
use Rattle.sd_safety.specs.invariant.Bounds.{depth, delay, losses, rounds_gap}
use Rattle.sd_safety.specs.invariant.Eras.{plan_now, is_old, heard_at}
use Rattle.sd_safety.specs.invariant.Coming.{IsNextEvent}
use Rattle.sd_safety.proofs.invariant.Sides.{not_both}
use Rattle.sd_safety.specs.messages.Moments.{whole, behind, Moment, upto, when, IsIn, IsBefore, Emits}
use Rattle.sd_safety.specs.messages.Rounds.{IsUnbroken, AreApart}
use Rattle.sd_safety.proofs.messages.Tails.{tail_trans, rest_of}
use Rattle.sd_safety.proofs.messages.Overlap.{IsApart}
use Rattle.sd_safety.proofs.messages.Cleans.{Clean, one_is_clean}
use Rattle.sd_safety.proofs.messages.Consecutive.{next_round, rounds_apart}
use Rattle.sd_safety.specs.silences.Feeds.{IsSource}
use Rattle.sd_safety.proofs.silences.NextEmissions.{emits_here, has_later, later_here, IsNext, Emission, emission_of}
use Rattle.sd_safety.proofs.silences.Supply.{start as round_at, IsRound, round_is}
use Rattle.sd_safety.proofs.silences.Rounds.{Sent, first_sent, each_sent}
use Rattle.sd_safety.proofs.silences.SoundWays.{top_of}
use Rattle.sd_safety.proofs.takeovers.Acted.{emits_is}
use Rattle.sd_safety.proofs.takeovers.Places.{took, after}
use Rattle.sd_safety.proofs.takeovers.Source.{source, spacing, rule, unbroken_since}
use Rattle.sd_safety.proofs.spans.FallbackRests.{first_of}

-- sums
less_of : (s i k p m w : ℕ) → i ≤ k → s + k * p + m < w → s + i * p + m < w
less_of s i k p m w le less = let part : i * p ≤ k * p = mul-le-mul_right p le in omega (arith, part, less)

-- a stamp by its term and round
clean_as : (seen : List Seen) (t : Stamp) (term round : ℕ) → t.term ≡ term → t.round ≡ round → is_spoiled seen term round ≡ false
    → is_spoiled seen t.term t.round ≡ false
clean_as seen t term round one two clean =
    subst (λ n. is_spoiled seen t.term n ≡ false) (sym two) (subst (λ k. is_spoiled seen k round ≡ false) (sym one) clean)

both_same : (t u : Stamp) → t ≡ u → (t.term ≡ u.term) × (t.round ≡ u.round)
both_same t u same = (ap (λ (s : Stamp). s.term) same, ap (λ (s : Stamp). s.round) same)

second_of : (r p q : ℕ) → r ≤ q → r ≤ max p q
second_of r p q le = omega (arith, le)

module _ (setting : Setting) (x : Event) (h : List Event) (e : Event) (comes : IsNextEvent setting (x ∷ h) e)
    (old : is_old (chronicle setting (x ∷ h)) (plan_now setting (chronicle setting (x ∷ h))).backup_root ≡ true)
    (acts : acts_in (chronicle setting (x ∷ h)) (plan_now setting (chronicle setting (x ∷ h))).backup_root ≡ true) where
  abbrev steps : List Step
  steps = chronicle setting (x ∷ h)

  abbrev b : ℕ
  b = (plan_now setting (chronicle setting (x ∷ h))).backup_root

  abbrev top : Moment
  top = top_of setting (x ∷ h) e

  abbrev gap : ℕ
  gap = round_gap setting.net

  abbrev last : ℕ
  last = depth setting.net * delay setting.net

  abbrev start : Moment
  start = (took setting x h e comes old acts).moment

  start_in : IsIn start (chronicle setting (x ∷ h))
  start_in = (took setting x h e comes old acts).is_in

  -- the takeover is a round
  first_round : Emission start b
  first_round = emission_of start b (took setting x h e comes old acts).emits

  src : (s0 : ℕ) → when start ≤ s0 → IsSource setting (top_of setting (x ∷ h) e) b s0
  src s0 from = source setting x h e comes old acts s0 from

  apart : AreApart setting (chronicle setting (x ∷ h))
  apart = spacing setting x h e comes old acts

  rule_ : IsApart setting.net
  rule_ = rule setting x h e comes old acts

  -- between it and the next one the backup root emits nothing
  quiet : (q : Moment) → IsIn q (chronicle setting (x ∷ h)) → has_later b (when start) q.earlier ≡ false → (r : Moment) → IsIn r q.earlier → IsBefore start r
      → emits_here b r.earlier r.step.act ≡ false
  quiet q q_in none r r_in since = false_from_ne_true (emits_here b r.earlier r.step.act) (λ sent. by (emission_of r b sent) sent)
    where
      in_steps : IsIn r (chronicle setting (x ∷ h))
      in_steps = tail_trans r_in (rest_of q_in)

      by : Emission r b → emits_here b r.earlier r.step.act ≡ true → ⊥
      by em sent =
          let life : IsUnbroken start r b = unbroken_since setting x h e comes old acts start r whole in_steps in
          let terms = (rounds_apart start r b first_round.message em.message first_round.emits em.emits since life).0 in
          let far = apart start r start_in in_steps since b first_round.message em.message first_round.emits em.emits life (sym terms) in
          not_both (has_later b (when start) q.earlier) (later_here b (when start) r q.earlier r_in sent (omega (arith, far, rule_))) none

  -- so that is the next round of its term
  next_is_next : (q : Moment) → IsNext b (when start) (chronicle setting (x ∷ h)) q → (m : Message) → Emits q b m
      → (m.stamp.term ≡ first_round.message.stamp.term) × (m.stamp.round ≡ first_round.message.stamp.round + 1)
  next_is_next q is m emits =
      let after_ : IsBefore start q = after setting x h e comes old acts q (behind is.is_in) is.after in
      let life : IsUnbroken start q b = unbroken_since setting x h e comes old acts start q whole is.is_in in
      next_round start q b first_round.message m first_round.emits emits after_
      (λ r r_in since. (
        (life r r_in since).0,
        λ past call act there. (
          (life r r_in since).1 past call act there,
          sym (emits_is r.earlier r.step b past call there act)
              ∙ quiet q is.is_in is.none r r_in since,
        ),
      ))

  module _ (d : ℕ) (hears_on : (first : Moment) → IsIn first (chronicle setting (x ∷ h)) → IsIn start (upto first) → (m : Message) → Emits first b m
      → is_spoiled (seen_of (chronicle setting (e ∷ x ∷ h))) m.stamp.term m.stamp.round ≡ false
      → when first + depth setting.net * delay setting.net < reference_of e → when first ≤ heard_at (chronicle setting (x ∷ h)) d) where
    loss : loss_holds setting (seen_of (chronicle setting (e ∷ x ∷ h))) ≡ true
    loss = (premises_of setting (seen_of (chronicle setting (e ∷ x ∷ h))) comes.clean.premises).loss

    -- a clean round later than a reference is heard
    round_heard : (s0 : ℕ) (from : when start ≤ s0) (i : ℕ) → s0 + suc i * gap + last < reference_of e → (m : Message)
        → Emits (round_at setting top b s0 (src s0 from) i) b m
        → is_spoiled (seen_of (chronicle setting (e ∷ x ∷ h))) m.stamp.term m.stamp.round ≡ false → s0 < heard_at (chronicle setting (x ∷ h)) d
    round_heard s0 from i less m emits fresh =
        let r : IsRound setting top b s0 (src s0 from) i = round_is setting top b s0 (src s0 from) i (omega (arith, less)) in
        let first : Moment = round_at setting top b s0 (src s0 from) i in
        let by = r.by in
        let after_ = r.is.after in
        let since = r.late in
        let le = hears_on first r.is.is_in (behind (after setting x h e comes old acts first (behind r.is.is_in) (omega (arith, after_, since, from)))) m emits
        fresh (omega (arith, by, less)) in
        omega (arith, le, after_, since)

    -- where it heard since the takeover, one of K + 1 rounds after that
    heard_since : when start ≤ heard_at (chronicle setting (x ∷ h)) d → heard_at (chronicle setting (x ∷ h)) d + rounds_gap setting.net + last < reference_of e
        → ⊥
    heard_since from less =
        let s0 : ℕ = heard_at steps d in
        let first_less : s0 + suc zero * gap + last < reference_of e =
        less_of s0 (suc zero) (losses setting.net + 1) gap last (reference_of e) (omega arith) less in
        let one = first_sent setting top b s0 (src s0 from) apart rule_ (omega (arith, first_less)) in
        let fresh : Clean setting (seen_of (upto top)) one.0.stamp.term one.0.stamp.round =
        one_is_clean setting (seen_of (upto top)) one.0.stamp.term one.0.stamp.round loss in
        let within = fresh.within in
        let all : s0 + suc fresh.place * gap + last < reference_of e =
        less_of s0 (suc fresh.place) (losses setting.net + 1) gap last (reference_of e) (omega (arith, within)) less in
        let s : Sent setting top b s0 (src s0 from) apart rule_ one.0.stamp.term one.0.stamp.round fresh.place =
        each_sent setting top b s0 (src s0 from) apart rule_ one.0 one.1 fresh.place (omega (arith, all)) in
        let same = both_same s.message.stamp (stamp one.0.stamp.term (one.0.stamp.round + fresh.place)) s.carries in
        let later = round_heard s0 from fresh.place all s.message s.emits
        (clean_as (seen_of (upto top)) s.message.stamp one.0.stamp.term (one.0.stamp.round + fresh.place) same.0 same.1 fresh.clean) in
        absurd (omega (arith, later))

    -- and else the takeover itself, or one of K rounds after it
    by_place : heard_at (chronicle setting (x ∷ h)) d < when start → when start + losses setting.net * gap + last < reference_of e → (i : ℕ)
        → i ≤ losses setting.net
        → is_spoiled (seen_of (chronicle setting (e ∷ x ∷ h))) first_round.message.stamp.term (first_round.message.stamp.round + i) ≡ false → ⊥
    by_place silent less zero within fresh =
        let m : Message = first_round.message in
        let all : when start + zero * gap + last < reference_of e = less_of (when start) zero (losses setting.net) gap last (reference_of e) within less in
        let le = hears_on start start_in whole m first_round.emits
        (clean_as (seen_of (upto top)) m.stamp m.stamp.term (m.stamp.round + zero) refl (none m.stamp.round) fresh) (omega (arith, all)) in
        absurd (omega (arith, le, silent))
      where
        none : (n : ℕ) → n ≡ n + zero
        none n = omega arith
    by_place silent less (suc i) within fresh =
        let s0 : ℕ = when start in
        let all : s0 + suc i * gap + last < reference_of e = less_of s0 (suc i) (losses setting.net) gap last (reference_of e) within less in
        let first_less : s0 + suc zero * gap + last < reference_of e = less_of s0 (suc zero) (suc i) gap last (reference_of e) (omega arith) all in
        let one = first_sent setting top b s0 (src s0 least) apart rule_ (omega (arith, first_less)) in
        let r : IsRound setting top b s0 (src s0 least) zero = round_is setting top b s0 (src s0 least) zero (omega (arith, first_less)) in
        let next = next_is_next (round_at setting top b s0 (src s0 least) zero)
        (subst (λ from. IsNext b from (chronicle setting (x ∷ h)) (round_at setting top b s0 (src s0 least) zero)) r.from_is r.is) one.0 one.1 in
        let s : Sent setting top b s0 (src s0 least) apart rule_ one.0.stamp.term one.0.stamp.round i =
        each_sent setting top b s0 (src s0 least) apart rule_ one.0 one.1 i (omega (arith, all)) in
        let same = both_same s.message.stamp (stamp one.0.stamp.term (one.0.stamp.round + i)) s.carries in
        let term : s.message.stamp.term ≡ first_round.message.stamp.term = same.0 ∙ next.0 in
        let number : s.message.stamp.round ≡ first_round.message.stamp.round + suc i =
        counted s.message.stamp.round one.0.stamp.round first_round.message.stamp.round i same.1 next.1 in
        let later = round_heard s0 least i all s.message s.emits
        (clean_as (seen_of (upto top)) s.message.stamp first_round.message.stamp.term (first_round.message.stamp.round + suc i) term number fresh) in
        absurd (omega (arith, later, silent))
      where
        least : when start ≤ when start
        least = omega arith

        counted : (n m k j : ℕ) → n ≡ m + j → m ≡ k + 1 → n ≡ k + suc j
        counted n m k j one_ two = omega (arith, one_, two)

    heard_before : heard_at (chronicle setting (x ∷ h)) d < when start → when start + losses setting.net * gap + last < reference_of e → ⊥
    heard_before silent less =
        let m : Message = first_round.message in
        let fresh : Clean setting (seen_of (upto top)) m.stamp.term m.stamp.round = one_is_clean setting (seen_of (upto top)) m.stamp.term m.stamp.round loss in
        by_place silent less fresh.place fresh.within fresh.clean

    pub comes_by : reference_of e ≤ max (when start + losses setting.net * round_gap setting.net + depth setting.net * delay setting.net)
        (heard_at (chronicle setting (x ∷ h)) d + rounds_gap setting.net + depth setting.net * delay setting.net)
    comes_by = by (cases_lt (heard_at steps d) (when start)) (cases_lt (when start + losses setting.net * gap + last) (reference_of e))
        (cases_lt (heard_at steps d + rounds_gap setting.net + last) (reference_of e))
      where
        by : (heard_at (chronicle setting (x ∷ h)) d < when start) ⊎ (when start ≤ heard_at (chronicle setting (x ∷ h)) d)
            → (when start + losses setting.net * gap + last < reference_of e) ⊎ (reference_of e ≤ when start + losses setting.net * gap + last)
            → (heard_at (chronicle setting (x ∷ h)) d + rounds_gap setting.net + last < reference_of e)
            ⊎ (reference_of e ≤ heard_at (chronicle setting (x ∷ h)) d + rounds_gap setting.net + last)
            → reference_of e ≤ max (when start + losses setting.net * gap + last) (heard_at (chronicle setting (x ∷ h)) d + rounds_gap setting.net + last)
        by silent (inr le) late = first_of (reference_of e) (when start + losses setting.net * gap + last) (heard_at steps d + rounds_gap setting.net + last) le
        by silent (inl less) (inr le) =
            second_of (reference_of e) (when start + losses setting.net * gap + last) (heard_at steps d + rounds_gap setting.net + last) le
        by (inl silent) (inl less) (inl more) = absurd (heard_before silent less)
        by (inr from) (inl less) (inl more) = absurd (heard_since from more)
