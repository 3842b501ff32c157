-- The rounds that a device sends later than a reference are consecutive ones of one term.
use Rattle.std.specs.Prelude.{◌≡◌, ℕ, zero, suc, ◌+◌, ◌*◌, ◌<◌, ◌≤◌, true, false, ◌&&◌, Some, refl}
use Rattle.std.proofs.Common.{arith, sym, ◌∙◌, ap, subst}
use Rattle.std.proofs.lemmas.Bool.{eq-eqb, false_from_ne_true}
use Rattle.sd_num.specs.Lists.{map_or}
use Rattle.sd_device.specs.declared.msg.Message.{Message}
use Rattle.sd_device.specs.declared.msg.Stamp.{Stamp}
use Rattle.sd_device.specs.msg.Stamps.{stamp}
use Rattle.sd_checker.specs.check_root.Timing.{round_gap}
use Rattle.sd_device.specs.Calls.{Call, Past}
use Rattle.sd_device.specs.Words.{transition_of}
use Rattle.sd_history.specs.World.{Setting}
use Rattle.sd_history.specs.Steps.{Calls}
use Rattle.sd_history.specs.Chronicle.{past_in}
use Rattle.sd_safety.specs.messages.Moments.{Moment, when, IsIn, IsBefore, Emits, is_emission}
use Rattle.sd_safety.specs.messages.Rounds.{IsUnbroken, AreApart}
use Rattle.sd_safety.proofs.messages.Tails.{tail_trans, rest_of, tail_chronicle, earlier_is_before, before_is_earlier}
use Rattle.sd_safety.proofs.messages.Overlap.{IsApart}
use Rattle.sd_safety.proofs.messages.Consecutive.{next_round, rounds_apart}
use Rattle.sd_safety.specs.silences.Feeds.{IsSource}
use Rattle.sd_safety.proofs.silences.NextEmissions.{emits_here, has_later, later_here, Emission, emission_of}
use Rattle.sd_safety.proofs.silences.Supply.{start, IsRound, round_is, less_by}
use Rattle.sd_safety.proofs.messages.Following.{same_stamp}

module _ (setting : Setting) (top : Moment) (x s0 : ℕ) (src : IsSource setting top x s0) (apart : AreApart setting top.earlier)
    (rule : IsApart setting.net) where
  -- nothing breaks the acting between two moments later than s0
  pub unbroken : (p q : Moment) → s0 < when p → IsIn q top.earlier → IsUnbroken p q x
  unbroken p q late there w w_in t =
      let in_ = tail_trans w_in (rest_of there) in
      let after : when p ≤ when w = before_is_earlier setting p w (tail_chronicle setting in_ src.chronicle_.0) t in
      let kept = src.stays w in_ (omega (arith, late, after)) in
      (kept.1, kept.2)

  -- between a round and the next one the device emits nothing
  still : (p q : Moment) (m : Message) → s0 < when p → IsIn p top.earlier → Emits p x m → IsIn q top.earlier → has_later x (when p) q.earlier ≡ false
      → (r : Moment) → IsIn r q.earlier → IsBefore p r → (past : Past) (call : Call) → r.step.act ≡ Calls x call → past_in r.earlier x ≡ Some past
      → is_emission (transition_of past call) ≡ false
  still p q m late p_in emits there none r r_in t past call act past_is =
      false_from_ne_true (is_emission (transition_of past call)) (λ is. by_emission (emission_of r x (here is)) (here is))
    where
      in_ : IsIn r top.earlier
      in_ = tail_trans r_in (rest_of there)

      here : is_emission (transition_of past call) ≡ true → emits_here x r.earlier r.step.act ≡ true
      here is =
          ap (emits_here x r.earlier) act
          ∙ ap (λ b. b && map_or (past_in r.earlier x) false (λ past. is_emission (transition_of past call))) (eq-eqb x x refl)
          ∙ ap (λ o. map_or o false (λ past. is_emission (transition_of past call))) past_is
          ∙ is

      by_emission : Emission r x → emits_here x r.earlier r.step.act ≡ true → ⊥
      by_emission e sent =
          let life = unbroken p r late in_ in
          let terms = (rounds_apart p r x m e.message emits e.emits t life).0 in
          let far = apart p r p_in in_ t x m e.message emits e.emits life (sym terms) in
          let clash : true ≡ false = sym (later_here x (when p) r q.earlier r_in sent (omega (arith, far, rule))) ∙ none in
          cc

  -- a round with its message
  pub record Sent (term n i : ℕ) : Type 0 where
    pub message : Message
    pub emits : Emits (start setting top x s0 src i) x message
    pub carries : message.stamp ≡ stamp term (n + i)

  sent_next : (term n i : ℕ) → Sent term n i → IsRound setting top x s0 src i → IsRound setting top x s0 src (suc i)
      → has_later x (when (start setting top x s0 src i)) (start setting top x s0 src (suc i)).earlier ≡ false
      → when (start setting top x s0 src i) < when (start setting top x s0 src (suc i)) → Sent term n (suc i)
  sent_next term n i sent one two none less =
      let p = start setting top x s0 src i in
      let q = start setting top x s0 src (suc i) in
      let e : Emission q x = emission_of q x two.is.here in
      let after = one.is.after in
      let since = one.late in
      let late : s0 < when p = omega (arith, after, since) in
      let before : IsBefore p q = earlier_is_before setting top.earlier p q src.chronicle_.0 one.is.is_in two.is.is_in less in
      let life = unbroken p q late two.is.is_in in
      let follows = next_round p q x sent.message e.message sent.emits e.emits before
      (λ r r_in t. (
        (life r r_in t).0,
        λ past call act
            there. (
              (life r r_in t).1 past call act there,
              still p q sent.message late one.is.is_in sent.emits two.is.is_in none r r_in t past call act
                  there,
            ),
      )) in
      let same = sent.carries in
      record {
        message = e.message;
        emits = e.emits;
        carries = same_stamp e.message.stamp (stamp term (n + suc i)) (follows.0 ∙ ap (λ (s : Stamp). s.term) same)
            (follows.1 ∙ ap (λ (s : Stamp). s.round + 1) same ∙ plus n i);
      }
    where
      plus : (a b : ℕ) → a + b + 1 ≡ a + suc b
      plus a b = omega arith

  pub first_sent : (less : s0 + suc zero * round_gap setting.net < when top) → (m : Message) × Emits (start setting top x s0 src zero) x m
  first_sent less = let e : Emission (start setting top x s0 src zero) x =
      emission_of (start setting top x s0 src zero) x (round_is setting top x s0 src zero less).is.here in (e.message, e.emits)

  pub each_sent : (m : Message) → Emits (start setting top x s0 src zero) x m → (i : ℕ) → s0 + suc i * round_gap setting.net < when top
      → Sent m.stamp.term m.stamp.round i
  each_sent m emits zero less =
      record { message = m; emits = emits; carries = same_stamp m.stamp (stamp m.stamp.term (m.stamp.round + zero)) refl (none m.stamp.round) }
    where
      none : (a : ℕ) → a ≡ a + zero
      none a = omega arith
  each_sent m emits (suc i) less =
      let fewer = less_by s0 i (round_gap setting.net) (when top) less in
      let one = round_is setting top x s0 src i fewer in
      let two = round_is setting top x s0 src (suc i) less in
      sent_next m.stamp.term m.stamp.round i (each_sent m emits i fewer) one two (none two) (later_ two)
    where
      none : IsRound setting top x s0 src (suc i) → has_later x (when (start setting top x s0 src i)) (start setting top x s0 src (suc i)).earlier ≡ false
      none two = subst (λ from. has_later x from (start setting top x s0 src (suc i)).earlier ≡ false) two.from_is two.is.none

      later_ : IsRound setting top x s0 src (suc i) → when (start setting top x s0 src i) < when (start setting top x s0 src (suc i))
      later_ two = subst (λ from. from < when (start setting top x s0 src (suc i))) two.from_is two.is.after
