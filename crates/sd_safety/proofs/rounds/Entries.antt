-- While a round of the era's plan is on its way, nobody but who leads enters the staged plan: who enters has a message that the leader emitted later, and so a
-- period later at least.
use Rattle.std.specs.Prelude.{◌≡◌, ℕ, ◌+◌, ◌<◌, ◌≤◌, true, false, ◌&&◌, not, List, [], ◌∷◌, nat_eq, Some, is_some}
use Rattle.std.proofs.Common.{arith, sym, ◌∙◌, ap, subst}
use Rattle.std.proofs.lemmas.Bool.{and_parts, and_from, eqb-true, false_from_ne_true}
use Rattle.std.proofs.Math.Nat.{le_antisymm}
use Rattle.sd_num.specs.Lists.{map_or}
use Rattle.sd_plan.specs.topo.Network.{least_low}
use Rattle.sd_device.specs.declared.msg.Message.{Message}
use Rattle.sd_device.specs.Calls.{Past}
use Rattle.sd_device.specs.Words.{after, is_acting, epoch_now}
use Rattle.sd_sched.specs.declared.Event.{Event}
use Rattle.sd_history.specs.World.{Setting, has_commit, staged_epoch}
use Rattle.sd_history.specs.Steps.{Step, seen_of, acts_in, parent_in}
use Rattle.sd_history.specs.Chronicle.{past_in, chronicle}
use Rattle.sd_history.proofs.Given.{some_is}
use Rattle.sd_safety.proofs.invariant.Parts.{premises_of}
use Rattle.sd_safety.specs.invariant.Eras.{era, is_new, on_primary, moved, live_past}
use Rattle.sd_safety.specs.invariant.Clauses.{staged_root}
use Rattle.sd_safety.specs.invariant.Invariant.{Invariant, AtEach}
use Rattle.sd_safety.specs.invariant.Guarded.{AreGuarded, IsSteady}
use Rattle.sd_safety.proofs.invariant.Prefix.{clean_before}
use Rattle.sd_safety.proofs.invariant.Sides.{implied}
use Rattle.sd_safety.specs.messages.Moments.{Tail, behind, IsChronicle, Moment, upto, when, IsIn, Emits}
use Rattle.sd_safety.specs.messages.Traces.{Traced}
use Rattle.sd_safety.proofs.messages.Tails.{Order, before as comes_before, same as are_same, after as comes_after, ordered, tail_trans, rest_of, tail_chronicle, history_chronicle, before_is_earlier}
use Rattle.sd_safety.proofs.messages.Tracing.{accepted_traced}
use Rattle.sd_safety.proofs.messages.Latest.{Emitted, traced_emission}
use Rattle.sd_safety.proofs.messages.Sending.{sends_own}
use Rattle.sd_safety.proofs.messages.Consecutive.{past_after_call, rounds_apart}
use Rattle.sd_safety.proofs.waits.Standing.{now}
use Rattle.sd_safety.proofs.silences.Phases.{era_grows}
use Rattle.sd_safety.proofs.silences.FirstEra.{commit_stays}
use Rattle.sd_safety.specs.windows.Reaching.{reach}
use Rattle.sd_safety.proofs.windows.NoneBeforeCommit.{within, epoch_within}
use Rattle.sd_safety.proofs.windows.StaysNew.{reached}
use Rattle.sd_safety.proofs.windows.Senders.{NewPast, new_past_of}
use Rattle.sd_safety.proofs.receipts.Hearings.{IsHeard, heard_in_plan}
use Rattle.sd_safety.proofs.receipts.Stood.{acts_is}
use Rattle.sd_safety.proofs.entering.Stages.{Stage, stage}
use Rattle.sd_safety.proofs.entering.Entering.{reached_from}
use Rattle.sd_safety.proofs.entering.Hears.{idle_by}
use Rattle.sd_safety.proofs.rounds.Places.{InEra}
use Rattle.sd_safety.proofs.rounds.Leaders.{IsLeader, spacing, one_life, emitter, leader_is_staged}

-- after a moment at which a device is of the plan after the era's, that is the staged one, with a commit
pub committed_from : (setting : Setting) (history : List Event) → AreGuarded setting → IsSteady setting history
    → AtEach (Invariant setting) (chronicle setting history) → (q : Moment) → IsIn q (chronicle setting history) → (d : ℕ) (past : Past)
    → past_in (upto q) d ≡ Some past → epoch_now past ≡ era (chronicle setting history) + 1
    → (has_commit (seen_of (upto q)) ≡ true) × (era (chronicle setting history) ≤ era (upto q))
committed_from setting [] fair clean each q here d past there epoch = elim here [ ]
committed_from setting (x ∷ h) fair clean each q here d past there epoch =
    let steps : List Step = chronicle setting (x ∷ h) in
    let st : Stage setting q = stage setting fair q h x clean each.0 here in
    let is : upto q ≡ chronicle setting (st.e ∷ st.h) = ap upto st.is in
    let le : epoch_now past ≤ reach (upto q) =
    subst (λ l. epoch_now past ≤ reach l) (sym is)
    ((within setting (st.e ∷ st.h) st.comes.clean.is).epochs d past (subst (λ l. past_in l d ≡ Some past) is there)) in
    reached_from (has_commit (seen_of (upto q))) (era (upto q)) (era steps) (era_grows (upto q) steps here) (subst (λ n. n ≤ reach (upto q)) epoch le)

next_not : (a b : ℕ) → a ≡ b → a ≡ b + 1 → ⊥
next_not a b same next = omega (arith, same, next)

module _ (setting : Setting) (x : Event) (h : List Event) (e : Event) (s0 a : ℕ) (l : IsLeader setting x h e s0 a) (first : Moment)
    (first_in : IsIn first (chronicle setting (x ∷ h))) (late : s0 < when first) (m : Message) (emits : Emits first a m)
    (old : m.epoch ≡ era (chronicle setting (x ∷ h))) (calm : has_commit (seen_of first.earlier) ≡ true → era first.earlier ≡ era (chronicle setting (x ∷ h))
    → ⊥) where
  abbrev steps : List Step
  steps = chronicle setting (x ∷ h)

  clean : IsSteady setting (x ∷ h)
  clean = clean_before setting e (x ∷ h) l.span.comes.clean

  steps_is : IsChronicle setting (chronicle setting (x ∷ h))
  steps_is = history_chronicle setting (x ∷ h) clean.is

  -- an emission in the staged plan comes a period later at least
  comes_late : (p : Moment) → IsIn p (chronicle setting (x ∷ h)) → (y : ℕ) (n : Message) → Emits p y n → n.epoch ≡ era (chronicle setting (x ∷ h)) + 1
      → when first + least_low setting.net setting.net.params.period ≤ when p
  comes_late p p_in y n two next = by_order (ordered steps first p first_in p_in)
    where
      there : past_in (upto p) y ≡ Some (after two.sends.past two.sends.call)
      there = past_after_call p y two.sends.call two.sends.past two.sends.act two.sends.there

      number : epoch_now (after two.sends.past two.sends.call) ≡ era steps + 1
      number = sym (sends_own two.sends.past two.sends.call n two.sends.effect).1 ∙ next

      far : (has_commit (seen_of (upto p)) ≡ true) × (era steps ≤ era (upto p))
      far = committed_from setting (x ∷ h) l.span.comes.fair clean l.span.comes.before p p_in y (after two.sends.past two.sends.call) there number

      by_order : Order first p → when first + least_low setting.net setting.net.params.period ≤ when p
      by_order (comes_before t) =
          let goes : when first ≤ when p = before_is_earlier setting first p (tail_chronicle setting p_in steps_is) t in
          let by_leader : y ≡ a = emitter setting x h e s0 a l p p_in (omega (arith, late, goes)) y n two in
          let two' : Emits p a n = subst (λ z. Emits p z n) by_leader two in
          let life = one_life setting x h e s0 a l first p late p_in in
          spacing setting x h e s0 a l first p first_in p_in t a m n emits two' life (sym (rounds_apart first p a m n emits two' t life).0)
      by_order (are_same equal) =
          let times : when first ≡ when p = ap when_first equal in
          let by_leader : y ≡ a = emitter setting x h e s0 a l p p_in (omega (arith, late, times)) y n two in
          let s = emits.sends in
          let here : past_in (upto first) a ≡ Some (after s.past s.call) = past_after_call first a s.call s.past s.act s.there in
          let there' : past_in (upto first) a ≡ Some (after two.sends.past two.sends.call) =
          subst (λ older. past_in older a ≡ Some (after two.sends.past two.sends.call)) (sym equal)
          (subst (λ z. past_in (upto p) z ≡ Some (after two.sends.past two.sends.call)) by_leader there) in
          absurd (next_not (epoch_now (after s.past s.call)) (era steps) (sym (sends_own s.past s.call m s.effect).1 ∙ old)
          (ap epoch_now (some_is (sym here ∙ there')) ∙ number))
        where
          when_first : List Step → ℕ
          when_first [] = 0
          when_first (s ∷ earlier) = when (record { step = s; earlier = earlier })
      by_order (comes_after t) =
          let one : era (upto p) ≤ era first.earlier = era_grows (upto p) first.earlier t in
          let two_ : era first.earlier ≤ era steps = era_grows first.earlier steps (rest_of first_in) in
          let least = far.1 in
          let had : has_commit (seen_of first.earlier) ≡ true =
          commit_stays setting (upto p) first.earlier t (tail_chronicle setting (rest_of first_in) steps_is) (omega (arith, two_, least)) far.0 in
          absurd (calm had (le_antisymm two_ (omega (arith, one, least))))

  -- so before that no device but the leader is new
  pub none_enters : (q : Moment) → IsIn q (chronicle setting (x ∷ h)) → s0 < when q → when q < when first + least_low setting.net setting.net.params.period
      → (k : InEra setting (chronicle setting (x ∷ h)) q) → (y : ℕ) → (y ≡ a → ⊥)
      → is_new (chronicle setting (k.x ∷ k.h)) y ≡ false
  none_enters q q_in since soon k y other = false_from_ne_true (is_new older y) never
    where
      older : List Step
      older = chronicle setting (k.x ∷ k.h)

      k_clean : IsSteady setting (k.x ∷ k.h)
      k_clean = clean_before setting k.e (k.x ∷ k.h) k.comes.clean

      inside : Tail (chronicle setting (k.x ∷ k.h)) (chronicle setting (x ∷ h))
      inside = k.part

      never : is_new (chronicle setting (k.x ∷ k.h)) y ≡ true → ⊥
      never new =
          let own : NewPast older y = new_past_of setting (k.x ∷ k.h) y new in
          let commit : has_commit (seen_of older) ≡ true =
          reached (has_commit (seen_of older)) (era older) (epoch_within setting (k.x ∷ k.h) k_clean.is y (staged_epoch (seen_of older)) new) in
          let leads : staged_root setting older ≡ a =
          subst (λ (p : Moment). has_commit (seen_of p.earlier) ≡ true
          → staged_root setting p.earlier ≡ a) k.is (leader_is_staged setting x h e s0 a l q (behind q_in) since) commit in
          let apart : nat_eq y (staged_root setting older) ≡ false =
          false_from_ne_true (nat_eq y (staged_root setting older)) (λ same. other (eqb-true y (staged_root setting older) same ∙ leads)) in
          let inv : Invariant setting older = now setting k.x k.h k.e k.comes in
          let linked =
          implied (is_new older y && not (nat_eq y (staged_root setting older))) _ (inv.core.committed.linked y)
          (and_from (is_new older y) (not (nat_eq y (staged_root setting older))) new (ap not apart)) in
          let primary = (and_parts (on_primary older y) _ (and_parts (on_primary older y && map_or (parent_in older y) false (is_new older)) _ linked).0).0 in
          let idle : is_acting own.past ≡ false = sym (acts_is setting (k.x ∷ k.h) y own.past own.up own.there)
          ∙ idle_by (is_some (live_past older y)) (moved older y) (acts_in older y) primary in
          let heard : IsHeard setting (k.x ∷ k.h) y (era older + 1) =
          heard_in_plan setting (k.x ∷ k.h) k_clean.is y own.past own.there (era older + 1) own.epoch (omega arith) idle in
          let traced : Traced setting heard.message.stamp heard.message.epoch heard.moment y =
          accepted_traced setting older (history_chronicle setting (k.x ∷ k.h) k_clean.is)
          (premises_of setting (seen_of older) k_clean.premises).delay heard.moment heard.inside y heard.link heard.message heard.counter heard.past
          heard.edge heard.there heard.act heard.over in
          let em : Emitted older heard.message.stamp heard.message.epoch =
          traced_emission setting older heard.message.stamp heard.message.epoch heard.moment y heard.inside traced in
          let p_in : IsIn em.moment steps = tail_trans em.is_in inside in
          let by : when first + least_low setting.net setting.net.params.period ≤ when em.moment =
          comes_late em.moment p_in em.device em.message em.emits (em.epoch_is ∙ heard.epoch ∙ ap (λ n. n + 1) k.same) in
          let in_q : Tail (upto em.moment) q.earlier =
          subst (λ (l : List Step). Tail (upto em.moment) l) (sym (ap (λ (p : Moment). p.earlier) k.is)) em.is_in in
          let goes : when em.moment ≤ when q = before_is_earlier setting em.moment q (tail_chronicle setting q_in steps_is) in_q in
          absurd (omega (arith, by, goes, soon))
