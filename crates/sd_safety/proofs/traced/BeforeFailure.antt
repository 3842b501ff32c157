-- What the root emits of its era's plan it emits no later than it fails first in the era.
use Rattle.std.specs.Prelude.{◌≡◌, ℕ, ◌≤◌, Bool, true, false, ◌||◌, List, [], ◌∷◌, nat_eq, Option, Some, refl}
use Rattle.std.proofs.Common.{arith, ◌∙◌, ap, sym, subst}
use Rattle.std.proofs.Math.Nat.{le_antisymm}
use Rattle.sd_num.specs.Lists.{map_or}
use Rattle.sd_plan.specs.declared.topo.Thing.TheVariants as thing
use Rattle.sd_device.specs.declared.msg.Message.{Message}
use Rattle.sd_device.specs.Words.{epoch_now}
use Rattle.sd_sched.specs.declared.Event.{Event}
use Rattle.sd_history.specs.World.{Setting, fails, is_up, plan_numbered}
use Rattle.sd_history.specs.Steps.{Step, seen_of}
use Rattle.sd_history.specs.Chronicle.{past_in, chronicle, next_step}
use Rattle.sd_history.proofs.Among.{first}
use Rattle.sd_safety.specs.invariant.Eras.{era, plan_now, is_among, failed_now, root_failed, first_failure, late, all_started}
use Rattle.sd_safety.specs.invariant.Invariant.{Invariant, AtEach}
use Rattle.sd_safety.specs.invariant.Silences.{root_failed_at}
use Rattle.sd_safety.specs.invariant.Guarded.{AreGuarded, IsSteady}
use Rattle.sd_safety.proofs.invariant.Sides.{not_both}
use Rattle.sd_safety.specs.messages.Moments.{whole, behind, IsChronicle, Moment, upto, when, IsIn, IsBefore, Emits}
use Rattle.sd_safety.proofs.messages.Tails.{Order, before, same, after, ordered, rest_of, tail_chronicle, history_chronicle, before_is_earlier}
use Rattle.sd_safety.proofs.messages.Opening.{sending_fails_not}
use Rattle.sd_safety.proofs.messages.Sending.{sends_own}
use Rattle.sd_safety.proofs.silences.Phases.{era_grows, fails_among, failed_on}
use Rattle.sd_safety.proofs.silences.RootIsSource.{emission_keeps}
use Rattle.sd_safety.proofs.silences.SoundWays.{top_of}
use Rattle.sd_safety.proofs.windows.Senders.{called_is_up}
use Rattle.sd_safety.proofs.behind.Failing.{FirstFailure, first_failing, some_failed, chronicle_tail}
use Rattle.sd_safety.proofs.behind.EraSums.{late_since}
use Rattle.sd_safety.proofs.entering.Stages.{Stage, stage}
use Rattle.sd_safety.proofs.traced.Roots.{root_acts_old}

pub emits_before : (setting : Setting) (x : Event) (h : List Event) → AreGuarded setting → IsSteady setting (x ∷ h)
    → AtEach (Invariant setting) (chronicle setting (x ∷ h)) → root_failed setting (chronicle setting (x ∷ h)) ≡ true
    → (p : Moment) → IsIn p (chronicle setting (x ∷ h)) → (m : Message) → Emits p (plan_now setting (chronicle setting (x ∷ h))).root m
    → m.epoch ≡ era (chronicle setting (x ∷ h)) → when p ≤ root_failed_at setting (chronicle setting (x ∷ h))
emits_before setting x h fair clean each failed p here m emits own = by (first_failing setting (thing.Device root ∷ []) (x ∷ h) found.0 found.1)
  where
    steps : List Step
    steps = chronicle setting (x ∷ h)

    root : ℕ
    root = (plan_now setting (chronicle setting (x ∷ h))).root

    is_chronicle : IsChronicle setting (chronicle setting (x ∷ h))
    is_chronicle = history_chronicle setting (x ∷ h) clean.is

    found : (r : ℕ) × (first_failure (thing.Device root ∷ []) (seen_of (chronicle setting (x ∷ h))) ≡ Some r)
    found = some_failed (thing.Device root ∷ []) (seen_of steps) (thing.Device root) first failed

    one_fails : (b : Bool) → (b || false) ≡ true → b ≡ true
    one_fails true is = refl
    one_fails false is = cc

    by : FirstFailure setting (thing.Device root ∷ []) (x ∷ h) found.0 → when p ≤ root_failed_at setting (chronicle setting (x ∷ h))
    by f = at_failure (order (ordered steps p g here g_in))
      where
        g : Moment
        g = top_of setting f.earlier f.event

        g_in : IsIn g (chronicle setting (x ∷ h))
        g_in = (chronicle_tail setting (f.event ∷ f.earlier) (x ∷ h) f.tail)

        fails_root : fails (thing.Device root) f.event ≡ true
        fails_root = one_fails (fails (thing.Device root) f.event) f.fails

        -- after it the root is of the era's plan no more
        later : IsBefore g p → ⊥
        later t =
            let st : Stage setting p = stage setting fair p h x clean each.0 here in
            let older : List Step = chronicle setting st.h in
            let earlier_is : p.earlier ≡ older = ap (λ (q : Moment). q.earlier) st.is in
            let s = emits.sends in
            let past_own : epoch_now s.past ≡ era steps = sym ((sends_own s.past s.call m s.effect).1 ∙ emission_keeps s.past s.call emits.emission) ∙ own in
            let low : era (chronicle setting f.earlier) ≤ era (upto g) = era_grows (chronicle setting f.earlier) (upto g) (behind whole) in
            let mid : era (upto g) ≤ era p.earlier = era_grows (upto g) p.earlier t in
            let high : era p.earlier ≤ era steps = era_grows p.earlier steps (rest_of here) in
            let eras = f.era in
            let here_era : era p.earlier ≡ era steps = le_antisymm high (omega (arith, low, mid, eras)) in
            let number : era older ≡ era steps = sym (ap era earlier_is) ∙ here_era in
            let up : is_up (seen_of older) root ≡ true =
            (called_is_up setting older root s.call st.e st.comes.clean.is.1 (sym (ap (λ (q : Moment). q.step.act) st.is) ∙ s.act)).up in
            let there : past_in older root ≡ Some s.past = subst (λ l. past_in l root ≡ Some s.past) earlier_is s.there in
            let kept : root_failed setting older ≡ false =
            (root_acts_old setting st.h st.e st.comes s.past (subst (λ n. is_up (seen_of older) (plan_numbered setting n).root ≡ true) (sym number) up)
            (subst (λ n. past_in older (plan_numbered setting n).root ≡ Some s.past) (sym number) there) (past_own ∙ sym number)).1 in
            let gone : is_among (failed_now p.earlier) (thing.Device root) ≡ true =
            failed_on (thing.Device root) (upto g) p.earlier t (omega (arith, high, low, eras))
            (fails_among (next_step setting (chronicle setting f.earlier) f.event) (chronicle setting f.earlier)
            (thing.Device root) f.stays_open fails_root) in
            not_both (root_failed setting older)
            (subst (λ n. is_among (failed_now older) (thing.Device (plan_numbered setting n).root) ≡ true) (sym number)
            (subst (λ l. is_among (failed_now l) (thing.Device root) ≡ true) earlier_is gone)) kept

        order : Order p g → when p ≤ when g
        order (before t) = before_is_earlier setting p g (tail_chronicle setting g_in is_chronicle) t
        order (same equal) =
            absurd
            (not_both (first_fails (upto g)) fails_root (sym (ap first_fails equal)
            ∙ sending_fails_not setting p root m (thing.Device root) (tail_chronicle setting here is_chronicle) emits.sends))
          where
            first_fails : List Step → Bool
            first_fails [] = false
            first_fails (s ∷ earlier) = fails (thing.Device root) s.seen.event
        order (after t) = absurd (later t)

        at_failure : when p ≤ when g → when p ≤ root_failed_at setting (chronicle setting (x ∷ h))
        at_failure le =
            let at = f.at in
            let value : map_or (first_failure (thing.Device root ∷ []) (seen_of steps)) 0 (λ reference. reference) ≡ found.0 =
            ap (λ (o : Option ℕ). map_or o 0 (λ reference. reference)) found.1 in
            let lower : found.0 ≤ late setting steps found.0 = late_since (nat_eq (era steps) 1) found.0 (all_started setting steps) in
            subst (λ r. when p ≤ late setting steps r) (sym value) (trans_le (when p) (when g) found.0 (late setting steps found.0) le at lower)
          where
            trans_le : (a b c d : ℕ) → a ≤ b → b ≡ c → c ≤ d → a ≤ d
            trans_le a b c d one two three = omega (arith, one, two, three)
