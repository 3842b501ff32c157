-- Two emissions of one device in the era, of its plan, lie at least Low of the period apart.
use Rattle.std.specs.Prelude.{◌≡◌, ℕ, ◌+◌, ◌≤◌, true, List, [], ◌∷◌, Some}
use Rattle.std.proofs.Common.{arith, ◌∙◌, ap, sym, subst}
use Rattle.std.proofs.lemmas.Bool.{eq-eqb}
use Rattle.std.proofs.Math.Nat.{le_antisymm}
use Rattle.sd_num.specs.Lists.{same_number}
use Rattle.sd_plan.specs.topo.Network.{least_low}
use Rattle.sd_device.specs.declared.msg.Message.{Message}
use Rattle.sd_device.specs.Words.{epoch_now}
use Rattle.sd_sched.specs.declared.Event.{Event}
use Rattle.sd_history.specs.World.{Setting, is_up}
use Rattle.sd_history.specs.Steps.{Step, seen_of}
use Rattle.sd_history.specs.Chronicle.{past_in, chronicle}
use Rattle.sd_safety.specs.invariant.Eras.{era, is_old}
use Rattle.sd_safety.specs.invariant.Guarded.{IsSteady}
use Rattle.sd_safety.specs.invariant.Coming.{IsNextEvent}
use Rattle.sd_safety.proofs.invariant.Prefix.{clean_before}
use Rattle.sd_safety.specs.messages.Moments.{Tail, IsChronicle, Moment, upto, when, IsIn, IsBefore, Emits}
use Rattle.sd_safety.specs.messages.Rounds.{IsUnbroken}
use Rattle.sd_safety.proofs.messages.Tails.{tail_trans, rest_of, tail_chronicle, history_chronicle}
use Rattle.sd_safety.proofs.messages.Sending.{sends_own}
use Rattle.sd_safety.proofs.messages.Consecutive.{rounds_apart}
use Rattle.sd_safety.proofs.timers.Histories.{before}
use Rattle.sd_safety.proofs.waits.Standing.{times, steps_timed}
use Rattle.sd_safety.proofs.silences.Phases.{era_grows}
use Rattle.sd_safety.proofs.silences.Spacing.{emissions_are_apart}
use Rattle.sd_safety.proofs.silences.FirstEra.{emitter_up}
use Rattle.sd_safety.proofs.silences.SoundWays.{top_of}
use Rattle.sd_safety.proofs.silences.RootIsSource.{emission_keeps}
use Rattle.sd_safety.proofs.windows.Senders.{called_is_up}
use Rattle.sd_safety.proofs.receipts.Stood.{epoch_is}
use Rattle.sd_safety.proofs.entering.Stages.{Stage, stage}
use Rattle.sd_safety.proofs.paths.Unbroken.{unbroken_since}
use Rattle.sd_safety.proofs.timers.Emissions.{timed_tail}

module _ (setting : Setting) (x : Event) (h : List Event) (e : Event) (comes : IsNextEvent setting (x ∷ h) e) (p q : Moment)
    (here : IsIn q (chronicle setting (x ∷ h))) (order : IsBefore p q) (late : era (chronicle setting (x ∷ h)) ≤ era (upto p))
    (a : ℕ) (m k : Message) (one : Emits p a m) (two : Emits q a k) (own : k.epoch ≡ era (chronicle setting (x ∷ h))) where
  abbrev steps : List Step
  steps = chronicle setting (x ∷ h)

  clean : IsSteady setting (x ∷ h)
  clean = clean_before setting e (x ∷ h) comes.clean

  all : IsChronicle setting (chronicle setting (x ∷ h))
  all = history_chronicle setting (x ∷ h) clean.is

  p_in : IsIn p (chronicle setting (x ∷ h))
  p_in = tail_trans order (rest_of here)

  up_p : is_up (seen_of (upto p)) a ≡ true
  up_p = emitter_up setting p a m (tail_chronicle setting p_in all) (timed_tail setting (upto p) steps p_in (steps_timed setting x h e comes)) one

  number : epoch_now two.sends.past ≡ era (chronicle setting (x ∷ h))
  number = let s = two.sends in sym ((sends_own s.past s.call k s.effect).1 ∙ emission_keeps s.past s.call two.emission) ∙ own

  same : era q.earlier ≡ era (chronicle setting (x ∷ h))
  same =
      let grows : era (upto p) ≤ era q.earlier = era_grows (upto p) q.earlier order in
      let le : era q.earlier ≤ era steps = era_grows q.earlier steps (rest_of here) in
      let least = late in
      le_antisymm le (omega (arith, grows, least))

  unbroken_by : (hs : List Event) (f : Event) → q ≡ top_of setting hs f → IsNextEvent setting hs f → IsUnbroken p q a
  unbroken_by [] f is comes_ = absurd (none (subst (λ (r : Moment). Tail (upto p) r.earlier) is order))
    where
      none : Tail (upto p) [] → ⊥
      none t = elim t [ ]
  unbroken_by (y ∷ ys) f is comes_ =
      let older : List Step = chronicle setting (y ∷ ys) in
      let earlier_is : q.earlier ≡ older = ap (λ (r : Moment). r.earlier) is in
      let eras : era older ≡ era steps = sym (ap era earlier_is) ∙ same in
      let s = two.sends in
      let up : is_up (seen_of older) a ≡ true =
      (called_is_up setting older a s.call f comes_.clean.is.1 (sym (ap (λ (r : Moment). r.step.act) is) ∙ s.act)).up in
      let there : past_in older a ≡ Some s.past = subst (λ l. past_in l a ≡ Some s.past) earlier_is s.there in
      let old : is_old older a ≡ true = ap (λ o. same_number o (era older)) (epoch_is setting (y ∷ ys) a s.past up there)
      ∙ eq-eqb (epoch_now s.past) (era older) (number ∙ sym eras) in
      subst (λ r. IsUnbroken p r a) (sym is) (unbroken_since setting y ys f comes_ a old p (subst (λ n. n ≤ era (upto p)) (sym eras) late) up_p)

  unbroken : IsUnbroken p q a
  unbroken = let st : Stage setting q = stage setting comes.fair q h x clean comes.before.0 here in unbroken_by st.h st.e st.is st.comes

  pub period_apart : when p + least_low setting.net setting.net.params.period ≤ when q
  period_apart =
      emissions_are_apart setting (x ∷ h) (before setting e (x ∷ h) (times setting x h e comes)) p q p_in here order a m k one two unbroken
      (sym (rounds_apart p q a m k one two order unbroken).0)
