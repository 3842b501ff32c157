-- Who emits a round once nothing fails any more did not fail: it acts after that, so it follows the plan.
use Rattle.std.specs.Prelude.{◌≡◌, ℕ, ◌<◌, ◌≤◌, true, not, List, ◌∷◌, Some, ◌⊎◌}
use Rattle.std.proofs.Common.{arith, ap, sym, ◌∙◌, subst, inl, inr}
use Rattle.std.proofs.lemmas.Bool.{not-true}
use Rattle.sd_plan.specs.Plans.{is_member}
use Rattle.sd_device.specs.declared.msg.Message.{Message}
use Rattle.sd_device.specs.Words.{after as past_after}
use Rattle.sd_sched.specs.declared.Event.{Event}
use Rattle.sd_history.specs.World.{Setting, is_up, has_commit, plan_numbered}
use Rattle.sd_history.specs.Steps.{Step, seen_of}
use Rattle.sd_history.specs.Chronicle.{past_in, chronicle, next_step}
use Rattle.sd_safety.specs.invariant.Eras.{failed_now, is_old, is_new}
use Rattle.sd_safety.proofs.invariant.Sides.{implied, not_both}
use Rattle.sd_safety.proofs.invariant.Staying.{old_is_member}
use Rattle.sd_safety.specs.messages.Moments.{Tail, whole, IsChronicle, Moment, upto, when, IsIn, IsBefore, Emits}
use Rattle.sd_safety.proofs.messages.Tails.{tail_chronicle, before_is_earlier}
use Rattle.sd_safety.proofs.messages.Consecutive.{emission_acts, past_after_call}
use Rattle.sd_safety.proofs.waits.Standing.{now, clean, steps_timed}
use Rattle.sd_safety.proofs.silences.FirstEra.{emitter_up}
use Rattle.sd_safety.proofs.silences.Phases.{Following, following}
use Rattle.sd_safety.proofs.silences.SoundWays.{top_of}
use Rattle.sd_safety.specs.timers.Times.{AreTimed}
use Rattle.sd_safety.proofs.terms.Actors.{IsActor, actor_is_current}
use Rattle.sd_bound.specs.timeouts.Settled.{IsSettled, IsSoundMember}
use Rattle.sd_bound.proofs.timeouts.Unstaged.{uncommitted}
use Rattle.sd_bound.proofs.timeouts.Settled.{era_is, all_chronicle, StageAt, stage_at}
use Rattle.sd_bound.proofs.timeouts.Scenes.{scene_at}
use Rattle.sd_bound.proofs.traces.Receipts.{known_at}

module _ (setting : Setting) (epoch : ℕ) (x : Event) (h : List Event) (e : Event) (calm : ℕ) (settled : IsSettled setting epoch (x ∷ h) e calm) where
  -- who acts is a member
  actor_member : (a : ℕ) → IsActor setting (chronicle setting (x ∷ h)) a → is_member (plan_numbered setting epoch) a ≡ true
  actor_member a actor =
      subst (λ n. is_member (plan_numbered setting n) a ≡ true) (era_is setting epoch (x ∷ h) e calm settled)
      (old_is_member setting (chronicle setting (x ∷ h)) a ((now setting x h e settled.comes).core.census.outsiders a)
      (old (actor_is_current setting (x ∷ h) settled.comes.fair (clean setting x h e settled.comes) settled.comes.before a actor)))
    where
      old : (is_old (chronicle setting (x ∷ h)) a ≡ true) ⊎ (is_new (chronicle setting (x ∷ h)) a ≡ true) → is_old (chronicle setting (x ∷ h)) a ≡ true
      old (inl is) = is
      old (inr is) =
          absurd (not_both (is_new (chronicle setting (x ∷ h)) a) is
          (not-true (is_new (chronicle setting (x ∷ h)) a)
          (implied (not (has_commit (seen_of (chronicle setting (x ∷ h))))) (not (is_new (chronicle setting (x ∷ h)) a))
          ((now setting x h e settled.comes).core.uncommitted.devices a)
          (ap not (uncommitted (seen_of (chronicle setting (x ∷ h))) settled.way.shut)))))

module _ (setting : Setting) (epoch : ℕ) (history : List Event) (e : Event) (calm : ℕ) (settled : IsSettled setting epoch history e calm) where
  pub well_emitter : (first : Moment) → IsIn first (chronicle setting history) → calm < when first → (source : ℕ) (m : Message) → Emits first source m
      → IsSoundMember setting epoch (failed_now (chronicle setting history)) source
  well_emitter first here late source m emits =
      let steps : List Step = chronicle setting history in
      let chronicle_ : IsChronicle setting (chronicle setting (e ∷ history)) = all_chronicle setting epoch history e calm settled in
      let f : Following first (top_of setting history e) = following first (next_step setting steps e) steps here in
      let t : IsBefore first f.moment = subst (λ l. Tail (upto first) l) (sym f.earlier_is) whole in
      let goes : when first ≤ when f.moment = before_is_earlier setting first f.moment (tail_chronicle setting f.is_in chronicle_) t in
      let after_late : calm < when f.moment = omega (arith, late, goes) in
      let st : StageAt setting epoch calm (chronicle setting history) f.moment = stage_at setting epoch history e calm settled f.moment f.is_in after_late in
      let there : upto first ≡ chronicle setting (st.x ∷ st.h) = sym f.earlier_is ∙ ap (λ (q : Moment). q.earlier) st.is in
      let s = emits.sends in
      let up : is_up (seen_of (upto first)) source ≡ true =
      emitter_up setting first source m (tail_chronicle setting here chronicle_.0) (timed_by st there) emits in
      let past : past_in (upto first) source ≡ Some (past_after s.past s.call) = past_after_call first source s.call s.past s.act s.there in
      let actor : IsActor setting (chronicle setting (st.x ∷ st.h)) source =
      record {
        past = past_after s.past s.call;
        up = subst (λ l. is_up (seen_of l) source ≡ true) there up;
        there = subst (λ l. past_in l source ≡ Some (past_after s.past s.call)) there past;
        acts = emission_acts s.past s.call emits.emission;
      } in
      let member : is_member (plan_numbered setting epoch) source ≡ true = actor_member setting epoch st.x st.h st.e calm st.settled source actor in
      let up_then : is_up (seen_of f.moment.earlier) source ≡ true = subst (λ l. is_up (seen_of l) source ≡ true) (sym f.earlier_is) up in
      record {
        known = known_at setting epoch history e calm settled f.moment f.is_in after_late source up_then;
        member = member;
        self = (scene_at setting epoch history e calm settled f.moment f.is_in after_late).well source up_then member;
      }
    where
      timed_by : {q : Moment} (st : StageAt setting epoch calm (chronicle setting history) q) → upto first ≡ chronicle setting (st.x ∷ st.h)
          → AreTimed setting (upto first)
      timed_by st there = subst (AreTimed setting) (sym there) (steps_timed setting st.x st.h st.e st.settled.comes)
