-- From its takeover on, each event of the history comes in the era, when all have started, and without a commit; and the backup root stands old, has moved,
-- and acts from the next event on.
use Rattle.std.specs.Prelude.{◌≡◌, ℕ, ◌<◌, ◌≤◌, true, false, not, List, [], ◌∷◌, nat_eq, nat_le, refl}
use Rattle.std.proofs.Common.{arith, ◌∙◌, sym, subst}
use Rattle.std.proofs.lemmas.Bool.{and_from, le-leb, not-true, false_from_ne_true}
use Rattle.sd_sched.specs.declared.Event.{Event}
use Rattle.sd_sched.specs.Events.{reference_of}
use Rattle.sd_history.specs.World.{Setting, has_commit, latest_reference}
use Rattle.sd_history.specs.Steps.{Step, seen_of, acts_in}
use Rattle.sd_history.specs.Chronicle.{chronicle, next_step}
use Rattle.sd_safety.specs.invariant.Eras.{era, plan_now, all_started, is_old, moved}
use Rattle.sd_safety.specs.invariant.Clauses.{is_beginning}
use Rattle.sd_safety.specs.invariant.Guarded.{IsSteady}
use Rattle.sd_safety.specs.invariant.Coming.{IsNextEvent}
use Rattle.sd_safety.proofs.invariant.Prefix.{clean_before}
use Rattle.sd_safety.proofs.invariant.Sides.{implied, not_both}
use Rattle.sd_safety.specs.messages.Moments.{Tail, whole, behind, IsChronicle, Moment, upto, when, IsIn, IsBefore}
use Rattle.sd_safety.proofs.messages.Tails.{history_chronicle, step_time, earlier_is_before}
use Rattle.sd_safety.proofs.messages.Flowing.{tail_rest}
use Rattle.sd_safety.proofs.waits.Waits.{Stands, old_stands}
use Rattle.sd_safety.proofs.waits.Standing.{now, Early}
use Rattle.sd_safety.proofs.silences.States.{not_old_and_new}
use Rattle.sd_safety.proofs.silences.Phases.{Known}
use Rattle.sd_safety.proofs.silences.FirstEra.{commit_stays}
use Rattle.sd_safety.proofs.silences.SoundWays.{top_of}
use Rattle.sd_safety.proofs.terms.Actors.{IsActor, actor_is_new}
use Rattle.sd_safety.proofs.entering.Stages.{Stage, stage}
use Rattle.sd_safety.proofs.takeovers.Since.{StoodSo, HasTakenOver, has_moved_on, taken_over}

-- who has moved did so when members could no longer start
late_of : (setting : Setting) (x : Event) (h : List Event) (e : Event) (comes : IsNextEvent setting (x ∷ h) e) (b : ℕ)
    → moved (chronicle setting (x ∷ h)) b ≡ true
    → Early setting x h e comes → ⊥
late_of setting x h e comes b put early =
    let steps : List Step = chronicle setting (x ∷ h) in
    let goes : latest_reference (seen_of steps) ≤ reference_of e =
    step_time setting (next_step setting steps e) steps (history_chronicle setting (e ∷ x ∷ h) comes.clean.is) in
    let by = early.1 in
    let begins : is_beginning setting steps ≡ true =
    and_from (nat_eq (era steps) 1) (nat_le (latest_reference (seen_of steps)) (all_started setting steps)) early.0
    (le-leb (latest_reference (seen_of steps)) (all_started setting steps) (omega (arith, goes, by))) in
    not_both (moved steps b) put
    (not-true (moved steps b) (implied (is_beginning setting steps) (not (moved steps b)) ((now setting x h e comes).core.calm.still b) begins))

module _ (setting : Setting) (x : Event) (h : List Event) (e : Event) (comes : IsNextEvent setting (x ∷ h) e)
    (old : is_old (chronicle setting (x ∷ h)) (plan_now setting (chronicle setting (x ∷ h))).backup_root ≡ true)
    (acts : acts_in (chronicle setting (x ∷ h)) (plan_now setting (chronicle setting (x ∷ h))).backup_root ≡ true) where
  abbrev steps : List Step
  steps = chronicle setting (x ∷ h)

  abbrev b : ℕ
  b = (plan_now setting (chronicle setting (x ∷ h))).backup_root

  pub took : HasTakenOver (chronicle setting (x ∷ h)) b
  took = taken_over setting (x ∷ h) e comes b refl old acts

  pub all_chronicle : IsChronicle setting (chronicle setting (e ∷ x ∷ h))
  all_chronicle = history_chronicle setting (e ∷ x ∷ h) comes.clean.is

  pub stood : (q : Moment) → IsIn q (chronicle setting (e ∷ x ∷ h)) → IsIn took.moment (upto q) → StoodSo (chronicle setting (x ∷ h)) q b
  stood q whole since = (refl, old, has_moved_on setting (x ∷ h) e comes b refl old acts)
  stood q (behind t) since = took.stood q t since

  pub acted_then : (q : Moment) → IsIn q (chronicle setting (e ∷ x ∷ h)) → IsBefore took.moment q → acts_in q.earlier b ≡ true
  acted_then q whole since = acts
  acted_then q (behind t) since = took.acted q t since

  -- what is later than the takeover comes after it
  pub after : (q : Moment) → IsIn q (chronicle setting (e ∷ x ∷ h)) → when took.moment < when q → IsBefore took.moment q
  after q here late = earlier_is_before setting (chronicle setting (e ∷ x ∷ h)) took.moment q all_chronicle (behind took.is_in) here late

  -- the acting device
  pub actor_now : IsActor setting (chronicle setting (x ∷ h)) b
  actor_now = let s : Stands setting steps b = old_stands setting (x ∷ h) b old in
      record { past = s.past; up = s.live; there = s.there; acts = sym s.acts_is ∙ acts }

  pub clean_now : IsSteady setting (x ∷ h)
  clean_now = clean_before setting e (x ∷ h) comes.clean

  calm : has_commit (seen_of (chronicle setting (x ∷ h))) ≡ false
  calm =
      false_from_ne_true (has_commit (seen_of steps))
      (λ commit. not_old_and_new steps b old (actor_is_new setting (x ∷ h) comes.fair clean_now comes.before commit b actor_now))

  calm_then : (q : Moment) → IsIn q (chronicle setting (e ∷ x ∷ h)) → era q.earlier ≡ era (chronicle setting (x ∷ h)) → has_commit (seen_of q.earlier) ≡ false
  calm_then q here same =
      false_from_ne_true (has_commit (seen_of q.earlier))
      (λ is. not_both (has_commit (seen_of steps))
      (commit_stays setting q.earlier steps (tail_rest here) all_chronicle.0 (least (era steps) (era q.earlier) same) is) calm)
    where
      least : (n k : ℕ) → k ≡ n → n ≤ k
      least n k is = omega (arith, is)

  pub known_since : (q : Moment) → IsIn q (chronicle setting (e ∷ x ∷ h)) → IsIn took.moment (upto q) → Known setting (chronicle setting (x ∷ h)) q
  known_since q here since = by st.h st.e st.is st.comes
    where
      st : Stage setting q
      st = stage setting comes.fair q (x ∷ h) e comes.clean comes.before here

      told : StoodSo (chronicle setting (x ∷ h)) q b
      told = stood q here since

      nothing : is_old (chronicle setting []) b ≡ true → ⊥
      nothing old_ = cc

      by : (hs : List Event) (f : Event) → q ≡ top_of setting hs f → IsNextEvent setting hs f → Known setting (chronicle setting (x ∷ h)) q
      by [] f is comes' = absurd (nothing (subst (λ (p : Moment). is_old p.earlier b ≡ true) is told.1))
      by (y ∷ hs) f is comes' =
          record {
            x = y;
            h = hs;
            e = f;
            is = is;
            comes = comes';
            late = late_of setting y hs f comes' b (subst (λ (p : Moment). moved p.earlier b ≡ true) is told.2);
            same = subst (λ (p : Moment). era p.earlier ≡ era steps) is told.0;
            calm = subst (λ (p : Moment). has_commit (seen_of p.earlier) ≡ false) is (calm_then q here told.0);
            part = subst (λ (p : Moment). Tail p.earlier steps) is (tail_rest here);
          }
