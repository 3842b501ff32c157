-- A moment of a span is an event that comes with the invariant: of the era, or of the window before it, after its commit.
use Rattle.std.specs.Prelude.{◌≡◌, ℕ, ◌+◌, ◌<◌, Bool, true, false, List, [], ◌∷◌, nat_eq, Some, refl, ◌⊎◌}
use Rattle.std.proofs.Common.{arith, sym, ◌∙◌, ap, subst, inl, inr}
use Rattle.std.proofs.lemmas.Bool.{eqb-true}
use Rattle.sd_device.specs.Calls.{Past}
use Rattle.sd_sched.specs.declared.Event.{Event}
use Rattle.sd_sched.specs.Events.{reference_of}
use Rattle.sd_history.specs.World.{Setting, is_up, has_commit, link_has_failed}
use Rattle.sd_history.specs.Steps.{Step, seen_of}
use Rattle.sd_history.specs.Chronicle.{past_in, chronicle}
use Rattle.sd_safety.specs.invariant.Eras.{era, beginning}
use Rattle.sd_safety.specs.invariant.Coming.{IsNextEvent}
use Rattle.sd_safety.proofs.invariant.Sides.{not_both}
use Rattle.sd_safety.specs.messages.Moments.{Tail, Moment, when, IsIn}
use Rattle.sd_safety.specs.messages.Rounds.{IsReady}
use Rattle.sd_safety.proofs.messages.Flowing.{tail_rest}
use Rattle.sd_safety.proofs.waits.Standing.{Early}
use Rattle.sd_safety.proofs.silences.Phases as phases
use Rattle.sd_safety.proofs.silences.SoundWays.{top_of}
use Rattle.sd_safety.proofs.entering.Stages.{Stage, stage}
use Rattle.sd_safety.specs.rounds.Spans.{IsWithin, in_era, in_window, IsSpan}

-- a moment of the era, when all members of a first plan have started
pub record InEra (setting : Setting) (steps : List Step) (q : Moment) : Type 0 where
  pub x : Event
  pub h : List Event
  pub e : Event
  pub is : q ≡ top_of setting (x ∷ h) e
  pub comes : IsNextEvent setting (x ∷ h) e
  pub late : Early setting x h e comes → ⊥
  pub same : era (chronicle setting (x ∷ h)) ≡ era steps
  pub part : Tail (chronicle setting (x ∷ h)) steps

-- a moment after the commit of the window before it
pub record InWindow (setting : Setting) (steps : List Step) (q : Moment) : Type 0 where
  pub h : List Event
  pub e : Event
  pub is : q ≡ top_of setting h e
  pub comes : IsNextEvent setting h e
  pub commit : has_commit (seen_of (chronicle setting h)) ≡ true
  pub same : era (chronicle setting h) + 1 ≡ era steps

module _ (setting : Setting) (x : Event) (h : List Event) (e : Event) (s0 : ℕ) (span : IsSpan setting x h e s0) where
  abbrev steps : List Step
  steps = chronicle setting (x ∷ h)

  -- in the first era
  in_first : (q : Moment) → IsIn q (chronicle setting (e ∷ x ∷ h)) → s0 < when q → era q.earlier ≡ era (chronicle setting (x ∷ h))
      → era (chronicle setting (x ∷ h)) ≡ 1 → InEra setting (chronicle setting (x ∷ h)) q
  in_first q here after same first =
      let started = span.started first in
      let st : phases.Stage setting (beginning (seen_of (chronicle setting (e ∷ x ∷ h)))) q =
      phases.stage setting span.comes.fair q (x ∷ h) e span.comes.clean span.comes.before here (omega (arith, started, after)) in
      let reference : when q ≡ reference_of st.e = ap when st.is in
      let begins = st.begins in
      record {
        x = st.x;
        h = st.h;
        e = st.e;
        is = st.is;
        comes = st.comes;
        late = λ early. let le = early.1 in absurd (omega (arith, le, started, after, reference, begins));
        same = subst (λ (p : Moment). era p.earlier ≡ era steps) st.is same;
        part = subst (λ (p : Moment). Tail p.earlier steps) st.is (tail_rest here);
      }

  -- in a later one
  in_later : (q : Moment) → IsIn q (chronicle setting (e ∷ x ∷ h)) → era q.earlier ≡ era (chronicle setting (x ∷ h))
      → nat_eq (era (chronicle setting (x ∷ h))) 1 ≡ false → InEra setting (chronicle setting (x ∷ h)) q
  in_later q here same later = by st.h st.e st.is st.comes
    where
      st : Stage setting q
      st = stage setting span.comes.fair q (x ∷ h) e span.comes.clean span.comes.before here

      by : (hs : List Event) (f : Event) → q ≡ top_of setting hs f → IsNextEvent setting hs f → InEra setting (chronicle setting (x ∷ h)) q
      by [] f is comes =
          absurd (not_both (nat_eq (era steps) 1) (subst (λ n. nat_eq n 1 ≡ true) (sym (ap (λ (p : Moment). era p.earlier) is) ∙ same) refl) later)
      by (y ∷ hs) f is comes =
          let eras : era (chronicle setting (y ∷ hs)) ≡ era steps = sym (ap (λ (p : Moment). era p.earlier) is) ∙ same in
          record {
            x = y;
            h = hs;
            e = f;
            is = is;
            comes = comes;
            late = λ early. not_both (nat_eq (era steps) 1) (subst (λ n. nat_eq n 1 ≡ true) eras early.0) later;
            same = eras;
            part = subst (λ (p : Moment). Tail p.earlier steps) is (tail_rest here);
          }

  in_this : (q : Moment) → IsIn q (chronicle setting (e ∷ x ∷ h)) → s0 < when q → era q.earlier ≡ era (chronicle setting (x ∷ h)) → (b : Bool)
      → nat_eq (era (chronicle setting (x ∷ h))) 1 ≡ b → InEra setting (chronicle setting (x ∷ h)) q
  in_this q here after same true first = in_first q here after same (eqb-true (era steps) 1 first)
  in_this q here after same false later = in_later q here same later

  pub place : (q : Moment) → IsIn q (chronicle setting (e ∷ x ∷ h)) → s0 < when q
      → InEra setting (chronicle setting (x ∷ h)) q ⊎ InWindow setting (chronicle setting (x ∷ h)) q
  place q here after = by (span.within q here after)
    where
      by : IsWithin (chronicle setting (x ∷ h)) q → InEra setting (chronicle setting (x ∷ h)) q ⊎ InWindow setting (chronicle setting (x ∷ h)) q
      by (in_era same) = inl (in_this q here after same (nat_eq (era steps) 1) refl)
      by (in_window same commit) =
          let st : Stage setting q = stage setting span.comes.fair q (x ∷ h) e span.comes.clean span.comes.before here in
          inr
          (record {
            h = st.h;
            e = st.e;
            is = st.is;
            comes = st.comes;
            commit = subst (λ (p : Moment). has_commit (seen_of p.earlier) ≡ true) st.is commit;
            same = subst (λ (p : Moment). era p.earlier + 1 ≡ era steps) st.is same;
          })

  -- where the moment is known to be of the era
  pub of_era : (q : Moment) → IsIn q (chronicle setting (e ∷ x ∷ h)) → s0 < when q → era q.earlier ≡ era (chronicle setting (x ∷ h))
      → InEra setting (chronicle setting (x ∷ h)) q
  of_era q here after same = in_this q here after same (nat_eq (era steps) 1) refl

-- what is told of the event of such a moment, of the moment
module _ (setting : Setting) (steps : List Step) (q : Moment) (k : InEra setting steps q) (y link : ℕ) where
  pub whole_then : link_has_failed (seen_of (chronicle setting (k.x ∷ k.h))) link ≡ false → is_up (seen_of (chronicle setting (k.x ∷ k.h))) y ≡ true
      → (link_has_failed (seen_of q.earlier) link ≡ false) × (is_up (seen_of q.earlier) y ≡ true)
  whole_then fine up = subst (λ (p : Moment). (link_has_failed (seen_of p.earlier) link ≡ false) × (is_up (seen_of p.earlier) y ≡ true)) (sym k.is) (fine, up)

  pub ready_then : ((past : Past) → past_in (chronicle setting (k.x ∷ k.h)) y ≡ Some past → IsReady past (era (chronicle setting (k.x ∷ k.h))) link)
      → (past : Past) → past_in q.earlier y ≡ Some past → IsReady past (era steps) link
  ready_then ready =
      subst (λ (p : Moment). (past : Past) → past_in p.earlier y ≡ Some past
      → IsReady past (era steps) link) (sym k.is) (λ past there. subst (λ n. IsReady past n link) k.same (ready past there))
