-- Each moment of a history that comes with the invariant comes so itself; and after a commit it is later than that commit.
use Rattle.std.specs.Prelude.{◌≡◌, ℕ, ◌<◌, true, List, [], ◌∷◌, refl}
use Rattle.std.proofs.Common.{arith, subst}
use Rattle.sd_sched.specs.declared.Event.{Event}
use Rattle.sd_history.specs.World.{Setting, has_commit}
use Rattle.sd_history.specs.Steps.{Step, seen_of}
use Rattle.sd_history.specs.Chronicle.{chronicle, next_step}
use Rattle.sd_safety.specs.invariant.Eras.{era}
use Rattle.sd_safety.specs.invariant.Invariant.{Invariant, AtEach}
use Rattle.sd_safety.specs.invariant.Guarded.{AreGuarded, IsSteady}
use Rattle.sd_safety.specs.invariant.Coming.{IsNextEvent}
use Rattle.sd_safety.proofs.invariant.Prefix.{clean_before}
use Rattle.sd_safety.specs.messages.Moments.{whole, behind, Moment, when, IsIn}
use Rattle.sd_safety.proofs.messages.Tails.{history_chronicle}
use Rattle.sd_safety.proofs.silences.SoundWays.{top_of}
use Rattle.sd_safety.specs.entering.After.{IsAfter}
use Rattle.sd_safety.proofs.entering.AfterCommit.{IsSince, since}

-- the moment is an event that comes with the invariant before it
pub record Stage (setting : Setting) (q : Moment) : Type 0 where
  pub h : List Event
  pub e : Event
  pub is : q ≡ top_of setting h e
  pub comes : IsNextEvent setting h e

pub stage : (setting : Setting) → AreGuarded setting → (q : Moment) (history : List Event) (e : Event) → IsSteady setting (e ∷ history)
    → AtEach (Invariant setting) (chronicle setting history) → IsIn q (chronicle setting (e ∷ history)) → Stage setting q
stage setting fair q [] e clean inv whole = record { h = []; e = e; is = refl; comes = record { fair = fair; clean = clean; before = inv } }
stage setting fair q [] e clean inv (behind t) = elim t [ ]
stage setting fair q (x ∷ h) e clean inv whole = record { h = x ∷ h; e = e; is = refl; comes = record { fair = fair; clean = clean; before = inv } }
stage setting fair q (x ∷ h) e clean inv (behind t) = stage setting fair q h x (clean_before setting e (x ∷ h) clean) inv.0 t

-- what is known of a moment later than the commit
pub record Known (setting : Setting) (steps : List Step) (q : Moment) : Type 0 where
  pub h : List Event
  pub e : Event
  pub is : q ≡ top_of setting h e
  pub comes : IsNextEvent setting h e
  pub commit : has_commit (seen_of (chronicle setting h)) ≡ true
  pub same : era (chronicle setting h) ≡ era steps

pub known : (setting : Setting) (history : List Event) (e : Event) (s0 : ℕ) → IsAfter setting history e s0 → (q : Moment)
    → IsIn q (chronicle setting (e ∷ history)) → s0 < when q → Known setting (chronicle setting history) q
known setting history e s0 after q here late =
    let steps : List Step = chronicle setting history in
    let st : Stage setting q = stage setting after.comes.fair q history e after.comes.clean after.comes.before here in
    let committed = after.late in
    let told : IsSince steps q =
    since setting q (next_step setting steps e) steps (history_chronicle setting history after.comes.clean.is.0) after.commit
    (omega (arith, committed, late)) here in
    record {
      h = st.h;
      e = st.e;
      is = st.is;
      comes = st.comes;
      commit = subst (λ (p : Moment). has_commit (seen_of p.earlier) ≡ true) st.is told.commit;
      same = subst (λ (p : Moment). era p.earlier ≡ era steps) st.is told.same;
    }
