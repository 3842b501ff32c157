-- An old backup root that acts took over in its era, from its backup: that moment, and how the backup root has stood since. By induction on the history.
use Rattle.std.specs.Prelude.{◌≡◌, ℕ, Bool, true, false, List, [], ◌∷◌, Some, is_some, refl, if◌then◌else◌}
use Rattle.std.proofs.Common.{arith, ◌∙◌, ap, sym, subst}
use Rattle.std.proofs.lemmas.Bool.{or_right, or_from}
use Rattle.sd_plan.specs.declared.topo.Thing.TheVariants as thing
use Rattle.sd_device.specs.Calls.{Past}
use Rattle.sd_device.specs.Words.{has_moved}
use Rattle.sd_sched.specs.declared.Event.{Event}
use Rattle.sd_sched.specs.Events.{reference_of}
use Rattle.sd_history.specs.World.{Setting, makes, fails, is_up, plan_numbered}
use Rattle.sd_history.specs.Steps.{Step, seen_of, acts_in, act_by}
use Rattle.sd_history.specs.Chronicle.{past_in, chronicle, next_step}
use Rattle.sd_safety.specs.invariant.Eras.{era, plan_now, is_old, live_past, moved, does}
use Rattle.sd_safety.specs.invariant.Coming.{IsNextEvent}
use Rattle.sd_safety.proofs.invariant.Sides.{not_both}
use Rattle.sd_safety.specs.messages.Moments.{whole, behind, Moment, upto, when, IsIn, IsBefore}
use Rattle.sd_safety.proofs.messages.Tails.{tail_length}
use Rattle.sd_safety.specs.timers.Times.{AreTimed}
use Rattle.sd_safety.proofs.waits.Standing.{steps_timed}
use Rattle.sd_safety.proofs.waits.Waits.{Stands, old_stands}
use Rattle.sd_safety.proofs.silences.NextEmissions.{emits_here}
use Rattle.sd_safety.proofs.silences.SoundWays.{top_of}
use Rattle.sd_safety.specs.behind.Feeding.{takes_over, took_over_at}
use Rattle.sd_safety.proofs.behind.Moved.{made_not, StandsBy, stands_so, unmoved}
use Rattle.sd_safety.proofs.behind.EventBack.{WasMoved, kept, goes, step_back}
use Rattle.sd_safety.proofs.behind.BackupRootTookOver.{took_over_soon}
use Rattle.sd_safety.proofs.spans.SilenceStarts.{comes_before, old_then, idle_of}
use Rattle.sd_safety.proofs.spans.PathHearsAtEvents.{same_era}
use Rattle.sd_safety.proofs.fallbacks.NoMore.{hears_no_more}
use Rattle.sd_safety.proofs.feeds.Since.{none_closed}
use Rattle.sd_safety.proofs.takeovers.Acted.{HasActed, acted, took, has_acted}
use Rattle.sd_safety.proofs.moves.Ahead.{up_since}

-- so it was before an event of the era
abbrev pub StoodSo : List Step → Moment → ℕ → Type 0
StoodSo steps q b = (era q.earlier ≡ era steps) × (is_old q.earlier b ≡ true) × (moved q.earlier b ≡ true)

-- the takeover, and since
pub record HasTakenOver (steps : List Step) (b : ℕ) : Type 0 where
  pub moment : Moment
  pub is_in : IsIn moment steps
  pub at : took_over_at steps b ≡ when moment
  pub emits : emits_here b moment.earlier moment.step.act ≡ true
  pub stood : (q : Moment) → IsIn q steps → IsIn moment (upto q) → StoodSo steps q b
  pub acted : (q : Moment) → IsIn q steps → IsBefore moment q → acts_in q.earlier b ≡ true

-- an old backup root that acts has moved
pub has_moved_on : (setting : Setting) (history : List Event) (e : Event) → IsNextEvent setting history e → (b : ℕ)
    → b ≡ (plan_now setting (chronicle setting history)).backup_root → is_old (chronicle setting history) b ≡ true
    → acts_in (chronicle setting history) b ≡ true → moved (chronicle setting history) b ≡ true
has_moved_on setting history e comes b is old acts =
    subst (λ z. moved (chronicle setting history) z ≡ true) (sym is)
    (took_over_soon setting (hears_no_more setting) history e comes (subst (λ z. is_old (chronicle setting history) z ≡ true) is old)
    (subst (λ z. acts_in (chronicle setting history) z ≡ true) is acts)).0

-- with the event
taken_now : (setting : Setting) (x : Event) (h : List Event) (b : ℕ) → StoodSo (chronicle setting (x ∷ h)) (top_of setting h x) b
    → does takes_over (chronicle setting h) (next_step setting (chronicle setting h) x) b ≡ true
    → emits_here b (chronicle setting h) (next_step setting (chronicle setting h) x).act ≡ true → HasTakenOver (chronicle setting (x ∷ h)) b
taken_now setting x h b stood did emits =
    record {
      moment = top_of setting h x;
      is_in = whole;
      at =
          ap (λ c. if c then reference_of x else took_over_at (chronicle setting h) b)
          (or_right (makes b x) (does takes_over (chronicle setting h) (next_step setting (chronicle setting h) x) b) did);
      emits = emits;
      stood = at_once;
      acted = λ q q_in since. let one = tail_length q_in in let two = tail_length since in absurd (omega (arith, one, two));
    }
  where
    at_once : (q : Moment) → IsIn q (chronicle setting (x ∷ h)) → IsIn (top_of setting h x) (upto q) → StoodSo (chronicle setting (x ∷ h)) q b
    at_once q whole since = stood
    at_once q (behind t) since = let one = tail_length t in let two = tail_length since in absurd (omega (arith, one, two))

-- before the event
taken_before : (setting : Setting) (x : Event) (h : List Event) (b : ℕ) → era (chronicle setting (x ∷ h)) ≡ era (chronicle setting h)
    → StoodSo (chronicle setting (x ∷ h)) (top_of setting h x) b → acts_in (chronicle setting h) b ≡ true
    → makes b x ≡ false → does takes_over (chronicle setting h) (next_step setting (chronicle setting h) x) b ≡ false → HasTakenOver (chronicle setting h) b
    → HasTakenOver (chronicle setting (x ∷ h)) b
taken_before setting x h b same stood acts none did r =
    record {
      moment = r.moment;
      is_in = behind r.is_in;
      at =
          ap (λ c. if c then reference_of x else took_over_at (chronicle setting h) b)
          (or_from (makes b x) (does takes_over (chronicle setting h) (next_step setting (chronicle setting h) x) b) none did) ∙ r.at;
      emits = r.emits;
      stood = stood_on;
      acted = acted_on;
    }
  where
    stood_on : (q : Moment) → IsIn q (chronicle setting (x ∷ h)) → IsIn r.moment (upto q) → StoodSo (chronicle setting (x ∷ h)) q b
    stood_on q whole since = stood
    stood_on q (behind t) since = let told = r.stood q t since in (told.0 ∙ sym same, told.1, told.2)

    acted_on : (q : Moment) → IsIn q (chronicle setting (x ∷ h)) → IsBefore r.moment q → acts_in q.earlier b ≡ true
    acted_on q whole since = acts
    acted_on q (behind t) since = r.acted q t since

-- the same of an earlier history
abbrev Holds : Setting → List Event → ℕ → Type 0
Holds setting h b = b ≡ (plan_now setting (chronicle setting h)).backup_root → is_old (chronicle setting h) b ≡ true → acts_in (chronicle setting h) b ≡ true
    → HasTakenOver (chronicle setting h) b

pub taken_over : (setting : Setting) (history : List Event) (e : Event) → IsNextEvent setting history e → (b : ℕ)
    → b ≡ (plan_now setting (chronicle setting history)).backup_root → is_old (chronicle setting history) b ≡ true
    → acts_in (chronicle setting history) b ≡ true → HasTakenOver (chronicle setting history) b
taken_over setting [] e comes b is old acts = cc
taken_over setting (x ∷ h) e comes b is old acts =
    by_closed (λ is' old' acts'. taken_over setting h x (comes_before setting x h e comes) b is' old' acts')
    (next_step setting (chronicle setting h) x).seen.closed refl
  where
    put : moved (chronicle setting (x ∷ h)) b ≡ true
    put = has_moved_on setting (x ∷ h) e comes b is old acts

    all_timed : AreTimed setting (chronicle setting (x ∷ h))
    all_timed = steps_timed setting x h e comes

    s : Stands setting (chronicle setting (x ∷ h)) b
    s = old_stands setting (x ∷ h) b old

    past_moved : has_moved s.past ≡ true
    past_moved = sym s.moved_is ∙ put

    none : makes b x ≡ false
    none = all_timed.1.fits.makes_it b ∙ made_not (chronicle setting h) (act_by setting (chronicle setting h) x) b s.past s.there past_moved

    stands_then : (past : Past) → past_in (chronicle setting h) b ≡ Some past → StandsBy (chronicle setting h) b past
    stands_then past there =
        stands_so setting h b past (up_since (makes b x) (fails (thing.Device b) x) (is_up (seen_of (chronicle setting h)) b) none s.live) there

    by_turn : Holds setting h b → (next_step setting (chronicle setting h) x).seen.closed ≡ false → WasMoved setting x h b
        → HasActed (chronicle setting h) (next_step setting (chronicle setting h) x) b → HasTakenOver (chronicle setting (x ∷ h)) b
    by_turn again open_ (goes primary epoch at) (acted past there acting did) =
        absurd (not_both (acts_in (chronicle setting h) b) ((stands_then past there).acts_is ∙ acting) (idle_of (chronicle setting h) b primary))
    by_turn again open_ (goes primary epoch at) (took past there moved_ did emits) =
        absurd
        (not_both (moved (chronicle setting h) b) ((stands_then past there).moved_is ∙ moved_)
        (unmoved (is_some (live_past (chronicle setting h) b)) (moved (chronicle setting h) b) (acts_in (chronicle setting h) b) primary))
    by_turn again open_ (kept was epoch at) (acted past there acting did) =
        let same : era (chronicle setting (x ∷ h)) ≡ era (chronicle setting h) = same_era setting x h open_ in
        let old' : is_old (chronicle setting h) b ≡ true = old_then setting x h e comes b epoch open_ old in
        let acts' : acts_in (chronicle setting h) b ≡ true = (stands_then past there).acts_is ∙ acting in
        taken_before setting x h b same (sym same, old', was) acts' none did (again (is ∙ ap (λ n. (plan_numbered setting n).backup_root) same) old' acts')
    by_turn again open_ (kept was epoch at) (took past there moved_ did emits) =
        taken_now setting x h b (sym (same_era setting x h open_), old_then setting x h e comes b epoch open_ old, was) did emits

    by_closed : Holds setting h b → (c : Bool) → (next_step setting (chronicle setting h) x).seen.closed ≡ c → HasTakenOver (chronicle setting (x ∷ h)) b
    by_closed again true closed = absurd (none_closed setting x h e comes (subst (λ z. moved (chronicle setting (x ∷ h)) z ≡ true) is put) closed)
    by_closed again false open_ =
        by_turn again open_ (step_back setting x h b all_timed put) (has_acted setting x h b s.past s.there none past_moved (sym s.acts_is ∙ acts))
