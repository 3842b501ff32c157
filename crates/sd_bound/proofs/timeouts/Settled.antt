-- Each event of a settled run that is later than its reference comes so too.
use Rattle.std.specs.Prelude.{◌≡◌, ℕ, ◌+◌, ◌<◌, ◌≤◌, List, ◌∷◌, Some, None, refl, ◌⊎◌}
use Rattle.std.proofs.Common.{arith, ap, sym, ◌∙◌, subst, inl, inr}
use Rattle.std.proofs.lemmas.Bool.{cases_lt}
use Rattle.sd_plan.specs.declared.topo.Thing.{Thing}
use Rattle.sd_sched.specs.declared.Event.{Event}
use Rattle.sd_sched.specs.Events.{reference_of}
use Rattle.sd_history.specs.Things.{failure_of}
use Rattle.sd_history.specs.World.{Setting, window, latest_reference}
use Rattle.sd_history.specs.Steps.{Step, seen_of}
use Rattle.sd_history.specs.Chronicle.{chronicle, next_step}
use Rattle.sd_safety.specs.invariant.Bounds.{tick_gap}
use Rattle.sd_safety.specs.invariant.Eras.{era, beginning, all_started, failed_now}
use Rattle.sd_safety.specs.invariant.Coming.{IsNextEvent}
use Rattle.sd_safety.specs.messages.Moments.{Tail, whole, behind, IsChronicle, Moment, upto, when, IsIn}
use Rattle.sd_safety.proofs.messages.Tails.{tail_trans, tail_length, tail_chronicle, history_chronicle, before_is_earlier, Order, before as comes_before, same as are_same, after as comes_after, ordered}
use Rattle.sd_safety.proofs.messages.Flowing.{tail_rest}
use Rattle.sd_safety.proofs.waits.Standing.{clean}
use Rattle.sd_safety.proofs.moves.Starts.{IsUnstaged, no_window, first_era}
use Rattle.sd_safety.proofs.silences.Phases.{Stage, stage}
use Rattle.sd_safety.proofs.silences.SoundWays.{top_of}
use Rattle.sd_bound.specs.timeouts.Settled.{IsUnderWay, IsSettled}
use Rattle.sd_bound.proofs.timeouts.Unstaged.{unstaged_before, shut_tail, era_one, failed_since}

-- the moment is an event of a settled run, and what failed is the same
pub record StageAt (setting : Setting) (epoch : ℕ) (calm : ℕ) (steps : List Step) (q : Moment) : Type 0 where
  pub x : Event
  pub h : List Event
  pub e : Event
  pub is : q ≡ top_of setting (x ∷ h) e
  pub settled : IsSettled setting epoch (x ∷ h) e calm
  pub late : calm < reference_of e
  pub failed : failed_now (chronicle setting (x ∷ h)) ≡ failed_now steps

-- of two moments, the one that has the other's state after it is no earlier
pub not_after : (setting : Setting) (steps : List Step) (q r : Moment) → IsChronicle setting steps → IsIn q steps → IsIn r steps → Tail q.earlier r.earlier
    → when q ≤ when r
not_after setting steps q r is q_in r_in since = go (ordered steps q r q_in r_in)
  where
    go : Order q r → when q ≤ when r
    go (comes_before t) = before_is_earlier setting q r (tail_chronicle setting r_in is) t
    go (are_same equal) = let times : when q ≡ when r = ap (λ l. latest_reference (seen_of l)) equal in omega (arith, times)
    go (comes_after t) =
        let one = tail_length t in
        let two = tail_length since in
        absurd (omega (arith, one, two))

-- at each event that is later, the era is the same
pub same_era : (setting : Setting) (epoch : ℕ) (history : List Event) (e : Event) (calm : ℕ) → IsUnderWay setting epoch history e calm → (q : Moment)
    → IsIn q (chronicle setting (e ∷ history)) → calm < when q → era (chronicle setting history) ≤ era q.earlier
same_era setting epoch history e calm way q here late = by (era (chronicle setting history)) (era q.earlier) epoch way.now (way.same q here late)
  where
    by : (a b n : ℕ) → a ≡ n → b ≡ n → a ≤ b
    by a b n one two = omega (arith, one, two)

-- a run that is under way was under way at each event that is later
pub way_before : (setting : Setting) (epoch : ℕ) (history : List Event) (e : Event) (calm : ℕ) → IsUnderWay setting epoch history e calm → (q : Moment)
    → IsIn q (chronicle setting (e ∷ history)) → calm < when q → (st : Stage setting (beginning (seen_of (chronicle setting (e ∷ history)))) q)
    → IsUnderWay setting epoch (st.x ∷ st.h) st.e calm
way_before setting epoch history e calm way q here late st =
    let inside : Tail (chronicle setting (st.e ∷ st.x ∷ st.h)) (chronicle setting (e ∷ history)) =
    subst (λ l. Tail l (chronicle setting (e ∷ history))) (ap upto st.is) here in
    record {
      comes = st.comes;
      shut = subst (λ (p : Moment). window (seen_of p.earlier) ≡ None) st.is
          (shut_tail q.earlier (chronicle setting history) (tail_rest here) (same_era setting epoch history e calm way q here late) way.shut);
      now = subst (λ (p : Moment). era p.earlier ≡ epoch) st.is (way.same q here late);
      same = λ r r_in r_late. way.same r (tail_trans r_in inside) r_late;
      begun = subst (λ b. b ≤ calm) (sym st.begins) way.begun;
      started = λ first. subst (λ b. b + tick_gap setting.net ≤ calm) (sym st.begins) (way.started first);
    }

-- a history without a stage is under way with its first plan, once all have started
pub first_way : (setting : Setting) (history : List Event) (e : Event) (calm : ℕ) → IsNextEvent setting history e
    → IsUnstaged (seen_of (chronicle setting (e ∷ history))) → all_started setting (chronicle setting (e ∷ history)) ≤ calm
    → IsUnderWay setting 1 history e calm
first_way setting history e calm comes unstaged started =
    let before : IsUnstaged (seen_of (chronicle setting history)) =
    unstaged_before (next_step setting (chronicle setting history) e) (chronicle setting history) unstaged in
    record {
      comes = comes;
      shut = no_window (seen_of (chronicle setting history)) before;
      now = first_era setting history before;
      same = λ q here late. era_one q.earlier (chronicle setting history) (tail_rest here) (first_era setting history before);
      begun = omega (arith, started);
      started = λ first. started;
    }

module _ (setting : Setting) (epoch : ℕ) (history : List Event) (e : Event) (calm : ℕ) (settled : IsSettled setting epoch history e calm) where
  pub era_is : era (chronicle setting history) ≡ epoch
  era_is = settled.way.now

  pub all_chronicle : IsChronicle setting (chronicle setting (e ∷ history))
  all_chronicle = history_chronicle setting (e ∷ history) settled.comes.clean.is

  -- what failed before an event that is later had failed by now, and the other way round
  pub failed_then : (q : Moment) → IsIn q (chronicle setting (e ∷ history)) → calm < when q → failed_now (chronicle setting history) ≡ failed_now q.earlier
  failed_then q here late =
      failed_since q.earlier (chronicle setting history) (tail_rest here) (same_era setting epoch history e calm settled.way q here late)
      (λ r r_in since. settled.unfailed r (behind r_in)
      (later r (not_after setting (chronicle setting (e ∷ history)) q r all_chronicle here (behind r_in) since)))
    where
      later : (r : Moment) → when q ≤ when r → calm < when r
      later r le = omega (arith, late, le)

  -- what failed did so by the reference
  pub failed_by : (q : Moment) → IsIn q (chronicle setting (e ∷ history)) → (y : Thing) → failure_of q.step.seen.event ≡ Some y → when q ≤ calm
  failed_by q here y failure = go (cases_lt calm (when q))
    where
      go : (calm < when q) ⊎ (when q ≤ calm) → when q ≤ calm
      go (inr le) = le
      go (inl less) = let never : None ≡ Some y = sym (settled.unfailed q here less) ∙ failure in cc

pub stage_at : (setting : Setting) (epoch : ℕ) (history : List Event) (e : Event) (calm : ℕ) → IsSettled setting epoch history e calm → (q : Moment)
    → IsIn q (chronicle setting (e ∷ history)) → calm < when q → StageAt setting epoch calm (chronicle setting history) q
stage_at setting epoch history e calm settled q here late =
    let begun = settled.way.begun in
    let st : Stage setting (beginning (seen_of (chronicle setting (e ∷ history)))) q =
    stage setting settled.comes.fair q history e settled.comes.clean settled.comes.before here (omega (arith, begun, late)) in
    let upto_is : upto q ≡ chronicle setting (st.e ∷ st.x ∷ st.h) = ap upto st.is in
    let inside : Tail (chronicle setting (st.e ∷ st.x ∷ st.h)) (chronicle setting (e ∷ history)) =
    subst (λ l. Tail l (chronicle setting (e ∷ history))) upto_is here in
    record {
      x = st.x;
      h = st.h;
      e = st.e;
      is = st.is;
      settled =
          record {
            comes = st.comes;
            way = way_before setting epoch history e calm settled.way q here late st;
            unfailed = λ r r_in r_late. settled.unfailed r (tail_trans r_in inside) r_late;
          };
      late = subst (λ p. calm < when p) st.is late;
      failed = sym (failed_then setting epoch history e calm settled q here late ∙ ap (λ (p : Moment). failed_now p.earlier) st.is);
    }

-- one event back, where that is later too
pub settled_before : (setting : Setting) (epoch : ℕ) (x : Event) (h : List Event) (e next : Event) (calm : ℕ)
    → IsSettled setting epoch (e ∷ x ∷ h) next calm → calm < reference_of e → IsSettled setting epoch (x ∷ h) e calm
settled_before setting epoch x h e next calm settled late =
    let comes_ : IsNextEvent setting (x ∷ h) e =
    record { fair = settled.comes.fair; clean = clean setting e (x ∷ h) next settled.comes; before = settled.comes.before.0 } in
    let st : Stage setting (beginning (seen_of (chronicle setting (next ∷ e ∷ x ∷ h)))) (top_of setting (x ∷ h) e) =
    record { x = x; h = h; e = e; is = refl; comes = comes_; begins = refl } in
    record {
      comes = comes_;
      way = way_before setting epoch (e ∷ x ∷ h) next calm settled.way (top_of setting (x ∷ h) e) (behind whole) late st;
      unfailed = λ q here. settled.unfailed q (behind here);
    }
