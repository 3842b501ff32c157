-- How an old backup root on its primary stood before it heard last, where that was in the era: it was old and on its primary.
use Rattle.std.specs.Prelude.{◌≡◌, ℕ, ◌≤◌, true, false, List, [], ◌∷◌, map, nat_eq, Some, refl}
use Rattle.std.proofs.Common.{arith, ◌∙◌, ap, sym, subst}
use Rattle.std.proofs.lemmas.Bool.{and_from, or_left, eq-eqb}
use Rattle.std.proofs.Math.Nat.{le_antisymm}
use Rattle.sd_num.specs.Lists.{same_number, has}
use Rattle.sd_plan.specs.declared.Hop as declared
use Rattle.sd_plan.specs.Plans.{is_root}
use Rattle.sd_plan.specs.Walks.{walk}
use Rattle.sd_device.specs.msg.Stamps.{is_newer}
use Rattle.sd_device.specs.Calls.{Receive}
use Rattle.sd_device.specs.Words.{epoch_now, has_moved, is_acting, stamp_now}
use Rattle.sd_sched.specs.declared.Event.{Event}
use Rattle.sd_history.specs.World.{Setting, is_up, plan_numbered}
use Rattle.sd_history.specs.Steps.{Step, seen_of}
use Rattle.sd_history.specs.Chronicle.{past_in, chronicle}
use Rattle.sd_safety.specs.invariant.Eras.{era, plan_now, is_old, on_primary}
use Rattle.sd_safety.specs.invariant.Guarded.{IsSteady}
use Rattle.sd_safety.specs.invariant.Coming.{IsNextEvent}
use Rattle.sd_safety.proofs.invariant.Prefix.{clean_before}
use Rattle.sd_safety.specs.messages.Moments.{Tail, whole, behind, Moment, upto, IsBefore, Accepts}
use Rattle.sd_safety.proofs.messages.Tails.{rest_of}
use Rattle.sd_safety.proofs.messages.Sending.{accepted_why}
use Rattle.sd_safety.proofs.silences.Phases.{era_grows}
use Rattle.sd_safety.proofs.silences.SoundWays.{top_of}
use Rattle.sd_safety.proofs.waits.Standing.{sound}
use Rattle.sd_safety.proofs.windows.Senders.{called_is_up}
use Rattle.sd_safety.proofs.receipts.Hearings.{IsHeard}
use Rattle.sd_safety.proofs.receipts.Stood.{epoch_is, primary_is, stood_then, put_so}
use Rattle.sd_safety.proofs.entering.Stages.{Stage, stage}
use Rattle.sd_safety.proofs.behind.Moved.{not_root}
use Rattle.sd_safety.proofs.paths.Senders.{ahead_not, newer_then}

module _ (setting : Setting) (x : Event) (h : List Event) (e : Event) (comes : IsNextEvent setting (x ∷ h) e)
    (old : is_old (chronicle setting (x ∷ h)) (plan_now setting (chronicle setting (x ∷ h))).backup_root ≡ true)
    (on : on_primary (chronicle setting (x ∷ h)) (plan_now setting (chronicle setting (x ∷ h))).backup_root ≡ true)
    (heard : IsHeard setting (x ∷ h) (plan_now setting (chronicle setting (x ∷ h))).backup_root (era (chronicle setting (x ∷ h)))) where
  abbrev steps : List Step
  steps = chronicle setting (x ∷ h)

  abbrev b : ℕ
  b = (plan_now setting (chronicle setting (x ∷ h))).backup_root

  -- the event of the receipt, and the state before it
  pub record StoodBefore : Type 0 where
    pub y : Event
    pub ys : List Event
    pub f : Event
    pub is : heard.moment ≡ top_of setting (y ∷ ys) f
    pub comes_ : IsNextEvent setting (y ∷ ys) f
    pub same : era (chronicle setting (y ∷ ys)) ≡ era (chronicle setting (x ∷ h))
    pub inside : Tail (chronicle setting (y ∷ ys)) (chronicle setting (x ∷ h))
    pub old_ : is_old (chronicle setting (y ∷ ys)) (plan_now setting (chronicle setting (y ∷ ys))).backup_root ≡ true
    pub on_ : on_primary (chronicle setting (y ∷ ys)) (plan_now setting (chronicle setting (y ∷ ys))).backup_root ≡ true
    pub newer : is_newer heard.message.stamp (stamp_now heard.past) ≡ true

  clean : IsSteady setting (x ∷ h)
  clean = clean_before setting e (x ∷ h) comes.clean

  other : is_root (plan_now setting (chronicle setting (x ∷ h))) b ≡ false
  other = not_root setting.net (plan_now setting steps) (sound setting x h e comes)

  module _ (g : Moment) (late : era (chronicle setting (x ∷ h)) ≤ era g.earlier) (after : IsBefore g heard.moment) where
    why : Accepts heard.past heard.message heard.edge
    why = (accepted_why heard.past heard.link heard.message heard.counter heard.edge heard.over).0

    own : epoch_now heard.past ≡ era (chronicle setting (x ∷ h))
    own =
        ahead_not setting x h comes.fair clean comes.before heard.moment heard.inside g after late b
        (Receive heard.link heard.message heard.counter) heard.past heard.there heard.act heard.message heard.edge heard.epoch why

    newer_ : is_newer heard.message.stamp (stamp_now heard.past) ≡ true
    newer_ =
        newer_then setting x h comes.fair clean comes.before heard.moment heard.inside g after late b
        (Receive heard.link heard.message heard.counter) heard.past heard.there heard.act heard.message heard.edge heard.epoch why

    put : (has_moved heard.past ≡ false) × (is_acting heard.past ≡ false)
    put =
        stood_then setting (x ∷ h) comes.fair clean comes.before (and_from (is_old steps b) (on_primary steps b) old on) b
        (or_left (nat_eq b b) (has (map (λ (k : declared.Hop). k.parent) (walk setting.net (plan_now setting steps) b)) b) (eq-eqb b b refl)) other
        heard.moment.earlier (rest_of heard.inside) heard.past heard.there own

    number : era heard.moment.earlier ≡ era (chronicle setting (x ∷ h))
    number =
        let one : era g.earlier ≤ era (upto g) = era_grows g.earlier (upto g) (behind whole) in
        let two : era (upto g) ≤ era heard.moment.earlier = era_grows (upto g) heard.moment.earlier after in
        let three : era heard.moment.earlier ≤ era steps = era_grows heard.moment.earlier steps (rest_of heard.inside) in
        let four = late in
        le_antisymm three (omega (arith, one, two, four))

    by_event : (hs : List Event) (f : Event) → heard.moment ≡ top_of setting hs f → IsNextEvent setting hs f → StoodBefore
    by_event [] f is comes_ = absurd (none (subst (λ (q : Moment). past_in q.earlier b ≡ Some heard.past) is heard.there))
      where
        none : past_in (chronicle setting []) b ≡ Some heard.past → ⊥
        none there = cc
    by_event (y ∷ ys) f is comes_ =
        let older : List Step = chronicle setting (y ∷ ys) in
        let earlier_is : heard.moment.earlier ≡ older = ap (λ (q : Moment). q.earlier) is in
        let eras : era older ≡ era steps = sym (ap era earlier_is) ∙ number in
        let there : past_in older b ≡ Some heard.past = subst (λ l. past_in l b ≡ Some heard.past) earlier_is heard.there in
        let up : is_up (seen_of older) b ≡ true =
        (called_is_up setting older b (Receive heard.link heard.message heard.counter) f comes_.clean.is.1
        (sym (ap (λ (q : Moment). q.step.act) is) ∙ heard.act)).up in
        let old_b : is_old older b ≡ true = ap (λ o. same_number o (era older)) (epoch_is setting (y ∷ ys) b heard.past up there)
        ∙ eq-eqb (epoch_now heard.past) (era older) (own ∙ sym eras) in
        let on_b : on_primary older b ≡ true = primary_is setting (y ∷ ys) b heard.past up there
        ∙ put_so (has_moved heard.past) (is_acting heard.past) put.0 put.1 in
        record {
          y = y;
          ys = ys;
          f = f;
          is = is;
          comes_ = comes_;
          same = eras;
          inside = subst (λ l. Tail l steps) earlier_is (rest_of heard.inside);
          old_ = subst (λ n. is_old older (plan_numbered setting n).backup_root ≡ true) (sym eras) old_b;
          on_ = subst (λ n. on_primary older (plan_numbered setting n).backup_root ≡ true) (sym eras) on_b;
          newer = newer_;
        }

    pub stood_before : StoodBefore
    stood_before = let st : Stage setting heard.moment = stage setting comes.fair heard.moment h x clean comes.before.0 heard.inside in
        by_event st.h st.e st.is st.comes
