-- In each steady history over guarded plans with the invariant at each event: a device that is new has no duty waiting, and one of the plan in force that is up
-- has none waiting but of the staged plan.
use Rattle.std.specs.Prelude.{◌≡◌, ℕ, ◌+◌, Bool, true, false, ◌&&◌, ◌||◌, not, List, [], ◌∷◌, cond, count_by, nat_eq, Option, Some, None, is_some, option_map, refl, if◌then◌else◌}
use Rattle.std.specs.List.{list_any}
use Rattle.std.proofs.Common.{arith, ◌∙◌, ap, sym, subst}
use Rattle.std.proofs.lemmas.Bool.{and_parts, and_from, eqb-true}
use Rattle.std.proofs.lemmas.List.Sums.{sum_by-cons}
use Rattle.sd_num.specs.Lists.{map_or}
use Rattle.sd_plan.specs.declared.topo.Thing.TheVariants as thing
use Rattle.sd_plan.specs.declared.Duty.{Duty}
use Rattle.sd_device.specs.Calls.{Past}
use Rattle.sd_device.specs.Words.{epoch_now, given_now}
use Rattle.sd_sched.specs.declared.Event.{Event}
use Rattle.sd_sched.specs.Events.{given, joined, is_commit, is_stage}
use Rattle.sd_history.specs.Things.{mended}
use Rattle.sd_history.specs.World.{Setting, Seen, makes, fails, is_up, has_commit, window, window_is_open, epoch_in_force, plan_numbered}
use Rattle.sd_history.specs.Steps.{Step, seen_of, act_by, epoch_in, has_settled, live_answers, Answers}
use Rattle.sd_history.specs.Chronicle.{past_in, chronicle, next_step}
use Rattle.sd_history.proofs.Given.{some_is}
use Rattle.sd_history.proofs.Shared.{epoch_kept}
use Rattle.sd_safety.specs.invariant.Eras.{era, plan_now, is_new, belongs}
use Rattle.sd_safety.specs.invariant.Invariant.{Invariant, AtEach}
use Rattle.sd_safety.specs.invariant.Guarded.{AreGuarded, IsSteady}
use Rattle.sd_safety.proofs.invariant.Prefix.{clean_before}
use Rattle.sd_safety.proofs.invariant.Orders.{orderly}
use Rattle.sd_safety.proofs.invariant.Sides.{implied, not_both}
use Rattle.sd_safety.specs.timers.Times.{AreTimed, makes_device}
use Rattle.sd_safety.proofs.timers.Histories.{timely, timed}
use Rattle.sd_safety.proofs.behind.Moved.{StandsBy, stands_so}
use Rattle.sd_safety.proofs.behind.WaitingDuties.{is_give, GivenCourse, fresh, kept, gave, given_course}
use Rattle.sd_safety.proofs.moves.Ahead.{up_since}
use Rattle.sd_safety.proofs.silences.FirstEra.{number_is}

pub record HasWaiting (setting : Setting) (history : List Event) (d : ℕ) (past : Past) : Type 0 where
  pub new : epoch_now past ≡ era (chronicle setting history) + 1 → given_now past ≡ None
  pub due : belongs setting.net (plan_now setting (chronicle setting history)) d ≡ true → (duty : Duty) → given_now past ≡ Some duty
      → duty.epoch ≡ era (chronicle setting history) + 1

epoch_up : (s : Seen) (seen : List Seen) → s.closed ≡ true → epoch_in_force (s ∷ seen) ≡ epoch_in_force seen + 1
epoch_up s seen closed =
    ap (λ n. n + 1)
    (sum_by-cons (λ (x : Seen). cond x.closed 1 0) s seen ∙ ap (λ b. cond b 1 0 + count_by (λ (x : Seen). x.closed) seen) closed)
    ∙ more (count_by (λ (x : Seen). x.closed) seen)
  where
    more : (n : ℕ) → 1 + n + 1 ≡ n + 1 + 1
    more n = omega arith

-- right after a closing no window is open
no_commit : (s : Seen) (seen : List Seen) → s.closed ≡ true → has_commit (s ∷ seen) ≡ false
no_commit s seen closed =
    ap (λ c. map_or (if c then None else if is_stage s.event then Some [] else option_map (λ w. s ∷ w) (window seen)) false
    (list_any (λ (x : Seen). is_commit x.event))) closed

-- a give after a commit is refused
refused : (g j m c o hc : Bool) → ((g || j || m || c) && (not o || hc)) ≡ false → g ≡ true → hc ≡ true → ⊥
refused true j m c true true none is commit = cc
refused true j m c false true none is commit = cc
refused true j m c o false none is commit = cc
refused false j m c o hc none is commit = cc

-- a device that settled is of that epoch
settled_epoch : (setting : Setting) (history : List Event) (d n : ℕ) (past : Past) → is_up (seen_of (chronicle setting history)) d ≡ true
    → past_in (chronicle setting history) d ≡ Some past
    → has_settled (chronicle setting history) n d ≡ true → epoch_now past ≡ n
settled_epoch setting history d n past up there settled =
    go (live_answers (chronicle setting history) d) refl settled
  where
    st : StandsBy (chronicle setting history) d past
    st = stands_so setting history d past up there

    go : (o : Option Answers) → live_answers (chronicle setting history) d ≡ o → map_or o false (λ a. nat_eq a.epoch n && a.sealed) ≡ true → epoch_now past ≡ n
    go None is h = cc
    go (Some a) is h =
        some_is (sym st.epoch_is ∙ ap (option_map (λ x. x.epoch)) is) ∙ eqb-true a.epoch n (and_parts (nat_eq a.epoch n) a.sealed h).0

module _ (setting : Setting) (fair : AreGuarded setting) where
  abbrev Says : List Event → Type 0
  Says history = (d : ℕ) (past : Past) → is_up (seen_of (chronicle setting history)) d ≡ true → past_in (chronicle setting history) d ≡ Some past
      → HasWaiting setting history d past

  module _ (e : Event) (h : List Event) (clean : IsSteady setting (e ∷ h)) (each : AtEach (Invariant setting) (chronicle setting (e ∷ h))) (earlier : Says h)
      (no_give : (d : ℕ) → is_new (chronicle setting h) d ≡ true → is_some (given e) ≡ true → ⊥) (d : ℕ) (past : Past)
      (up : is_up (seen_of (chronicle setting (e ∷ h))) d ≡ true) (there : past_in (chronicle setting (e ∷ h)) d ≡ Some past) where
    abbrev s : Seen
    s = (next_step setting (chronicle setting h) e).seen

    all_timed : AreTimed setting (chronicle setting (e ∷ h))
    all_timed = timed setting (e ∷ h) (timely setting (e ∷ h) fair.network clean.is clean.premises)

    was_up : makes_device (act_by setting (chronicle setting h) e) d ≡ false → is_up (seen_of (chronicle setting h)) d ≡ true
    was_up none = up_since (makes d e) (fails (thing.Device d) e) (is_up (seen_of (chronicle setting h)) d) (all_timed.1.fits.makes_it d ∙ none) up

    new_by : GivenCourse (chronicle setting h) (act_by setting (chronicle setting h) e) d past → epoch_now past ≡ era (chronicle setting h) + 1
        → given_now past ≡ None
    new_by (fresh none) is = none
    new_by (kept old there_ makes_not same duty) is =
        same ∙ (earlier d old (was_up makes_not) there_).new (ap (λ u. map_or u 0 (λ v. v.epoch)) (sym duty) ∙ is)
    new_by (gave old duty there_ act same kept_) is =
        let was : StandsBy (chronicle setting h) d old = stands_so setting h d old (was_up (ap (λ a. makes_device a d) act)) there_ in
        absurd
        (no_give d (number_is (epoch_in (chronicle setting h) d) (epoch_now old) (era (chronicle setting h) + 1) was.epoch_is
        (ap (λ u. map_or u 0 (λ v. v.epoch)) (sym kept_) ∙ is))
        (is_give setting (chronicle setting h) e d duty act).gives)

    abbrev course : GivenCourse (chronicle setting h) (act_by setting (chronicle setting h) e) d past
    course = given_course (chronicle setting h) (act_by setting (chronicle setting h) e) d past there

    due_by : s.closed ≡ false → GivenCourse (chronicle setting h) (act_by setting (chronicle setting h) e) d past
        → belongs setting.net (plan_now setting (chronicle setting (e ∷ h))) d ≡ true
        → (duty : Duty) → given_now past ≡ Some duty → duty.epoch ≡ era (chronicle setting (e ∷ h)) + 1
    due_by open_ (fresh none) member duty is = absurd (none_some (given_now past) none is)
      where
        none_some : (o : Option Duty) → o ≡ None → o ≡ Some duty → ⊥
        none_some None a b = cc
        none_some (Some z) a b = cc
    due_by open_ (kept old there_ makes_not same duty_same) member duty is =
        let era_ : era (chronicle setting (e ∷ h)) ≡ era (chronicle setting h) = epoch_kept s (seen_of (chronicle setting h)) open_ in
        (earlier d old (was_up makes_not) there_).due (subst (λ n. belongs setting.net (plan_numbered setting n) d ≡ true) era_ member) duty (sym same ∙ is)
        ∙ ap (λ n. n + 1) (sym era_)
    due_by open_ (gave old duty' there_ act same duty_same) member duty is =
        let era_ : era (chronicle setting (e ∷ h)) ≡ era (chronicle setting h) = epoch_kept s (seen_of (chronicle setting h)) open_ in
        ap (λ (u : Duty). u.epoch) (some_is (sym is ∙ same)) ∙ (is_give setting (chronicle setting h) e d duty' act).epoch ∙ ap (λ n. n + 1) (sym era_)

    closed_due : s.closed ≡ true → belongs setting.net (plan_now setting (chronicle setting (e ∷ h))) d ≡ true → given_now past ≡ None
    closed_due closed member =
        let steps : List Step = chronicle setting (e ∷ h) in
        let settled =
        (and_parts (has_settled steps (era steps) d) _
        (implied (s.closed && belongs setting.net (plan_now setting steps) d) _ (each.1.core.closed.members d)
        (and_from s.closed (belongs setting.net (plan_now setting steps) d) closed member))).0 in
        new_by course (settled_epoch setting (e ∷ h) d (era steps) past up there settled ∙ epoch_up s (seen_of (chronicle setting h)) closed)

    closed_new : s.closed ≡ true → epoch_now past ≡ era (chronicle setting (e ∷ h)) + 1 → ⊥
    closed_new closed is =
        let steps : List Step = chronicle setting (e ∷ h) in
        let st : StandsBy steps d past = stands_so setting (e ∷ h) d past up there in
        let new : is_new steps d ≡ true = number_is (epoch_in steps d) (epoch_now past) (era steps + 1) st.epoch_is is in
        let none = implied (not (has_commit (seen_of steps))) (not (is_new steps d)) (each.1.core.uncommitted.devices d)
        (ap not (no_commit s (seen_of (chronicle setting h)) closed)) in
        not_both (not (is_new steps d)) none (ap not new)

    by_closed : (c : Bool) → s.closed ≡ c → HasWaiting setting (e ∷ h) d past
    by_closed true closed =
        record {
          new = λ is. absurd (closed_new closed is);
          due = λ member duty is. absurd (both_kinds (given_now past) duty (closed_due closed member) is);
        }
      where
        both_kinds : (o : Option Duty) (duty : Duty) → o ≡ None → o ≡ Some duty → ⊥
        both_kinds None duty a b = cc
        both_kinds (Some z) duty a b = cc
    by_closed false open_ =
        record {
          new = λ is. new_by course (is ∙ ap (λ n. n + 1) (epoch_kept s (seen_of (chronicle setting h)) open_));
          due = due_by open_ course;
        }

    next_too : HasWaiting setting (e ∷ h) d past
    next_too = by_closed s.closed refl

  no_give_by : (e : Event) (h : List Event) → IsSteady setting (e ∷ h) → AtEach (Invariant setting) (chronicle setting h) → (d : ℕ)
      → is_new (chronicle setting h) d ≡ true → is_some (given e) ≡ true → ⊥
  no_give_by e [] clean each d new gives = cc
  no_give_by e (x ∷ h) clean each d new gives =
      let steps : List Step = chronicle setting (x ∷ h) in
      refused (is_some (given e)) (is_some (joined e)) (is_some (mended e)) (is_commit e) (window_is_open (seen_of steps)) (has_commit (seen_of steps))
      (orderly setting e (x ∷ h) clean.is).prepares gives
      (committed (has_commit (seen_of steps)) (λ none. implied (not (has_commit (seen_of steps))) _ (each.1.core.uncommitted.devices d) none))
    where
      committed : (c : Bool) → (not c ≡ true → not (is_new (chronicle setting (x ∷ h)) d) ≡ true) → c ≡ true
      committed true f = refl
      committed false f = absurd (not_both (not (is_new (chronicle setting (x ∷ h)) d)) (f refl) (ap not new))

  pub waiting : (history : List Event) → IsSteady setting history → AtEach (Invariant setting) (chronicle setting history) → Says history
  waiting [] clean each d past up there = cc
  waiting (e ∷ h) clean each d past up there =
      next_too e h clean each (waiting h (clean_before setting e h clean) each.0) (no_give_by e h clean each.0) d past up there
