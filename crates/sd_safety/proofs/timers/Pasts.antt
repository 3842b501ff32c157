-- One way, over pasts: inside one entry a device goes from primary to backup, and the backup root from backup to acting, and never back. And what
-- else is true of the pasts of a life: who acts has a duty, who waits to move may move, and each move has a counter.
use Rattle.std.specs.Prelude.{◌≡◌, ℕ, ◌-◌, Bool, true, false, ◌&&◌, ◌||◌, not, List, [], ◌∷◌, max, nat_le, Option, Some, None, is_some, option_map, option_and_then, refl, if◌then◌else◌}
use Rattle.std.specs.List.{list_any, list_all}
use Rattle.std.proofs.Common.{sym, ◌∙◌, ap, subst}
use Rattle.std.proofs.lemmas.Bool.{and_parts, not-true, both_ways}
use Rattle.sd_num.specs.Lists.{map_or, find_map_or, leading}
use Rattle.sd_plan.specs.declared.Duty.{Duty}
use Rattle.sd_plan.specs.declared.Role.TheVariants as role
use Rattle.sd_device.specs.Calls.{Making, Started, Joined, Call, Transition, Entered, Committed, Recommitted, Moved, TookOver, CallDone, Past}
use Rattle.sd_device.specs.Living.{Life}
use Rattle.sd_device.specs.Words.{transition_of, after, taken_up, takes_up, later_entry, duty_now, is_sealed, has_moved, is_acting, is_move, is_commit, moved_at, may_move, wait_to_move, first_duty, starts_as_root, heard, takes_over_at, moves_at, is_backup_root_now, making_counter, counter_of}
use Rattle.sd_device.specs.Lives.{past_by, past_of}
use Rattle.sd_device.proofs.Reached.{Reached, reached, added, has_taken_over, or-more}
use Rattle.sd_history.specs.Steps.{Step}
use Rattle.sd_history.specs.Lives.{life_in}
use Rattle.sd_history.specs.Chronicle.{past_in}
use Rattle.sd_history.proofs.Bridges.{past_of_life}
use Rattle.sd_safety.specs.timers.Times.{moves}
use Rattle.sd_safety.proofs.timers.Transitions.{Cases, by_case}
use Rattle.sd_history.proofs.Given.{some_is}
use Rattle.sd_device.proofs.Ticks.{same_duty, no_wait_as_root}

-- what is true of the past of each life is true of each past in a list of steps
pub of_life : (P : Past → Type 0) → ((making : Making) (calls : List Call) → P (past_by making calls)) → (steps : List Step) (d : ℕ) (past : Past)
    → past_in steps d ≡ Some past → P past
of_life P each steps d past is = go (life_in steps d) (sym (past_of_life steps d) ∙ is)
  where
    go : (o : Option Life) → option_map past_of o ≡ Some past → P past
    go None same = cc
    go (Some life) same = subst P (some_is same) (each life.making life.calls)

-- Never back

pub stays_moved : (past : Past) (call : Call) (transition : Transition) → taken_up transition ≡ None → has_moved past ≡ true
    → has_moved (added past call transition) ≡ true
stays_moved past call (Entered duty edge) none moved = cc
stays_moved past call (Committed duty) none moved = cc
stays_moved past call (Recommitted duty) none moved = cc
stays_moved past call Moved none moved = refl
stays_moved past call _ none moved = moved

pub stays_acting : (past : Past) (call : Call) (transition : Transition) → taken_up transition ≡ None → is_acting past ≡ true
    → is_acting (added past call transition) ≡ true
stays_acting past call (Entered duty edge) none acts = cc
stays_acting past call (Committed duty) none acts = cc
stays_acting past call (Recommitted duty) none acts = cc
stays_acting past call TookOver none acts =
    or-more (map_or (later_entry past) (starts_as_root past.making) (λ entry. is_commit entry.transition)) true (has_taken_over past) acts
stays_acting past call _ none acts = acts

-- the later past came from the earlier one by calls that took up nothing: both are of one entry
pub data Inside (old : Past) : Past → Type 0 where
  itself : Inside old old
  onward : {past : Past} (call : Call) → taken_up (transition_of past call) ≡ None → Inside old past → Inside old (after past call)

pub inside_moved : (old past : Past) → Inside old past → has_moved old ≡ true → has_moved past ≡ true
inside_moved old _ itself moved = moved
inside_moved old _ (onward {past = past} call none rest) moved = stays_moved past call (transition_of past call) none (inside_moved old past rest moved)

pub inside_acting : (old past : Past) → Inside old past → is_acting old ≡ true → is_acting past ≡ true
inside_acting old _ itself acts = acts
inside_acting old _ (onward {past = past} call none rest) acts = stays_acting past call (transition_of past call) none (inside_acting old past rest acts)

pub was_false : (a b : Bool) → (a ≡ true → b ≡ true) → b ≡ false → a ≡ false
was_false true b goes off = sym (goes refl) ∙ off
was_false false b goes off = refl

-- on its primary now: on its primary at each past of the entry
pub was_unmoved : (old past : Past) → Inside old past → has_moved past ≡ false → has_moved old ≡ false
was_unmoved old past inside still = was_false (has_moved old) (has_moved past) (inside_moved old past inside) still

pub was_not_acting : (old past : Past) → Inside old past → is_acting past ≡ false → is_acting old ≡ false
was_not_acting old past inside still = was_false (is_acting old) (is_acting past) (inside_acting old past inside) still

duty_kept : (past : Past) (call : Call) (transition : Transition) → taken_up transition ≡ None → duty_now (added past call transition) ≡ duty_now past
duty_kept past call transition none = ap (λ o. map_or (option_map Some o) (duty_now past) (λ told. told)) none

-- the duty of an entry stays
pub inside_duty : (old past : Past) → Inside old past → duty_now past ≡ duty_now old
inside_duty old _ itself = refl
inside_duty old _ (onward {past = past} call none rest) = duty_kept past call (transition_of past call) none ∙ inside_duty old past rest

-- A move is from the primary, and a takeover from the backup.

first_two : (a b c d : Bool) → (a && b && c && d) ≡ true → (a ≡ true) × (b ≡ true) × (c ≡ true) × (d ≡ true)
first_two true true true true h = (refl, refl, refl, refl)
first_two true true true false h = cc
first_two true true false d h = cc
first_two true false c d h = cc
first_two false b c d h = cc

pub record Takes (past : Past) : Type 0 where
  pub backup_root : is_backup_root_now past ≡ true
  pub moved : has_moved past ≡ true
  pub acts_not : is_acting past ≡ false

pub takeover_from_backup : (past : Past) (c : ℕ) → takes_over_at past c ≡ true → Takes past
takeover_from_backup past c takes =
    let parts = first_two (is_backup_root_now past) (has_moved past) (not (is_acting past))
    (map_or (duty_now past) false (λ duty. nat_le duty.wait_second (c - max (heard past) (moved_at past)))) takes in
    record { backup_root = parts.0; moved = parts.1; acts_not = not-true (is_acting past) parts.2 }

root_has_duty : (making : Making) → starts_as_root making ≡ true → (duty : Duty) × (first_duty making ≡ Some duty)
root_has_duty (Started duty counter clock eps) acts = (duty, refl)
root_has_duty (Joined rates counter clock eps) acts = cc

-- a device that acts since its entry does not wait to move
entry_waits_not : (past : Past) → map_or (later_entry past) (starts_as_root past.making) (λ entry. is_commit entry.transition) ≡ true → may_move past ≡ true
    → option_and_then wait_to_move (duty_now past) ≡ None
entry_waits_not past acts lets = go (later_entry past) refl acts lets
  where
    go : (entry : Option CallDone) → later_entry past ≡ entry → map_or entry (starts_as_root past.making) (λ x. is_commit x.transition) ≡ true
        → map_or entry (is_some (first_duty past.making)) (λ x. not (is_commit x.transition)) ≡ true
        → option_and_then wait_to_move (duty_now past) ≡ None
    go None is acts' lets' = ap (λ d. option_and_then wait_to_move d) (same_duty past.did (first_duty past.making) is) ∙ no_wait_as_root past.making acts'
    go (Some x) is acts' lets' = absurd (both_ways (is_commit x.transition) (not-true (is_commit x.transition) lets') acts')

pub record Goes (past : Past) : Type 0 where
  pub unmoved : has_moved past ≡ false
  pub acts_not : is_acting past ≡ false
  pub sealed : is_sealed past ≡ true

pub move_from_primary : (past : Past) (c : ℕ) → Reached past → moves_at past c ≡ true → Goes past
move_from_primary past c reached goes =
    let parts = first_two (may_move past) (not (has_moved past)) (is_sealed past)
    (map_or (option_and_then wait_to_move (duty_now past)) false (λ wait. nat_le wait (c - heard past))) goes in
    let unmoved : has_moved past ≡ false = not-true (has_moved past) parts.1 in
    record {
      unmoved = unmoved;
      sealed = parts.2;
      acts_not = acts_not (map_or (later_entry past) (starts_as_root past.making) (λ entry. is_commit entry.transition)) (has_taken_over past)
          (λ e. entry_waits_not past e parts.0) (λ e. both_ways (has_moved past) unmoved (reached.took_over e)) parts.3;
    }
  where
    acts_not : (a b : Bool) → (a ≡ true → option_and_then wait_to_move (duty_now past) ≡ None) → (b ≡ true → ⊥)
        → map_or (option_and_then wait_to_move (duty_now past)) false (λ wait. nat_le wait (c - heard past)) ≡ true → (a || b) ≡ false
    acts_not true b never none waits =
        let nothing : map_or (option_and_then wait_to_move (duty_now past)) false (λ wait. nat_le wait (c - heard past)) ≡ false =
        ap (λ o. map_or o false (λ wait. nat_le wait (c - heard past))) (never refl) in
        cc
    acts_not false true never none waits = absurd (none refl)
    acts_not false false never none waits = refl

-- a device with a duty that does not act may move
pub others_may_move : (past : Past) (duty : Duty) → duty_now past ≡ Some duty → is_acting past ≡ false → may_move past ≡ true
others_may_move past duty has acts = go (later_entry past) refl acts
  where
    commit_or : (commit took : Bool) → (commit || took) ≡ false → not commit ≡ true
    commit_or true took a = cc
    commit_or false took a = refl

    go : (entry : Option CallDone) → later_entry past ≡ entry
        → (map_or entry (starts_as_root past.making) (λ x. is_commit x.transition) || has_taken_over past) ≡ false
        → map_or entry (is_some (first_duty past.making)) (λ x. not (is_commit x.transition)) ≡ true
    go None is acts' = ap is_some (sym (same_duty past.did (first_duty past.making) is) ∙ has)
    go (Some x) is acts' = commit_or (is_commit x.transition) (has_taken_over past) acts'

-- Who acts has a duty.

HasDuty : Past → Type 0
HasDuty past = is_acting past ≡ true → (duty : Duty) × (duty_now past ≡ Some duty)

backup_root_has : (past : Past) → is_backup_root_now past ≡ true → (duty : Duty) × (duty_now past ≡ Some duty)
backup_root_has past is = go (duty_now past) refl is
  where
    go : (u : Option Duty) → duty_now past ≡ u → map_or u false (λ duty. elim duty.role [ role.BackupRoot ↦ true | _ ↦ false ]) ≡ true
        → (duty : Duty) × (duty_now past ≡ Some duty)
    go None has is' = cc
    go (Some duty) has is' = (duty, has)

made_has : (making : Making) → HasDuty (record { making = making; did = [] })
unfolding HasDuty
made_has making = λ acts. root_has_duty making (before (starts_as_root making) acts)
  where
    before : (b : Bool) → (b || false) ≡ true → b ≡ true
    before true h = refl
    before false h = h

after_has : (past : Past) → HasDuty past → Cases past (λ call transition. HasDuty (added past call transition))
unfolding HasDuty
after_has past has =
    record {
      emitted = λ c e. has;
      took = λ c e t. λ acts. backup_root_has past (takeover_from_backup past c t).backup_root;
      moved = λ c e t m. has;
      still = λ c e t m. has;
      entered = λ link message c duty edge. λ acts. (duty, refl);
      accepted = λ link message c edge. has;
      committed = λ c duty a. λ acts. (duty, refl);
      recommitted = λ c duty a. λ acts. (duty, refl);
      nothing = λ call n. has;
    }

acting_has : (making : Making) (calls : List Call) → HasDuty (past_by making calls)
acting_has making [] = made_has making
acting_has making (call ∷ earlier) =
    by_case (past_by making earlier) (λ c transition. HasDuty (added (past_by making earlier) c transition))
    (after_has (past_by making earlier) (acting_has making earlier)) call

pub acting_has_duty : (steps : List Step) (d : ℕ) (past : Past) → past_in steps d ≡ Some past → is_acting past ≡ true
    → (duty : Duty) × (duty_now past ≡ Some duty)
unfolding HasDuty
acting_has_duty steps d past is = of_life HasDuty acting_has steps d past is

pub is_reached : (steps : List Step) (d : ℕ) (past : Past) → past_in steps d ≡ Some past → Reached past
is_reached steps d past is = of_life Reached reached steps d past is

-- Each move has a counter.

counted : CallDone → Bool
counted x = not (is_move x.transition) || is_some (counter_of x.call)

HasCounters : Past → Type 0
HasCounters past = list_all counted past.did ≡ true

after_counts : (past : Past) → HasCounters past → Cases past (λ call transition. HasCounters (added past call transition))
unfolding HasCounters counted
after_counts past has =
    record {
      emitted = λ c e. has;
      took = λ c e t. has;
      moved = λ c e t m. has;
      still = λ c e t m. has;
      entered = λ link message c duty edge. has;
      accepted = λ link message c edge. has;
      committed = λ c duty a. has;
      recommitted = λ c duty a. has;
      nothing = λ call n. has;
    }

counters : (making : Making) (calls : List Call) → HasCounters (past_by making calls)
unfolding HasCounters
counters making [] = refl
counters making (call ∷ earlier) =
    by_case (past_by making earlier) (λ c transition. HasCounters (added (past_by making earlier) c transition))
    (after_counts (past_by making earlier) (counters making earlier)) call

latest_move : (did : List CallDone) (a b : ℕ) → list_all counted did ≡ true → list_any (λ x. is_move x.transition) (leading (λ x. not (takes_up x)) did) ≡ true
    → find_map_or moves did a ≡ find_map_or moves did b
unfolding counted
latest_move [] a b all any = cc
latest_move (x ∷ earlier) a b all any =
    by_move (is_move x.transition) (counter_of x.call) (and_parts _ _ all).0 (latest_move earlier a b (and_parts _ _ all).1) (by_entry (takes_up x) any)
  where
    by_entry : (t : Bool) → list_any (λ y. is_move y.transition) (if not t then x ∷ leading (λ y. not (takes_up y)) earlier else []) ≡ true
        → (is_move x.transition || list_any (λ y. is_move y.transition) (leading (λ y. not (takes_up y)) earlier)) ≡ true
    by_entry true h = cc
    by_entry false h = h

    by_move : (m : Bool) (o : Option ℕ) → (not m || is_some o) ≡ true
        → (list_any (λ y. is_move y.transition) (leading (λ y. not (takes_up y)) earlier) ≡ true → find_map_or moves earlier a ≡ find_map_or moves earlier b)
        → (m || list_any (λ y. is_move y.transition) (leading (λ y. not (takes_up y)) earlier)) ≡ true
        → map_or (if m then o else None) (find_map_or moves earlier a) (λ told. told) ≡ map_or (if m then o else None) (find_map_or moves earlier b) (λ told. told)
    by_move true None c rest any' = cc
    by_move true (Some n) c rest any' = refl
    by_move false o c rest any' = rest any'

-- a device that moved since its entry has a latest move, whatever stands for none
pub moved_counter : (steps : List Step) (d : ℕ) (past : Past) → past_in steps d ≡ Some past → has_moved past ≡ true
    → find_map_or moves past.did (making_counter past.making) ≡ moved_at past
unfolding HasCounters
moved_counter steps d past is moved = latest_move past.did (making_counter past.making) 0 (of_life HasCounters counters steps d past is) moved
