-- A join keeps the core: the device that joins stands outside until it enters. It is blank, joined in the open window, and where it is a member of the plan in
-- force it
-- failed in the era, since only then it was not up.
use Rattle.std.specs.Prelude.{◌≡◌, ℕ, ◌+◌, Bool, true, false, ◌&&◌, ◌||◌, not, List, ◌∷◌, length, nat_eq, nat_lt, Option, Some, None, is_some, option_and_then, option_map, refl, ◌⊎◌, if◌then◌else◌}
use Rattle.std.specs.List.{list_any}
use Rattle.std.proofs.Common.{arith, ◌∙◌, ap, sym, subst, inl, inr}
use Rattle.std.proofs.lemmas.Bool.{and_parts, and_from, or_left, or_right, eq-eqb, eqb-true, false_from_ne_true, lt-ltb}
use Rattle.sd_num.specs.Lists.{map_or, same_number}
use Rattle.sd_plan.specs.topo.Network.{rates_of}
use Rattle.sd_plan.specs.declared.topo.Thing.TheVariants as thing
use Rattle.sd_plan.specs.declared.Plan.{Plan}
use Rattle.sd_plan.specs.Plans.{is_member}
use Rattle.sd_device.specs.Calls as calls
use Rattle.sd_device.specs.Calls.{Making, Past}
use Rattle.sd_device.specs.Words.{has_moved}
use Rattle.sd_sched.specs.declared.Event.{Event}
use Rattle.sd_sched.specs.declared.Event.TheVariants as event
use Rattle.sd_sched.specs.Events.{started, joined, is_stage}
use Rattle.sd_history.specs.World.{Setting, is_up, was_made, has_ever_failed, is_untouched, joined_in_window, staged_epoch}
use Rattle.sd_history.specs.Steps.{Answers, Step, seen_of, live_answers, parent_in, acts_in, epoch_in}
use Rattle.sd_history.specs.Chronicle.{answers_by, new_past, past_in, chronicle}
use Rattle.sd_history.proofs.Clear.{clear}
use Rattle.sd_history.proofs.Known.{admitted_named_is_known}
use Rattle.sd_safety.specs.invariant.Eras.{era, plan_now, device_failed_now, failed_now, is_among, live_past, is_old, is_new, is_blank, is_past, belongs, root_failed, root_lives}
use Rattle.sd_safety.specs.invariant.Clauses.{is_beginning, backup_root_acts}
use Rattle.sd_safety.specs.invariant.Invariant.{Core}
use Rattle.sd_safety.specs.invariant.Coming.{IsNextEvent}
use Rattle.sd_safety.specs.invariant.Kept.{Keeps}
use Rattle.sd_safety.proofs.invariant.Empty.{core_before}
use Rattle.sd_safety.proofs.invariant.Facts.{IsSound, sound_now}
use Rattle.sd_safety.proofs.invariant.Orders.{renews}
use Rattle.sd_safety.proofs.invariant.Parents.{live_is}
use Rattle.sd_safety.proofs.invariant.Sides.{implied, not_both}
use Rattle.sd_safety.proofs.invariant.Closings.{join_closes_none}
use Rattle.sd_safety.proofs.windows.Frames.{in_window_now}
use Rattle.sd_safety.proofs.frame.ElsewhereSteps.{heard_alone}
use Rattle.sd_safety.proofs.frame.PlainSteps.{era_kept, plan_kept, failed_kept, commit_kept, in_window_kept}
use Rattle.sd_safety.proofs.frame.Steps.{elsewhere, alike_elsewhere}
use Rattle.sd_safety.proofs.frame.Timely.{failed_ever, first_era, up_if_made}
use Rattle.sd_safety.proofs.frame.Failing.{acts_none}
use Rattle.sd_safety.proofs.frame.Changing.{Stays, IsOutside, change_keeps}
use Rattle.sd_safety.proofs.frame.Idles.{step_at}
use Rattle.sd_safety.proofs.renewals.Preparing.{IsPreparing, preparing}

not_member_up : (u m j : Bool) → (u && (m || j)) ≡ false → m ≡ true → u ≡ false
not_member_up false m j none member = refl
not_member_up true true j none member = cc
not_member_up true false j none member = cc

-- where a member failed
follows_by : (m f u o : Bool) → (m ≡ true → f ≡ true) → (not (m && not f && u) || o) ≡ true
follows_by false f u o failed = refl
follows_by true true u o failed = refl
follows_by true false u o failed = let is = failed refl in cc

was_untouched : (made failed up : Bool) → (made ≡ true → failed ≡ false → up ≡ true) → up ≡ false → failed ≡ false → (not made && not failed) ≡ true
was_untouched true true up made_up down unfailed = cc
was_untouched true false up made_up down unfailed = let is = made_up refl refl in cc
was_untouched false true up made_up down unfailed = cc
was_untouched false false up made_up down unfailed = refl

blank_not_past : (u o n b : Bool) → b ≡ true → (u && not (o || n || b)) ≡ false
blank_not_past false o n b blank = refl
blank_not_past true true n b blank = refl
blank_not_past true false true b blank = refl
blank_not_past true false false true blank = refl
blank_not_past true false false false blank = cc

module _ {setting : Setting} (r d c clock eps : ℕ) (history : List Event) (comes : IsNextEvent setting history (event.Join r d c clock eps)) where
  abbrev e : Event
  e = event.Join r d c clock eps

  abbrev one : List Step
  one = chronicle setting history

  abbrev two : List Step
  two = chronicle setting (event.Join r d c clock eps ∷ history)

  abbrev s : Step
  s = step_at setting history (event.Join r d c clock eps)

  abbrev making : Making
  making = calls.Joined (rates_of setting.net d) c clock eps

  core : Core setting (chronicle setting history)
  core = core_before setting history (event.Join r d c clock eps) comes

  window : IsPreparing (chronicle setting history)
  window = preparing setting e history comes.clean.is refl

  stays : (step_at setting history (event.Join r d c clock eps)).seen.closed ≡ false
  stays = join_closes_none setting history r d c clock eps comes.clean

  plan : plan_now setting (chronicle setting (event.Join r d c clock eps ∷ history)) ≡ plan_now setting (chronicle setting history)
  plan = plan_kept setting one s stays

  failures : failed_now (chronicle setting (event.Join r d c clock eps ∷ history)) ≡ failed_now (chronicle setting history)
  failures = failed_kept setting one s stays refl

  -- The device before

  twice : (is_up (seen_of (chronicle setting history)) d
      && (is_member (plan_now setting (chronicle setting history)) d || joined_in_window (seen_of (chronicle setting history)) d)) ≡ false
  twice = (clear setting one e comes.clean.is.1).started_once

  member_down : is_member (plan_now setting (chronicle setting history)) d ≡ true → is_up (seen_of (chronicle setting history)) d ≡ false
  member_down member = not_member_up (is_up (seen_of one) d) (is_member (plan_now setting one) d) (joined_in_window (seen_of one) d) twice member

  member_failed : is_member (plan_now setting (chronicle setting history)) d ≡ true → device_failed_now (chronicle setting history) d ≡ true
  member_failed member = by_failure (device_failed_now one d) refl
    where
      still : (is_untouched (seen_of (chronicle setting history)) d ≡ true → ⊥)
      still untouched =
          not_both (is_member (plan_now setting one) d && is_untouched (seen_of one) d)
          (and_from (is_member (plan_now setting one) d) (is_untouched (seen_of one) d) member untouched)
          (false_of (is_member (plan_now setting one) d && is_untouched (seen_of one) d)
          (and_parts (not (is_some (started e) && list_any (λ y. is_stage y.event) (seen_of one)))
          (not (is_member (plan_now setting one) d && is_untouched (seen_of one) d)) (renews setting e history comes.clean).begins).1)
        where
          false_of : (b : Bool) → not b ≡ true → b ≡ false
          false_of true h = cc
          false_of false h = refl

      by_time : (b : Bool) → is_beginning setting (chronicle setting history) ≡ b → device_failed_now (chronicle setting history) d ≡ false → ⊥
      by_time true begins unfailed =
          still
          (was_untouched (was_made (seen_of one) d) (has_ever_failed (seen_of one) d) (is_up (seen_of one) d) (up_if_made (seen_of one) d) (member_down member)
          (failed_ever (seen_of one) (first_era setting one begins) d ∙ unfailed))
      by_time false over unfailed =
          let known : belongs setting.net (plan_now setting one) d ≡ true =
          and_from (nat_lt d (length setting.net.devices)) (is_member (plan_now setting one) d)
          (lt-ltb d (length setting.net.devices) (admitted_named_is_known setting one e d comes.clean.is.1 refl)) member in
          not_both (is_up (seen_of one) d)
          (implied (not (is_beginning setting one) && belongs setting.net (plan_now setting one) d && not (device_failed_now one d)) (is_up (seen_of one) d)
          (core.census.members_up d)
          (and_from (not (is_beginning setting one) && belongs setting.net (plan_now setting one) d) (not (device_failed_now one d))
          (and_from (not (is_beginning setting one)) (belongs setting.net (plan_now setting one) d) (ap not over) known) (ap not unfailed)))
          (member_down member)

      by_failure : (b : Bool) → device_failed_now (chronicle setting history) d ≡ b → device_failed_now (chronicle setting history) d ≡ true
      by_failure true is = is
      by_failure false is = absurd (by_time (is_beginning setting one) refl is)

  -- The device after

  here : nat_eq d d ≡ true
  here = eq-eqb d d refl

  up_now : is_up (seen_of (chronicle setting (event.Join r d c clock eps ∷ history))) d ≡ true
  up_now = ap (λ b. map_or (if b then Some true else None) (is_up (seen_of one) d) (λ told. told)) here

  live_now : live_past (chronicle setting (event.Join r d c clock eps ∷ history)) d ≡ Some (new_past (calls.Joined (rates_of setting.net d) c clock eps))
  live_now = ap (λ b. if b then past_in two d else None) up_now ∙ ap (λ b. if b then Some (new_past making) else past_in one d) here

  answers_now : live_answers (chronicle setting (event.Join r d c clock eps ∷ history)) d
      ≡ Some (answers_by (new_past (calls.Joined (rates_of setting.net d) c clock eps)))
  answers_now = live_is setting (e ∷ history) d ∙ ap (option_map answers_by) live_now

  epoch_now : epoch_in (chronicle setting (event.Join r d c clock eps ∷ history)) d ≡ Some 0
  epoch_now = ap (λ (o : Option Answers). option_map (λ a. a.epoch) o) answers_now

  none_later : (n : ℕ) → nat_eq 0 (n + 1) ≡ false
  none_later n = false_from_ne_true (nat_eq 0 (n + 1)) (λ is. positive n (eqb-true 0 (n + 1) is))
    where
      positive : (m : ℕ) → 0 ≡ m + 1 → ⊥
      positive m is = omega (arith, is)

  old_now : is_old (chronicle setting (event.Join r d c clock eps ∷ history)) d ≡ false
  old_now = ap (λ o. same_number o (era two)) epoch_now ∙ none_later _

  new_now : is_new (chronicle setting (event.Join r d c clock eps ∷ history)) d ≡ false
  new_now = ap (λ o. same_number o (staged_epoch (seen_of two))) epoch_now ∙ none_later (era two)

  blank_now : is_blank (chronicle setting (event.Join r d c clock eps ∷ history)) d ≡ true
  blank_now = ap (λ o. same_number o 0) epoch_now

  acts_now : acts_in (chronicle setting (event.Join r d c clock eps ∷ history)) d ≡ false
  acts_now = ap (λ (o : Option Answers). map_or o false (λ a. a.acts)) answers_now

  parent_now : parent_in (chronicle setting (event.Join r d c clock eps ∷ history)) d ≡ None
  parent_now = ap (λ (o : Option Answers). option_and_then (λ a. a.parent) o) answers_now

  joined_now : joined_in_window (seen_of (chronicle setting (event.Join r d c clock eps ∷ history))) d ≡ true
  joined_now = in_window_now setting s one stays (λ x. same_number (joined x.event) d) refl window.opened here

  past_now : is_past (chronicle setting (event.Join r d c clock eps ∷ history)) d ≡ false
  past_now = blank_not_past (is_up (seen_of two) d) (is_old two d) (is_new two d) (is_blank two d) blank_now

  -- it waits: joined, and blank
  waits : (joined_in_window (seen_of (chronicle setting (event.Join r d c clock eps ∷ history))) d
      && (is_blank (chronicle setting (event.Join r d c clock eps ∷ history)) d || is_new (chronicle setting (event.Join r d c clock eps ∷ history)) d)) ≡ true
  waits = and_from (joined_in_window (seen_of two) d) (is_blank two d || is_new two d) joined_now (or_left (is_blank two d) (is_new two d) blank_now)

  failed_since : is_member (plan_now setting (chronicle setting (event.Join r d c clock eps ∷ history))) d ≡ true
      → device_failed_now (chronicle setting (event.Join r d c clock eps ∷ history)) d ≡ true
  failed_since member = ap (λ xs. is_among xs (thing.Device d)) failures ∙ member_failed (sym (ap (λ p. is_member p d) plan) ∙ member)

  sound : IsSound setting.net (plan_now setting (chronicle setting history))
  sound = sound_now setting history comes.fair comes.clean.is.0

  root_is_gone : (plan_now setting (chronicle setting (event.Join r d c clock eps ∷ history))).root ≡ d
      → root_lives setting (chronicle setting (event.Join r d c clock eps ∷ history)) ≡ false
  root_is_gone is =
      let root : (plan_now setting one).root ≡ d = sym (ap (λ (p : Plan). p.root) plan) ∙ is in
      let failed : root_failed setting two ≡ true = ap (device_failed_now two) is
      ∙ failed_since (ap (λ p. is_member p d) plan ∙ sym (ap (is_member (plan_now setting one)) root) ∙ sound.rules.root) in
      ap (λ b. is_up (seen_of two) (plan_now setting two).root && not b) failed ∙ and_none (is_up (seen_of two) (plan_now setting two).root)
    where
      and_none : (b : Bool) → (b && false) ≡ false
      and_none true = refl
      and_none false = refl

  backup_root_was_down : (plan_now setting (chronicle setting history)).backup_root ≡ d → backup_root_acts setting (chronicle setting history) ≡ false
  backup_root_was_down is =
      acts_none one (plan_now setting one).backup_root
      (ap (is_up (seen_of one)) is ∙ member_down (sym (ap (is_member (plan_now setting one)) is) ∙ sound.backup_member))

  outside : IsOutside setting (chronicle setting history) (chronicle setting (event.Join r d c clock eps ∷ history)) d
  outside =
      record {
        old = old_now;
        new = new_now;
        acts = acts_now;
        moved = ap (λ (o : Option Past). map_or o false has_moved) live_now;
        touched = ap (λ b. not (b || was_made (seen_of one) d) && not (has_ever_failed (seen_of one) d)) here;
        up = or_right _ (is_up (seen_of two) d) up_now;
        follows = follows_by (is_member (plan_now setting two) d) (device_failed_now two d) (is_up (seen_of two) d) (is_old two d || is_new two d) failed_since;
        returned = or_right _ (joined_in_window (seen_of two) d && (is_blank two d || is_new two d)) waits;
        outsider = or_right _ (is_past two d || (joined_in_window (seen_of two) d && (is_blank two d || is_new two d))) (or_right (is_past two d) _ waits);
        current = or_right _ (not (is_past two d)) (ap not past_now);
        blank = or_right _ (not (is_some (parent_in two d)) && not (acts_in two d))
            (and_from (not (is_some (parent_in two d))) (not (acts_in two d)) (ap (λ (o : Option ℕ). not (is_some o)) parent_now) (ap not acts_now));
        root = root_is_gone;
        backup_root = backup_root_was_down;
      }

  -- others joined as before
  joins : (x : ℕ) → nat_eq d x ≡ false
      → joined_in_window (seen_of (chronicle setting (event.Join r d c clock eps ∷ history))) x ≡ joined_in_window (seen_of (chronicle setting history)) x
  joins x is = in_window_kept setting one s stays refl (λ y. same_number (joined y.event) x) is

  each : (x : ℕ) → Stays (chronicle setting history) (chronicle setting (event.Join r d c clock eps ∷ history)) x
      ⊎ IsOutside setting (chronicle setting history) (chronicle setting (event.Join r d c clock eps ∷ history)) x
  each x = by (nat_eq d x) refl
    where
      by : (b : Bool) → nat_eq d x ≡ b
          → Stays (chronicle setting history) (chronicle setting (event.Join r d c clock eps ∷ history)) x
          ⊎ IsOutside setting (chronicle setting history) (chronicle setting (event.Join r d c clock eps ∷ history)) x
      by true is = inr (subst (IsOutside setting one two) (eqb-true d x is) outside)
      by false is =
          inl (record {
            alike = alike_elsewhere setting one s x (elsewhere setting one e x is);
            failed = ap (λ xs. is_among xs (thing.Device x)) failures;
            joined_is = joins x is;
            heard_is = heard_alone one s x (elsewhere setting one e x is);
          })

pub join : {setting : Setting} → (r d c clock eps : ℕ) → Keeps setting (event.Join r d c clock eps)
join {setting} r d c clock eps history comes =
    let one : List Step = chronicle setting history in
    let s : Step = step_at setting history (event.Join r d c clock eps) in
    change_keeps setting (event.Join r d c clock eps) history comes.fair comes.clean (core r d c clock eps history comes) None
    (era_kept setting one s (stays r d c clock eps history comes))
    (window r d c clock eps history comes).uncommitted (commit_kept setting one s (stays r d c clock eps history comes) refl refl
    ∙ (window r d c clock eps history comes).uncommitted)
    (failures r d c clock eps history comes) (each r d c clock eps history comes)
    (λ l. inr (ap (λ xs. is_among xs (thing.Link l)) (failures r d c clock eps history comes), refl))
    refl (stays r d c clock eps history comes)
