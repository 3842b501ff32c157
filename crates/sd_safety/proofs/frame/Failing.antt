-- A device that fails stands outside: it is not up, so no clause asks anything of it. And the backup root does not fail once it acts, since no domain
-- holds it and the root.
use Rattle.std.specs.Prelude.{◌≡◌, ℕ, true, false, ◌&&◌, ◌||◌, not, List, ◌∷◌, Option, None, is_some, option_map, if◌then◌else◌}
use Rattle.std.proofs.Common.{◌∙◌, ap}
use Rattle.std.proofs.lemmas.Bool.{and_right, or_right, false_from_ne_true}
use Rattle.sd_num.specs.Lists.{map_or, same_number}
use Rattle.sd_plan.specs.declared.topo.Thing.{Thing}
use Rattle.sd_plan.specs.declared.topo.Thing.TheVariants as thing
use Rattle.sd_plan.specs.domain.Things.{same_thing}
use Rattle.sd_plan.specs.declared.Plan.{Plan}
use Rattle.sd_plan.specs.Plans.{is_member}
use Rattle.sd_device.specs.Words.{has_moved}
use Rattle.sd_sched.specs.declared.Event.{Event}
use Rattle.sd_history.specs.World.{Setting, is_up, is_untouched, joined_in_window, staged_epoch}
use Rattle.sd_history.specs.Steps.{Answers, Step, seen_of, answers_in, live_answers, acts_in, parent_in}
use Rattle.sd_history.specs.Chronicle.{chronicle, past_in}
use Rattle.sd_safety.specs.invariant.Eras.{era, plan_now, failed_now, is_among, device_failed_now, is_old, is_new, is_blank, is_past, moved, belongs, root_failed}
use Rattle.sd_safety.specs.invariant.Clauses.{is_beginning, backup_root_acts}
use Rattle.sd_safety.specs.invariant.Invariant.{Core}
use Rattle.sd_safety.specs.invariant.Guarded.{AreGuarded, IsSteady}
use Rattle.sd_safety.proofs.invariant.Sides.{implied, not_both}
use Rattle.sd_safety.proofs.invariant.Facts.{not_both_failed}
use Rattle.sd_safety.proofs.invariant.Following.{held_now, guarded_now}
use Rattle.sd_safety.proofs.frame.Words as words
use Rattle.sd_safety.proofs.invariant.Empty.{asks_nothing}
use Rattle.sd_safety.proofs.frame.Changing.{IsOutside}

-- of a device that is not up
module _ (two : List Step) (x : ℕ) (down : is_up (seen_of two) x ≡ false) where
  live_none : live_answers two x ≡ None
  live_none = ap (λ b. if b then answers_in two x else None) down

  old_none : is_old two x ≡ false
  old_none = ap (λ (o : Option Answers). same_number (option_map (λ a. a.epoch) o) (era two)) live_none

  new_none : is_new two x ≡ false
  new_none = ap (λ (o : Option Answers). same_number (option_map (λ a. a.epoch) o) (staged_epoch (seen_of two))) live_none

  blank_none : is_blank two x ≡ false
  blank_none = ap (λ (o : Option Answers). same_number (option_map (λ a. a.epoch) o) 0) live_none

  pub acts_none : acts_in two x ≡ false
  acts_none = ap (λ (o : Option Answers). map_or o false (λ a. a.acts)) live_none

  moved_none : moved two x ≡ false
  moved_none = ap (λ b. map_or (if b then past_in two x else None) false has_moved) down

module _ (setting : Setting) (e : Event) (history : List Event) (fair : AreGuarded setting) (clean : IsSteady setting (e ∷ history))
    (core : Core setting (chronicle setting history))
    (eras : era (chronicle setting (e ∷ history)) ≡ era (chronicle setting history)) (t : Thing)
    (more : failed_now (chronicle setting (e ∷ history)) ≡ t ∷ failed_now (chronicle setting history))
    (x : ℕ) (down : is_up (seen_of (chronicle setting (e ∷ history))) x ≡ false) (failed : device_failed_now (chronicle setting (e ∷ history)) x ≡ true)
    (touched : is_untouched (seen_of (chronicle setting (e ∷ history))) x ≡ false) where
  abbrev one : List Step
  one = chronicle setting history

  abbrev two : List Step
  two = chronicle setting (e ∷ history)

  plan : plan_now setting (chronicle setting (e ∷ history)) ≡ plan_now setting (chronicle setting history)
  plan = words.plan_same setting one two eras

  root_fails_on : root_failed setting (chronicle setting history) ≡ true → root_failed setting (chronicle setting (e ∷ history)) ≡ true
  root_fails_on was =
      ap (λ (p : Plan). device_failed_now two p.root) plan
      ∙ ap (λ xs. is_among xs (thing.Device (plan_now setting one).root)) more
      ∙ or_right (same_thing (thing.Device (plan_now setting one).root) t) (root_failed setting one) was

  -- a backup root that acted goes on
  never_acted : (plan_now setting (chronicle setting history)).backup_root ≡ x → backup_root_acts setting (chronicle setting history) ≡ false
  never_acted is =
      false_from_ne_true (backup_root_acts setting one)
      (λ acting.
      not_both (device_failed_now two (plan_now setting two).backup_root)
      (ap (λ (p : Plan). device_failed_now two p.backup_root) plan ∙ ap (device_failed_now two) is ∙ failed)
      (not_both_failed setting two (held_now setting e history clean) (guarded_now setting e history fair clean)
      (root_fails_on (implied (backup_root_acts setting one) (root_failed setting one) core.causes.takeover acting))))

  pub falls : IsOutside setting (chronicle setting history) (chronicle setting (e ∷ history)) x
  falls =
      record {
        old = old_none two x down;
        new = new_none two x down;
        acts = acts_none two x down;
        moved = moved_none two x down;
        touched = touched;
        up =
            asks_nothing (not (is_beginning setting two) && belongs setting.net (plan_now setting two) x && not (device_failed_now two x))
            (is_up (seen_of two) x)
            (and_right (not (is_beginning setting two) && belongs setting.net (plan_now setting two) x) (not (device_failed_now two x)) (ap not failed));
        follows =
            asks_nothing (is_member (plan_now setting two) x && not (device_failed_now two x) && is_up (seen_of two) x) (is_old two x || is_new two x)
            (and_right (is_member (plan_now setting two) x && not (device_failed_now two x)) (is_up (seen_of two) x) down);
        returned =
            asks_nothing (is_member (plan_now setting two) x && device_failed_now two x && is_up (seen_of two) x)
            (joined_in_window (seen_of two) x && (is_blank two x || is_new two x))
            (and_right (is_member (plan_now setting two) x && device_failed_now two x) (is_up (seen_of two) x) down);
        outsider = ap (λ b. not (b && not (is_member (plan_now setting two) x))
            || (is_past two x || (joined_in_window (seen_of two) x && (is_blank two x || is_new two x)))) down;
        current = ap (λ b. not (b && (is_member (plan_now setting two) x || joined_in_window (seen_of two) x)) || not (is_past two x)) down;
        blank = ap (λ b. not b || (not (is_some (parent_in two x)) && not (acts_in two x))) (blank_none two x down);
        root = λ is. ap (λ b. b && not (root_failed setting two)) (ap (is_up (seen_of two)) is ∙ down);
        backup_root = never_acted;
      }
