-- What StoodThen asks for at the newest event: while an old backup root is on its primary, a device of its path that is up and of the plan in force has
-- neither moved nor does it act. From C5, C2 and C1. At the events before it is a hypothesis (StoodThen).
use Rattle.std.specs.Prelude.{◌≡◌, ℕ, Bool, true, false, ◌&&◌, ◌||◌, not, List, nat_eq, Option, Some, None, is_some, option_map, refl, if◌then◌else◌}
use Rattle.std.proofs.Common.{◌∙◌, ap, sym}
use Rattle.std.proofs.lemmas.Bool.{and_parts, and_from, eqb-true, eq-eqb, not-true}
use Rattle.sd_num.specs.Lists.{map_or, same_number, has}
use Rattle.sd_plan.specs.Plans.{is_member, is_root, is_backup_root}
use Rattle.sd_num.proofs.Shared.{unequal_swap}
use Rattle.sd_device.specs.Calls.{Past}
use Rattle.sd_device.specs.Words.{epoch_now, has_moved, is_acting}
use Rattle.sd_sched.specs.declared.Event.{Event}
use Rattle.sd_history.specs.World.{Setting, is_up}
use Rattle.sd_history.specs.Steps.{Answers, Step, seen_of, acts_in}
use Rattle.sd_history.specs.Chronicle.{answers_by, past_in, chronicle}
use Rattle.sd_safety.specs.invariant.Eras.{era, plan_now, is_old, live_past, moved, on_primary, is_ordinary}
use Rattle.sd_safety.specs.invariant.Clauses.{above_backup_root, backup_root_stays}
use Rattle.sd_safety.specs.invariant.Invariant.{Core}
use Rattle.sd_safety.proofs.invariant.Parents.{live_is}
use Rattle.sd_safety.proofs.invariant.Sides.{implied}
use Rattle.sd_safety.proofs.invariant.Staying.{old_is_member}
use Rattle.sd_safety.proofs.windows.Leading.{stands_by}

pub chosen : (a b : Bool) → (a || b) ≡ true → a ≡ false → b ≡ true
chosen true b h none = cc
chosen false b h none = h

module _ (setting : Setting) (history : List Event) (core : Core setting (chronicle setting history))
    (stays : backup_root_stays setting (chronicle setting history) ≡ true) (y : ℕ)
    (on_ : (nat_eq y (plan_now setting (chronicle setting history)).backup_root || has (above_backup_root setting (chronicle setting history)) y) ≡ true)
    (low : is_root (plan_now setting (chronicle setting history)) y ≡ false) (up : is_up (seen_of (chronicle setting history)) y ≡ true)
    (past : Past) (there : past_in (chronicle setting history) y ≡ Some past) (own : epoch_now past ≡ era (chronicle setting history)) where
  abbrev steps : List Step
  steps = chronicle setting history

  live : live_past (chronicle setting history) y ≡ Some past
  live = ap (λ b. if b then past_in steps y else None) up ∙ there

  old : is_old (chronicle setting history) y ≡ true
  old =
      ap (λ (o : Option Answers). same_number (option_map (λ a. a.epoch) o) (era steps)) (live_is setting history y)
      ∙ ap (λ (o : Option Past). same_number (option_map (λ a. a.epoch) (option_map answers_by o)) (era steps)) live ∙ eq-eqb (epoch_now past) (era steps) own

  moved_is : moved (chronicle setting history) y ≡ has_moved past
  moved_is = ap (λ (o : Option Past). map_or o false has_moved) live

  acts_is : acts_in (chronicle setting history) y ≡ is_acting past
  acts_is =
      ap (λ (o : Option Answers). map_or o false (λ a. a.acts)) (live_is setting history y)
      ∙ ap (λ (o : Option Past). map_or (option_map answers_by o) false (λ a. a.acts)) live

  stands : (b : Bool) → nat_eq y (plan_now setting (chronicle setting history)).backup_root ≡ b
      → (moved (chronicle setting history) y ≡ false) × (acts_in (chronicle setting history) y ≡ false)
  stands true same =
      let b = (plan_now setting steps).backup_root in
      let primary : on_primary steps y ≡ true = ap (on_primary steps) (eqb-true y b same) ∙ (and_parts (is_old steps b) (on_primary steps b) stays).1 in
      stands_by (is_some (live_past steps y)) (moved steps y) (acts_in steps y) primary
  stands false other =
      let plan = plan_now setting steps in
      let above : has (above_backup_root setting steps) y ≡ true = chosen (nat_eq y plan.backup_root) (has (above_backup_root setting steps) y) on_ other in
      let member : is_member plan y ≡ true = old_is_member setting steps y (core.census.outsiders y) old in
      let ordinary : is_ordinary plan y ≡ true =
      and_from (is_member plan y && not (is_root plan y)) (not (is_backup_root plan y)) (and_from (is_member plan y) (not (is_root plan y)) member (ap not low))
      (ap not (unequal_swap y plan.backup_root other)) in (
        not-true (moved steps y)
            (implied (backup_root_stays setting steps && has (above_backup_root setting steps) y && not (is_root plan y) && is_old steps y)
            (not (moved steps y)) (core.causes.path y)
            (and_from (backup_root_stays setting steps && has (above_backup_root setting steps) y && not (is_root plan y)) (is_old steps y)
            (and_from (backup_root_stays setting steps && has (above_backup_root setting steps) y) (not (is_root plan y))
            (and_from (backup_root_stays setting steps) (has (above_backup_root setting steps) y) stays above) (ap not low)) old)),
        not-true (acts_in steps y)
            (implied (is_old steps y && is_ordinary plan y) (not (acts_in steps y)) (core.roles.ordinary y)
            (and_from (is_old steps y) (is_ordinary plan y) old ordinary)),
      )

  -- it has neither moved nor does it act
  pub stands_now : (has_moved past ≡ false) × (is_acting past ≡ false)
  stands_now = let both = stands (nat_eq y (plan_now setting steps).backup_root) refl in (sym moved_is ∙ both.0, sym acts_is ∙ both.1)
