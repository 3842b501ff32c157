-- Before a commit only one counted device can act: the root, or where that failed the backup root. So this is the one that commits (C9 c).
use Rattle.std.specs.Prelude.{◌≡◌, ℕ, Bool, true, false, ◌&&◌, ◌||◌, not, List, is_some, refl, if◌then◌else◌}
use Rattle.std.proofs.Common.{◌∙◌, ap, sym}
use Rattle.std.proofs.lemmas.Bool.{and_from, eqb-true, not-true, false_from_ne_true}
use Rattle.sd_plan.specs.Plans.{is_member, is_root, is_backup_root}
use Rattle.sd_sched.specs.declared.Event.{Event}
use Rattle.sd_history.specs.World.{Setting, is_up, has_commit, is_counted, joined_in_window}
use Rattle.sd_history.specs.Steps.{Step, seen_of, acts_in, parent_in}
use Rattle.sd_history.specs.Chronicle.{chronicle}
use Rattle.sd_history.specs.Admitted.{IsAdmitted}
use Rattle.sd_safety.specs.invariant.Eras.{plan_now, is_old, is_new, is_blank, is_ordinary, root_failed}
use Rattle.sd_safety.proofs.invariant.Sides.{implied, not_both, stands}
use Rattle.sd_safety.specs.windows.Standing.{HasStanding}
use Rattle.sd_safety.proofs.windows.NoneBeforeCommit.{uncommitted}
use Rattle.sd_safety.proofs.invariant.Known.{acting_is_up}

pub no_blank : (blank parent acts : Bool) → (not blank || (not parent && not acts)) ≡ true → acts ≡ true → blank ≡ false
no_blank true true acts idle is = cc
no_blank true false true idle is = cc
no_blank true false false idle is = cc
no_blank false parent acts idle is = refl

one_of : (member root backup : Bool) → member ≡ true → (member && not root && not backup) ≡ false → root ≡ false → backup ≡ true
one_of true false true is not_ordinary other = refl
one_of true false false is not_ordinary other = cc
one_of true true backup is not_ordinary other = cc
one_of false root backup is not_ordinary other = cc

-- none is new before a commit
pub not_new : (setting : Setting) (history : List Event) (x : ℕ) → IsAdmitted setting history → has_commit (seen_of (chronicle setting history)) ≡ false
    → is_new (chronicle setting history) x ≡ false
not_new setting history x is none =
    not-true (is_new (chronicle setting history) x)
    (implied (not (has_commit (seen_of (chronicle setting history)))) (not (is_new (chronicle setting history) x)) ((uncommitted setting history is).devices x)
    (ap not none))

-- a device that acts before a commit and counts is an old member
pub record ActsOld (setting : Setting) (steps : List Step) (x : ℕ) : Type 0 where
  pub old : is_old steps x ≡ true
  pub member : is_member (plan_now setting steps) x ≡ true
  pub is : x ≡ (if root_failed setting steps then (plan_now setting steps).backup_root else (plan_now setting steps).root)

module _ (setting : Setting) (history : List Event) (is : IsAdmitted setting history) (none : has_commit (seen_of (chronicle setting history)) ≡ false)
    (has : HasStanding setting (chronicle setting history)) where
  abbrev steps : List Step
  steps = chronicle setting history

  old_member : (x : ℕ) → is_counted setting (seen_of (chronicle setting history)) x ≡ true → acts_in (chronicle setting history) x ≡ true
      → (is_old (chronicle setting history) x ≡ true) × (is_member (plan_now setting (chronicle setting history)) x ≡ true)
  old_member x counted acts =
      let up = acting_is_up steps x acts in
      stands (is_up (seen_of steps) x) (is_member (plan_now setting steps) x) (joined_in_window (seen_of steps) x) (is_old steps x) (is_new steps x)
      (is_blank steps x) counted (has.current x up)
      (not_new setting history x is none) (no_blank (is_blank steps x) (is_some (parent_in steps x)) (acts_in steps x) (has.blanks x up) acts)
      (has.outsiders x up)

  -- it is the root, or where that failed the backup root
  pub who_acts : (x : ℕ) → is_counted setting (seen_of (chronicle setting history)) x ≡ true → acts_in (chronicle setting history) x ≡ true
      → ActsOld setting (chronicle setting history) x
  who_acts x counted acts =
      let both = old_member x counted acts in
      record { old = both.0; member = both.1; is = go (is_root (plan_now setting steps) x) refl (root_failed setting steps) refl }
    where
      up : is_up (seen_of (chronicle setting history)) x ≡ true
      up = acting_is_up (chronicle setting history) x acts

      not_ordinary : is_ordinary (plan_now setting (chronicle setting history)) x ≡ false
      not_ordinary =
          false_from_ne_true _
          (λ ordinary.
          not_both (acts_in (chronicle setting history) x) acts
          (not-true (acts_in (chronicle setting history) x)
          (implied (is_old (chronicle setting history) x && is_ordinary (plan_now setting (chronicle setting history)) x) _ (has.ordinary x up)
          (and_from (is_old (chronicle setting history) x) _ (old_member x counted acts).0 ordinary))))

      go : (r : Bool) → is_root (plan_now setting (chronicle setting history)) x ≡ r → (f : Bool) → root_failed setting (chronicle setting history) ≡ f
          → x ≡ (if f then (plan_now setting (chronicle setting history)).backup_root else (plan_now setting (chronicle setting history)).root)
      go true root true failed =
          let here : (plan_now setting (chronicle setting history)).root ≡ x = eqb-true (plan_now setting (chronicle setting history)).root x root in
          let not_old =
          not-true _ (implied (root_failed setting (chronicle setting history))
          (not (is_old (chronicle setting history) (plan_now setting (chronicle setting history)).root)) has.failed_root failed) in
          absurd (not_both (is_old (chronicle setting history) x) (old_member x counted acts).0 (sym (ap (is_old (chronicle setting history)) here) ∙ not_old))
      go true root false failed = sym (eqb-true (plan_now setting (chronicle setting history)).root x root)
      go false root true failed =
          let backup =
          one_of (is_member (plan_now setting (chronicle setting history)) x) (is_root (plan_now setting (chronicle setting history)) x)
          (is_backup_root (plan_now setting (chronicle setting history)) x) (old_member x counted acts).1 not_ordinary root in
          sym (eqb-true (plan_now setting (chronicle setting history)).backup_root x backup)
      go false root false failed =
          let backup =
          one_of (is_member (plan_now setting (chronicle setting history)) x) (is_root (plan_now setting (chronicle setting history)) x)
          (is_backup_root (plan_now setting (chronicle setting history)) x) (old_member x counted acts).1 not_ordinary root in
          let here : (plan_now setting (chronicle setting history)).backup_root ≡ x =
          eqb-true (plan_now setting (chronicle setting history)).backup_root x backup in
          absurd
          (not_both (root_failed setting (chronicle setting history))
          (implied (acts_in (chronicle setting history) (plan_now setting (chronicle setting history)).backup_root)
          (root_failed setting (chronicle setting history)) has.takeover (ap (acts_in (chronicle setting history)) here ∙ acts)) failed)
