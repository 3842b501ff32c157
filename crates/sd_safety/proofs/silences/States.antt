-- How devices stand before an event, later than all have started, while the root did not fail: a device with a clear hop is up, and where it is not new, old,
-- on its
-- primary, and ready for what comes over that hop; and without a commit nobody is new, and the root is old, acts, and sent at most P ago. From the invariant.
use Rattle.std.specs.Prelude.{◌≡◌, ℕ, ◌+◌, Bool, true, false, ◌&&◌, ◌||◌, not, List, ◌∷◌, Option, Some, None, option_map, refl, if◌then◌else◌}
use Rattle.std.proofs.Common.{arith, sym, ◌∙◌, ap, subst}
use Rattle.std.proofs.lemmas.Bool.{and_parts, and_from, not-true, eqb-true, false_from_ne_true}
use Rattle.sd_num.specs.Lists.{map_or}
use Rattle.sd_plan.specs.topo.Network.{Network}
use Rattle.sd_plan.specs.declared.Hop.{Hop}
use Rattle.sd_plan.specs.declared.Plan.{Plan}
use Rattle.sd_plan.specs.declared.Duty.{Duty}
use Rattle.sd_plan.specs.Plans.{is_member, is_present, is_root, is_backup_root, primary_of}
use Rattle.sd_plan.specs.Duties.{duty_of, edge_of}
use Rattle.sd_num.proofs.Shared.{same_number-some}
use Rattle.sd_device.specs.Calls.{Past}
use Rattle.sd_device.specs.Words.{is_acting, has_moved, duty_now, backup_now, primary_now}
use Rattle.sd_sched.specs.declared.Event.{Event}
use Rattle.sd_history.specs.World.{Setting, is_up, link_has_failed}
use Rattle.sd_history.specs.Steps.{Step, seen_of, acts_in, epoch_in}
use Rattle.sd_history.specs.Chronicle.{past_in, chronicle}
use Rattle.sd_history.proofs.Given.{some_is}
use Rattle.sd_safety.specs.invariant.Eras.{era, plan_now, failed_now, device_failed_now, link_failed_now, is_old, is_new, moved, is_ordinary, hit, hit_otherwise, path_hit, root_failed}
use Rattle.sd_safety.specs.invariant.Clauses.{backup_root_acts}
use Rattle.sd_safety.specs.invariant.Invariant.{Invariant}
use Rattle.sd_safety.specs.invariant.Coming.{IsNextEvent}
use Rattle.sd_safety.proofs.invariant.Sides.{implied, not_both}
use Rattle.sd_safety.specs.messages.Rounds.{IsReady, follows_parent}
use Rattle.sd_safety.proofs.waits.Waits.{Stands, old_stands}
use Rattle.sd_safety.proofs.silences.Paths.{IsClear, path_misses_cut}
use Rattle.sd_safety.proofs.waits.Standing.{now, Early, is_up_then}

pub ready_of : (net : Network) (plan : Plan) (epoch y : ℕ) (hop : Hop) (past : Past) → duty_now past ≡ Some (duty_of net plan epoch y) → has_moved past ≡ false
    → is_acting past ≡ false → primary_of plan y ≡ Some hop → IsReady past epoch hop.link
ready_of net plan epoch y hop past duty unmoved still primary =
    follows_parent (edge_of net y hop) (ap (λ (o : Option Duty). map_or o 0 (λ u. u.epoch)) duty)
    (ap (λ b. if b then None else if has_moved past then backup_now past else primary_now past) still
    ∙ ap (λ b. if b then backup_now past else primary_now past) unmoved
    ∙ ap (λ (o : Option Duty). map_or o None (λ u. u.primary)) duty
    ∙ ap (option_map (edge_of net y)) primary) refl

-- no device is old and new
pub not_old_and_new : (steps : List Step) (d : ℕ) → is_old steps d ≡ true → is_new steps d ≡ true → ⊥
not_old_and_new steps d old new =
    apart (era steps) (some_is (sym (same_number-some (epoch_in steps d) (era steps) old) ∙ same_number-some (epoch_in steps d) (era steps + 1) new))
  where
    apart : (n : ℕ) → n ≡ n + 1 → ⊥
    apart n same = omega (arith, same)

module _ (setting : Setting) (x : Event) (h : List Event) (e : Event) (comes : IsNextEvent setting (x ∷ h) e) where
  abbrev steps : List Step
  steps = chronicle setting (x ∷ h)

  abbrev plan : Plan
  plan = plan_now setting (chronicle setting (x ∷ h))

  inv : Invariant setting (chronicle setting (x ∷ h))
  inv = now setting x h e comes

  -- a member that is up, did not fail in the era and is not new is old
  pub old_unless_new : (d : ℕ) → is_member (plan_now setting (chronicle setting (x ∷ h))) d ≡ true → device_failed_now (chronicle setting (x ∷ h)) d ≡ false
      → is_up (seen_of (chronicle setting (x ∷ h))) d ≡ true → is_new (chronicle setting (x ∷ h)) d ≡ false
      → is_old (chronicle setting (x ∷ h)) d ≡ true
  old_unless_new d member self up_ not_new =
      by (is_old steps d) (is_new steps d)
      (implied (is_member plan d && not (device_failed_now steps d) && is_up (seen_of steps) d) (is_old steps d || is_new steps d)
      (inv.core.census.members_follow d)
      (and_from (is_member plan d && not (device_failed_now steps d)) (is_up (seen_of steps) d)
      (and_from (is_member plan d) (not (device_failed_now steps d)) member (ap not self)) up_)) not_new
    where
      by : (o n : Bool) → (o || n) ≡ true → n ≡ false → o ≡ true
      by true n either none = refl
      by false true either none = cc
      by false false either none = cc

  -- what is present and did not fail in the era is whole
  pub link_whole : (l : ℕ) → is_present (plan_now setting (chronicle setting (x ∷ h))) l ≡ true → link_failed_now (chronicle setting (x ∷ h)) l ≡ false
      → link_has_failed (seen_of (chronicle setting (x ∷ h))) l ≡ false
  link_whole l present none =
      not-true (link_has_failed (seen_of steps) l)
      (implied (is_present plan l && not (link_failed_now steps l)) (not (link_has_failed (seen_of steps) l)) (inv.core.census.links l)
      (and_from (is_present plan l) (not (link_failed_now steps l)) present (ap not none)))

  -- an old ordinary device that is not hit has not moved, and does not act
  module _ (y : ℕ) (old : is_old (chronicle setting (x ∷ h)) y ≡ true) (ordinary : is_ordinary (plan_now setting (chronicle setting (x ∷ h))) y ≡ true) where
    pub unmoved_unless_hit : hit setting (chronicle setting (x ∷ h)) y ≡ false → moved (chronicle setting (x ∷ h)) y ≡ false
    unmoved_unless_hit none =
        false_from_ne_true (moved steps y)
        (λ put. not_both (hit setting steps y)
        (and_parts (hit setting steps y) (hit_otherwise setting steps y || backup_root_acts setting steps)
        (implied (is_old steps y && is_ordinary plan y && moved steps y) _ (inv.core.causes.backups y)
        (and_from (is_old steps y && is_ordinary plan y) (moved steps y) (and_from (is_old steps y) (is_ordinary plan y) old ordinary) put))).0 none)

    pub ordinary_still : acts_in (chronicle setting (x ∷ h)) y ≡ false
    ordinary_still =
        not-true (acts_in steps y)
        (implied (is_old steps y && is_ordinary plan y) (not (acts_in steps y)) (inv.core.roles.ordinary y)
        (and_from (is_old steps y) (is_ordinary plan y) old ordinary))

  -- an old device on its primary is ready for what comes over its primary hop
  pub ready_old : (y : ℕ) (hop : Hop) → is_old (chronicle setting (x ∷ h)) y ≡ true → moved (chronicle setting (x ∷ h)) y ≡ false
      → acts_in (chronicle setting (x ∷ h)) y ≡ false → primary_of (plan_now setting (chronicle setting (x ∷ h))) y ≡ Some hop → (past : Past)
      → past_in (chronicle setting (x ∷ h)) y ≡ Some past → IsReady past (era (chronicle setting (x ∷ h))) hop.link
  ready_old y hop old unmoved still primary past there =
      let s : Stands setting steps y = old_stands setting (x ∷ h) y old in
      subst (λ p. IsReady p (era steps) hop.link) (some_is (sym s.there ∙ there))
      (ready_of setting.net plan (era steps) y hop s.past s.duty (sym s.moved_is ∙ unmoved) (sym s.acts_is ∙ still) primary)

  -- a device with a clear hop
  module _ (late : Early setting x h e comes → ⊥) (y : ℕ) (hop : Hop)
      (clear : IsClear setting.net (plan_now setting (chronicle setting (x ∷ h))) (failed_now (chronicle setting (x ∷ h))) y hop) where
    pub clear_up : is_up (seen_of (chronicle setting (x ∷ h))) y ≡ true
    clear_up = is_up_then setting x h e comes y clear.known clear.member clear.self late

    pub clear_link : link_has_failed (seen_of (chronicle setting (x ∷ h))) hop.link ≡ false
    clear_link = link_whole hop.link clear.present clear.link

    module _ (kept : root_failed setting (chronicle setting (x ∷ h)) ≡ false) (not_new : is_new (chronicle setting (x ∷ h)) y ≡ false) where
      clear_old : is_old (chronicle setting (x ∷ h)) y ≡ true
      clear_old = old_unless_new y clear.member clear.self clear_up not_new

      ordinary : is_backup_root plan y ≡ false → is_ordinary plan y ≡ true
      ordinary not_backup =
          and_from (is_member plan y && not (is_root plan y)) (not (is_backup_root plan y))
          (and_from (is_member plan y) (not (is_root plan y)) clear.member (ap not clear.other)) (ap not not_backup)

      unmoved_when : (b : Bool) → is_backup_root plan y ≡ b → moved steps y ≡ false
      unmoved_when true is =
          let same : plan.backup_root ≡ y = eqb-true plan.backup_root y is in
          false_from_ne_true (moved steps y)
          (λ put. not_both (path_hit setting steps y)
          (subst (λ z. path_hit setting steps z ≡ true) same
          (implied (is_old steps plan.backup_root && moved steps plan.backup_root) (path_hit setting steps plan.backup_root) inv.core.causes.move
          (subst (λ z. (is_old steps z && moved steps z) ≡ true) (sym same) (and_from (is_old steps y) (moved steps y) clear_old put)))) clear.path_)
      unmoved_when false is = unmoved_unless_hit y clear_old (ordinary is) (path_misses_cut plan setting.net (failed_now steps) y clear.path_)

      still_when : (b : Bool) → is_backup_root plan y ≡ b → acts_in steps y ≡ false
      still_when true is =
          let same : plan.backup_root ≡ y = eqb-true plan.backup_root y is in
          false_from_ne_true (acts_in steps y)
          (λ acts. not_both (root_failed setting steps)
          (implied (backup_root_acts setting steps) (root_failed setting steps) inv.core.causes.takeover
          (subst (λ z. acts_in steps z ≡ true) (sym same) acts)) kept)
      still_when false is = ordinary_still y clear_old (ordinary is)

      pub ready_unless_new : (past : Past) → past_in (chronicle setting (x ∷ h)) y ≡ Some past → IsReady past (era (chronicle setting (x ∷ h))) hop.link
      ready_unless_new = ready_old y hop clear_old (unmoved_when (is_backup_root plan y) refl) (still_when (is_backup_root plan y) refl) clear.primary
