-- What a closing gives the new era: right after it nothing failed in the era, every member is old, sealed and on its primary, or is the root and
-- acts. So C2, C3, C4 and C5 hold again, and most of C1, from C10, the clauses on outsiders, and that who is up is a device of the network.
use Rattle.std.specs.Prelude.{◌≡◌, ℕ, ◌+◌, Bool, true, false, ◌&&◌, ◌||◌, not, List, [], ◌∷◌, filter_map, length, nat_le, nat_lt, is_some, refl, if◌then◌else◌}
use Rattle.std.specs.List.{list_any}
use Rattle.std.proofs.Common.{◌∙◌, ap, sym}
use Rattle.std.proofs.lemmas.Bool.{and_parts, and_from, eq-eqb, not-true}
use Rattle.sd_num.specs.Lists.{has, leading}
use Rattle.sd_plan.specs.declared.topo.Thing.{Thing}
use Rattle.sd_plan.specs.declared.topo.Thing.TheVariants as thing
use Rattle.sd_plan.specs.domain.Things.{same_thing}
use Rattle.sd_checker.specs.check_root.Timing.{silence}
use Rattle.sd_history.specs.Things.{failure_of}
use Rattle.sd_plan.specs.Plans.{is_member, is_root, is_backup_root}
use Rattle.sd_history.specs.World.{Setting, Seen, is_up, latest_reference}
use Rattle.sd_history.specs.Steps.{Step, seen_of, acts_in, has_settled}
use Rattle.sd_safety.specs.invariant.Eras.{era, plan_now, failed_now, is_old, live_past, moved, on_primary, heard_at, belongs, is_ordinary, path_hit, root_failed, root_lives}
use Rattle.sd_safety.specs.invariant.Clauses.{backup_is_caused, move_is_caused, takeover_is_caused, path_stays, backup_root_acts, backup_root_stays, above_backup_root, just_closed, outsider_is_past}
use Rattle.sd_safety.specs.invariant.Invariant.{IsClosed, HasRoles}
use Rattle.sd_safety.proofs.invariant.Known.{old_is_up, moved_is_up, acting_is_up}
use Rattle.sd_safety.proofs.invariant.Sides.{implied, not_both}
use Rattle.sd_safety.proofs.invariant.Fallback.{from_absurd}
use Rattle.sd_safety.proofs.invariant.Staying.{old_is_member}
use Rattle.sd_safety.proofs.windows.Leading.{stands_by}

-- nothing failed in an era that has just begun
pub none_failed : (steps : List Step) → just_closed steps ≡ true → failed_now steps ≡ []
none_failed [] closed = cc
none_failed (s ∷ earlier) closed =
    ap (λ b. filter_map (λ (x : Seen). failure_of x.event) (if not b then s.seen ∷ leading (λ x. not x.closed) (seen_of earlier) else [])) closed

ordinary_parts : (member root backup : Bool) → (member && not root && not backup) ≡ true → (member ≡ true) × (root ≡ false)
ordinary_parts true false backup all = (refl, refl)
ordinary_parts true true backup all = cc
ordinary_parts false root backup all = cc

false_gives : (a b : Bool) → (a ≡ true → ⊥) → (not a || b) ≡ true
false_gives true b none = absurd (none refl)
false_gives false b none = refl

pub gives : (a b : Bool) → (a ≡ true → b ≡ true) → (not a || b) ≡ true
gives true b then_ = then_ refl
gives false b then_ = refl

module _ (setting : Setting) (steps : List Step) (closed : just_closed steps ≡ true) (begins : IsClosed setting steps)
    (known : (d : ℕ) → is_up (seen_of steps) d ≡ true → nat_lt d (length setting.net.devices) ≡ true) where
  settled : (d : ℕ) → is_up (seen_of steps) d ≡ true → is_member (plan_now setting steps) d ≡ true
      → (if is_root (plan_now setting steps) d then acts_in steps
      d else (on_primary steps d && nat_le (latest_reference (seen_of steps)) (heard_at steps d + silence setting.net))) ≡ true
  settled d up member =
      (and_parts (has_settled steps (era steps) d) _
      (implied (just_closed steps && belongs setting.net (plan_now setting steps) d) _ (begins.members d)
      (and_from (just_closed steps) (belongs setting.net (plan_now setting steps) d) closed
      (and_from (nat_lt d (length setting.net.devices)) (is_member (plan_now setting steps) d) (known d up) member)))).1

  -- a member that is up, other than the root, has not moved and does not act
  put : (d : ℕ) → is_up (seen_of steps) d ≡ true → is_member (plan_now setting steps) d ≡ true → is_root (plan_now setting steps) d ≡ false
      → (moved steps d ≡ false) × (acts_in steps d ≡ false)
  put d up member other =
      let both = sym
      (ap (λ r. if r then acts_in steps d else (on_primary steps d && nat_le (latest_reference (seen_of steps)) (heard_at steps d + silence setting.net)))
      other) ∙ settled d up member in
      stands_by (is_some (live_past steps d)) (moved steps d) (acts_in steps d) (and_parts (on_primary steps d) _ both).0

  -- C2
  pub roles_begin : is_member (plan_now setting steps) (plan_now setting steps).root ≡ true → HasRoles setting steps
  roles_begin member =
      let plan = plan_now setting steps in
      record {
        root =
            gives (root_lives setting steps) (acts_in steps plan.root)
            (λ lives. sym
            (ap (λ r. if r then acts_in steps plan.root else (on_primary steps plan.root
            && nat_le (latest_reference (seen_of steps)) (heard_at steps plan.root + silence setting.net))) (eq-eqb plan.root plan.root refl))
            ∙ settled plan.root (and_parts (is_up (seen_of steps) plan.root) (not (root_failed setting steps)) lives).0 member);
        failed_root =
            ap (λ (xs : List Thing). not (list_any (λ y. same_thing (thing.Device plan.root) y) xs) || not (is_old steps plan.root)) (none_failed steps closed);
        ordinary = λ d.
            from_absurd (is_old steps d && is_ordinary plan d) (acts_in steps d)
            (λ both acts.
            let parts = ordinary_parts (is_member plan d) (is_root plan d) (is_backup_root plan d) (and_parts (is_old steps d) (is_ordinary plan d) both).1 in
            not_both (acts_in steps d) acts (put d (acting_is_up steps d acts) parts.0 parts.1).1);
      }

  -- C3
  pub backups_begin : (d : ℕ) → backup_is_caused setting steps d ≡ true
  backups_begin d =
      let plan = plan_now setting steps in
      false_gives (is_old steps d && is_ordinary plan d && moved steps d) _
      (λ all.
      let both = and_parts (is_old steps d && is_ordinary plan d) (moved steps d) all in
      let parts = ordinary_parts (is_member plan d) (is_root plan d) (is_backup_root plan d) (and_parts (is_old steps d) (is_ordinary plan d) both.0).1 in
      not_both (moved steps d) both.1 (put d (moved_is_up steps d both.1) parts.0 parts.1).0)

  module _ (member : is_member (plan_now setting steps) (plan_now setting steps).backup_root ≡ true)
      (apart : is_root (plan_now setting steps) (plan_now setting steps).backup_root ≡ false) where
    -- C4
    pub move_begins : move_is_caused setting steps ≡ true
    move_begins =
        let b = (plan_now setting steps).backup_root in
        false_gives (is_old steps b && moved steps b) (path_hit setting steps b)
        (λ both.
        let has_moved = (and_parts (is_old steps b) (moved steps b) both).1 in
        not_both (moved steps b) has_moved (put b (moved_is_up steps b has_moved) member apart).0)

    pub takeover_begins : takeover_is_caused setting steps ≡ true
    takeover_begins =
        let b = (plan_now setting steps).backup_root in
        false_gives (backup_root_acts setting steps) (root_failed setting steps)
        (λ acts. not_both (backup_root_acts setting steps) acts (put b (acting_is_up steps b acts) member apart).1)

  -- C5
  pub path_begins : ((d : ℕ) → outsider_is_past setting steps d ≡ true) → (x : ℕ) → path_stays setting steps x ≡ true
  path_begins outsiders x =
      let plan = plan_now setting steps in
      from_absurd (backup_root_stays setting steps && has (above_backup_root setting steps) x && not (is_root plan x) && is_old steps x) (moved steps x)
      (λ all has_moved.
      let one = and_parts (backup_root_stays setting steps && has (above_backup_root setting steps) x && not (is_root plan x)) (is_old steps x) all in
      let two = and_parts (backup_root_stays setting steps && has (above_backup_root setting steps) x) (not (is_root plan x)) one.0 in
      not_both (moved steps x) has_moved
      (put x (old_is_up steps x one.1) (old_is_member setting steps x (outsiders x) one.1) (not-true (is_root plan x) two.1)).0)
