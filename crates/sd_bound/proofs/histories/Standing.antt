-- How devices stand in a part of a run that recovers, from the invariant: each clause in the words of the one plan and of the one domain.
use Rattle.std.specs.Prelude.{◌≡◌, ℕ, zero, suc, ◌<◌, Bool, true, false, ◌&&◌, ◌||◌, not, List, [], ◌∷◌, length, map, nat_lt, Some, None, is_some, option_map, refl, if◌then◌else◌}
use Rattle.std.specs.List.{list_all}
use Rattle.std.proofs.Common.{arith, sym, ◌∙◌, ap, subst}
use Rattle.std.proofs.lemmas.Bool.{and_parts, and_from, eqb-true, lt-ltb, not-true, not_from_false, not_from_true, false_from_ne_true, true_from_ne_false, both_ways}
use Rattle.sd_num.specs.Lists.{has, map_or, same_number}
use Rattle.sd_plan.specs.topo.Network.{Network, Each}
use Rattle.sd_plan.specs.declared.topo.Thing.{Thing}
use Rattle.sd_plan.specs.declared.topo.Thing.TheVariants as thing
use Rattle.sd_plan.specs.domain.Domains.{holds}
use Rattle.sd_plan.specs.declared.domain.DomainId.{DomainId}
use Rattle.sd_plan.specs.declared.Plan.{Plan}
use Rattle.sd_plan.specs.declared.Hop.{Hop}
use Rattle.sd_plan.specs.Plans.{is_member, is_root, is_backup_root}
use Rattle.sd_plan.specs.Walks.{walk, path, epath, is_hit}
use Rattle.sd_plan.specs.Duties.{duty_of}
use Rattle.sd_checker.specs.check_root.Roots.{fallback_devices}
use Rattle.sd_device.specs.Calls.{Past}
use Rattle.sd_device.specs.Words.{duty_now, has_moved, is_acting}
use Rattle.sd_sched.specs.declared.Event.{Event}
use Rattle.sd_sched.specs.Events.{joined, is_stage, is_commit}
use Rattle.sd_history.specs.World.{is_up, was_made, has_ever_failed, is_untouched, has_commit, joined_in_window, alone}
use Rattle.sd_history.specs.Steps.{Step, seen_of, acts_in}
use Rattle.sd_history.specs.Chronicle.{answers_by, past_in}
use Rattle.sd_history.proofs.Given.{some_is}
use Rattle.sd_drill.specs.declared.Budget.{Budget}
use Rattle.sd_safety.specs.invariant.Eras.{plan_now, era, failed_now, device_failed_now, is_old, is_new, is_blank, live_past, moved, on_primary, belongs, is_ordinary, is_among, hit, touches, path_hit, root_failed}
use Rattle.sd_safety.specs.invariant.Clauses.{is_beginning, above_backup_root, backup_root_stays, backup_root_moved, backup_root_acts}
use Rattle.sd_safety.specs.invariant.Invariant.{Core, Invariant}
use Rattle.sd_safety.specs.invariant.Guarded.{AreGuarded, IsSteady}
use Rattle.sd_safety.specs.invariant.Kept.{StaysInvariant}
use Rattle.sd_safety.proofs.entering.SoundWays.{nothing_touches}
use Rattle.sd_safety.proofs.invariant.Domains.{touched_is_hit}
use Rattle.sd_safety.proofs.invariant.Empty.{core_empty}
use Rattle.sd_safety.proofs.invariant.Parents.{live_is, IsOld, old_is}
use Rattle.sd_safety.proofs.invariant.Sides.{implied}
use Rattle.sd_safety.specs.messages.Moments.{Tail}
use Rattle.sd_safety.proofs.messages.Tails.{tail_all}
use Rattle.sd_safety.proofs.messages.Prefixes.{all_but_start_before}
use Rattle.sd_safety.proofs.moves.Tickings.{first_only}
use Rattle.sd_bound.specs.Bound.{failures}
use Rattle.sd_bound.specs.Recovering.{steps_under}
use Rattle.sd_bound.specs.Steady.{RecoversSteadily}
use Rattle.sd_bound.proofs.Composing.{tail_steps, tail_history}
use Rattle.sd_bound.proofs.histories.Plain.{IsPlain, tail_plain, none_any, not_in_window, none_closed, first_epoch, plan_is}
use Rattle.sd_bound.proofs.histories.Failures.{fails_within, all_within, era_within, never_failed, none_failed_now}

-- a device that is up, by its past
pub record IsLive (net : Network) (plan : Plan) (history : List Event) (d : ℕ) (past : Past) : Type 0 where
  pub duty : duty_now past ≡ Some (duty_of net plan 1 d)
  pub moved_is : moved (steps_under net plan history) d ≡ has_moved past
  pub acts_is : acts_in (steps_under net plan history) d ≡ is_acting past

-- how devices stand after a history
pub record Stands (net : Network) (plan : Plan) (f : DomainId) (history : List Event) : Type 0 where
  -- a member that is up follows the plan, and never failed
  pub live : (d : ℕ) (past : Past) → is_member plan d ≡ true → is_up (seen_of (steps_under net plan history)) d ≡ true
      → past_in (steps_under net plan history) d ≡ Some past → IsLive net plan history d past
  pub sound : (d : ℕ) → is_member plan d ≡ true → is_up (seen_of (steps_under net plan history)) d ≡ true
      → has_ever_failed (seen_of (steps_under net plan history)) d ≡ false
  -- the root acts, and of others the backup root alone may
  pub root : is_member plan plan.root ≡ true → is_up (seen_of (steps_under net plan history)) plan.root ≡ true
      → acts_in (steps_under net plan history) plan.root ≡ true
  pub ordinary : (d : ℕ) → is_ordinary plan d ≡ true → is_up (seen_of (steps_under net plan history)) d ≡ true
      → acts_in (steps_under net plan history) d ≡ false
  -- who is on its backup is hit by the domain
  pub hit : (d : ℕ) → is_ordinary plan d ≡ true → is_up (seen_of (steps_under net plan history)) d ≡ true → moved (steps_under net plan history) d ≡ true
      → is_hit net plan f d ≡ true
  -- while nothing has failed, nobody but the root acts, and nobody has moved
  pub idle : failures (seen_of (steps_under net plan history)) ≡ [] → acts_in (steps_under net plan history) plan.backup_root ≡ false
  pub unmoved : failures (seen_of (steps_under net plan history)) ≡ [] → (d : ℕ) → is_member plan d ≡ true
      → is_up (seen_of (steps_under net plan history)) d ≡ true → is_root plan d ≡ false → moved (steps_under net plan history) d ≡ false
  -- while the backup root is on its primary, so is who is up above it
  pub path : (past : Past) → is_member plan plan.backup_root ≡ true → is_up (seen_of (steps_under net plan history)) plan.backup_root ≡ true
      → past_in (steps_under net plan history) plan.backup_root ≡ Some past
      → has_moved past ≡ false → is_acting past ≡ false → (x : ℕ) → is_member plan x ≡ true
      → has (map (λ (hop : Hop). hop.parent) (walk net plan plan.backup_root)) x ≡ true → is_root plan x ≡ false
      → is_up (seen_of (steps_under net plan history)) x ≡ true → moved (steps_under net plan history) x ≡ false
  -- and nobody moves before it was started
  pub beginning : is_member plan plan.backup_root ≡ true → plan.backup_root < length net.devices
      → was_made (seen_of (steps_under net plan history)) plan.backup_root ≡ false
      → has_ever_failed (seen_of (steps_under net plan history)) plan.backup_root ≡ false
      → (x : ℕ) → moved (steps_under net plan history) x ≡ false
  -- while it is on its backup, the devices of its fallback are up and on their primaries
  pub fallback : is_member plan plan.backup_root ≡ true → is_up (seen_of (steps_under net plan history)) plan.backup_root ≡ true
      → moved (steps_under net plan history) plan.backup_root ≡ true
      → acts_in (steps_under net plan history) plan.backup_root ≡ false → (x : ℕ) → is_member plan x ≡ true → x < length net.devices
      → has (fallback_devices net plan) x ≡ true
      → (is_up (seen_of (steps_under net plan history)) x ≡ true) × (moved (steps_under net plan history) x ≡ false)

pub each_one : {A : Type 0} (P : A → Type 0) (x : A) → P x → Each P (x ∷ [])
each_one P x holds_ zero y is = subst P (some_is is) holds_
each_one P x holds_ (suc i) y is = cc

module _ (net : Network) (plan : Plan) (budget : Budget) (f : DomainId) (stays : StaysInvariant (alone net plan)) (whole_ : List Event)
    (run : RecoversSteadily net plan budget f whole_) where
  pub fair : AreGuarded (alone net plan)
  fair = record { network = run.network; some_plan = omega arith; fit = each_one _ plan run.fits; guarded = each_one _ plan run.guarded }

  pub clean : (history : List Event) → Tail history whole_ → IsSteady (alone net plan) history
  clean history t =
      record {
        is = tail_history (alone net plan) t run.is;
        premises = all_but_start_before (alone net plan) (steps_under net plan history) (steps_under net plan whole_) (tail_steps (alone net plan) t) run.premises;
      }

  pub plain : (history : List Event) → Tail history whole_ → IsPlain (alone net plan) history
  plain history t =
      tail_plain (alone net plan) t (record { is = run.is; unstaged = none_any (λ s. is_stage s.event) (seen_of (steps_under net plan whole_)) run.unstaged })

  pub core : (history : List Event) → Tail history whole_ → Core (alone net plan) (steps_under net plan history)
  core [] t = core_empty (alone net plan)
  core (e ∷ history) t = (stays (e ∷ history) fair (clean (e ∷ history) t)).1.core

  failures_held : (history : List Event) → Tail history whole_ → list_all (holds net f) (failed_now (steps_under net plan history)) ≡ true
  failures_held history t =
      era_within net f (seen_of (steps_under net plan history))
      (tail_all (fails_within net f) (tail_steps (alone net plan) t) (all_within net f (seen_of (steps_under net plan whole_)) run.failed))

  module _ (history : List Event) (t : Tail history whole_) where
    abbrev steps : List Step
    steps = steps_under net plan history

    now : plan_now (alone net plan) steps ≡ plan
    now = plan_is net plan history (plain history t)

    -- what is said of the plan is said of the plan in force
    in_force : (P : Plan → Type 0) → P plan → P (plan_now (alone net plan) steps)
    in_force P holds_ = subst P (sym now) holds_

    unjoined : (d : ℕ) → joined_in_window (seen_of steps) d ≡ false
    unjoined d = not_in_window (alone net plan) history (plain history t) (λ s. same_number (joined s.event) d)

    uncommitted : has_commit (seen_of steps) ≡ false
    uncommitted = not_in_window (alone net plan) history (plain history t) (λ s. is_commit s.event)

    -- a member that is up did not fail
    unfailed : (d : ℕ) → is_member plan d ≡ true → is_up (seen_of steps) d ≡ true → device_failed_now steps d ≡ false
    unfailed d member up =
        false_from_ne_true (device_failed_now steps d) (λ failed.
        both_ways (joined_in_window (seen_of steps) d) (unjoined d)
        (and_parts (joined_in_window (seen_of steps) d) (is_blank steps d || is_new steps d)
        (implied (is_member (plan_now (alone net plan) steps) d && device_failed_now steps d && is_up (seen_of steps) d) _ ((core history t).census.returned d)
        (and_from (is_member (plan_now (alone net plan) steps) d && device_failed_now steps d) (is_up (seen_of steps) d)
        (and_from (is_member (plan_now (alone net plan) steps) d) (device_failed_now steps d) (in_force (λ p. is_member p d ≡ true) member) failed) up))).0)

    never : (d : ℕ) → is_member plan d ≡ true → is_up (seen_of steps) d ≡ true → has_ever_failed (seen_of steps) d ≡ false
    never d member up = never_failed (thing.Device d) (seen_of steps) (none_closed (alone net plan) history (plain history t)) (unfailed d member up)

    old_of : (d : ℕ) → is_member plan d ≡ true → is_up (seen_of steps) d ≡ true → is_old steps d ≡ true
    old_of d member up =
        first_only (is_old steps d) (is_new steps d)
        (implied (is_member (plan_now (alone net plan) steps) d && not (device_failed_now steps d) && is_up (seen_of steps) d) _
        ((core history t).census.members_follow d)
        (and_from (is_member (plan_now (alone net plan) steps) d && not (device_failed_now steps d)) (is_up (seen_of steps) d)
        (and_from (is_member (plan_now (alone net plan) steps) d) (not (device_failed_now steps d)) (in_force (λ p. is_member p d ≡ true) member)
        (not_from_false (device_failed_now steps d) (unfailed d member up))) up))
        (not-true (is_new steps d)
        (implied (not (has_commit (seen_of steps))) (not (is_new steps d)) ((core history t).uncommitted.devices d)
        (not_from_false (has_commit (seen_of steps)) uncommitted)))

    live_is_past : (d : ℕ) (past : Past) → is_up (seen_of steps) d ≡ true → past_in steps d ≡ Some past → live_past steps d ≡ Some past
    live_is_past d past up was = ap (λ b. if b then past_in steps d else None) up ∙ was

    live_of : (d : ℕ) (past : Past) → is_member plan d ≡ true → is_up (seen_of steps) d ≡ true → past_in steps d ≡ Some past → IsLive net plan history d past
    live_of d past member up was =
        let old : IsOld (alone net plan) steps d = old_is (alone net plan) history d (old_of d member up) in
        let lives = live_is_past d past up was in
        let same : old.past ≡ past = some_is (sym old.live ∙ lives) in
        record {
          duty =
              ap duty_now (sym same) ∙ old.duty ∙ ap (λ p. Some (duty_of net p (era steps) d)) now
              ∙ ap (λ n. Some (duty_of net plan n d)) (first_epoch (alone net plan) history (plain history t));
          moved_is = ap (λ o. map_or o false has_moved) lives;
          acts_is = ap (λ o. map_or o false (λ a. a.acts)) (live_is (alone net plan) history d ∙ ap (option_map answers_by) lives);
        }

    root_acts_ : is_member plan plan.root ≡ true → is_up (seen_of steps) plan.root ≡ true → acts_in steps plan.root ≡ true
    root_acts_ member up =
        subst (λ p. acts_in steps p.root ≡ true) now
        (implied (is_up (seen_of steps) (plan_now (alone net plan) steps).root && not (root_failed (alone net plan) steps)) _ (core history t).roles.root
        (in_force (λ p. (is_up (seen_of steps) p.root && not (device_failed_now steps p.root)) ≡ true)
        (and_from (is_up (seen_of steps) plan.root) (not (device_failed_now steps plan.root)) up
        (not_from_false (device_failed_now steps plan.root) (unfailed plan.root member up)))))

    member_of : (d : ℕ) → is_ordinary plan d ≡ true → is_member plan d ≡ true
    member_of d ordinary =
        (and_parts (is_member plan d) (not (is_root plan d)) (and_parts (is_member plan d && not (is_root plan d)) (not (is_backup_root plan d)) ordinary).0).0

    follows : (d : ℕ) → is_ordinary plan d ≡ true → is_up (seen_of steps) d ≡ true → acts_in steps d ≡ false
    follows d ordinary up =
        not-true (acts_in steps d)
        (implied (is_old steps d && is_ordinary (plan_now (alone net plan) steps) d) (not (acts_in steps d)) ((core history t).roles.ordinary d)
        (and_from (is_old steps d) (is_ordinary (plan_now (alone net plan) steps) d) (old_of d (member_of d ordinary) up)
        (in_force (λ p. is_ordinary p d ≡ true) ordinary)))

    hit_when_moved : (d : ℕ) → is_ordinary plan d ≡ true → is_up (seen_of steps) d ≡ true → moved steps d ≡ true → is_hit net plan f d ≡ true
    hit_when_moved d ordinary up moved_ =
        let caused =
        implied (is_old steps d && is_ordinary (plan_now (alone net plan) steps) d && moved steps d) _ ((core history t).causes.backups d)
        (and_from (is_old steps d && is_ordinary (plan_now (alone net plan) steps) d) (moved steps d)
        (and_from (is_old steps d) (is_ordinary (plan_now (alone net plan) steps) d) (old_of d (member_of d ordinary) up)
        (in_force (λ p. is_ordinary p d ≡ true) ordinary)) moved_) in
        let touched : touches (failed_now steps) (epath net plan d) ≡ true =
        subst (λ p. touches (failed_now steps) (epath net p d) ≡ true) now (and_parts (hit (alone net plan) steps d) _ caused).0 in
        touched_is_hit net f (failed_now steps) (epath net plan d) (failures_held history t) touched

    idle_of : failures (seen_of steps) ≡ [] → acts_in steps plan.backup_root ≡ false
    idle_of none =
        false_from_ne_true (acts_in steps plan.backup_root)
        (λ acts.
        both_ways (root_failed (alone net plan) steps)
        (subst (λ failed. is_among failed (thing.Device (plan_now (alone net plan) steps).root) ≡ false) (sym (none_failed_now (seen_of steps) none)) refl)
        (implied (backup_root_acts (alone net plan) steps) (root_failed (alone net plan) steps) (core history t).causes.takeover
        (in_force (λ p. acts_in steps p.backup_root ≡ true) acts)))

    none_touched : failures (seen_of steps) ≡ [] → (things : List Thing) → touches (failed_now steps) things ≡ false
    none_touched none things =
        subst (λ failed. touches failed things ≡ false) (sym (none_failed_now (seen_of steps) none)) (nothing_touches things)

    unmoved_of : failures (seen_of steps) ≡ [] → (d : ℕ) → is_member plan d ≡ true → is_up (seen_of steps) d ≡ true → is_root plan d ≡ false
        → moved steps d ≡ false
    unmoved_of none d member up other = by (is_backup_root plan d) refl
      where
        by : (b : Bool) → is_backup_root plan d ≡ b → moved steps d ≡ false
        by false is =
            false_from_ne_true (moved steps d)
            (λ put.
            both_ways (hit (alone net plan) steps d) (none_touched none (epath net (plan_now (alone net plan) steps) d))
            (and_parts (hit (alone net plan) steps d) _
            (implied (is_old steps d && is_ordinary (plan_now (alone net plan) steps) d && moved steps d) _ ((core history t).causes.backups d)
            (and_from (is_old steps d && is_ordinary (plan_now (alone net plan) steps) d) (moved steps d)
            (and_from (is_old steps d) (is_ordinary (plan_now (alone net plan) steps) d) (old_of d member up)
            (in_force (λ p. is_ordinary p d ≡ true)
            (and_from (is_member plan d && not (is_root plan d)) (not (is_backup_root plan d))
            (and_from (is_member plan d) (not (is_root plan d)) member (not_from_false (is_root plan d) other))
            (not_from_false (is_backup_root plan d) is)))) put))).0)
        by true is =
            let same : plan.backup_root ≡ d = eqb-true plan.backup_root d is in
            false_from_ne_true (moved steps d)
            (λ put.
            both_ways (path_hit (alone net plan) steps (plan_now (alone net plan) steps).backup_root)
            (none_touched none (path net (plan_now (alone net plan) steps) (plan_now (alone net plan) steps).backup_root))
            (implied
            (is_old steps (plan_now (alone net plan) steps).backup_root && moved steps (plan_now (alone net plan) steps).backup_root)
            (path_hit (alone net plan) steps (plan_now (alone net plan) steps).backup_root) (core history t).causes.move
            (in_force (λ p. (is_old steps p.backup_root && moved steps p.backup_root) ≡ true)
            (and_from (is_old steps plan.backup_root) (moved steps plan.backup_root)
            (subst (λ x. is_old steps x ≡ true) (sym same) (old_of d member up))
            (subst (λ x. moved steps x ≡ true) (sym same) put)))))

    primary_stays : (past : Past) → is_member plan plan.backup_root ≡ true → is_up (seen_of steps) plan.backup_root ≡ true
        → past_in steps plan.backup_root ≡ Some past → has_moved past ≡ false → is_acting past ≡ false
        → backup_root_stays (alone net plan) steps ≡ true
    primary_stays past member up was still idle =
        let b = plan.backup_root in
        let lives = live_of b past member up was in
        in_force (λ p. (is_old steps p.backup_root && on_primary steps p.backup_root) ≡ true)
        (and_from (is_old steps b) (on_primary steps b) (old_of b member up)
        (and_from (is_some (live_past steps b) && not (moved steps b)) (not (acts_in steps b))
        (and_from (is_some (live_past steps b)) (not (moved steps b)) (ap is_some (live_is_past b past up was))
        (not_from_false (moved steps b) (lives.moved_is ∙ still)))
        (not_from_false (acts_in steps b) (lives.acts_is ∙ idle))))

    path_keeps : (past : Past) → is_member plan plan.backup_root ≡ true → is_up (seen_of steps) plan.backup_root ≡ true
        → past_in steps plan.backup_root ≡ Some past → has_moved past ≡ false → is_acting past ≡ false
        → (x : ℕ) → is_member plan x ≡ true → has (map (λ (hop : Hop). hop.parent) (walk net plan plan.backup_root)) x ≡ true → is_root plan x ≡ false
        → is_up (seen_of steps) x ≡ true → moved steps x ≡ false
    path_keeps past member up was still idle x member_x above other up_x =
        not-true (moved steps x)
        (implied (backup_root_stays (alone net plan) steps && has (above_backup_root (alone net plan) steps) x
        && not (is_root (plan_now (alone net plan) steps) x) && is_old steps x) (not (moved steps x)) ((core history t).causes.path x)
        (and_from (backup_root_stays (alone net plan) steps && has (above_backup_root (alone net plan) steps) x
        && not (is_root (plan_now (alone net plan) steps) x)) (is_old steps x)
        (and_from (backup_root_stays (alone net plan) steps && has (above_backup_root (alone net plan) steps) x)
        (not (is_root (plan_now (alone net plan) steps) x))
        (and_from (backup_root_stays (alone net plan) steps) (has (above_backup_root (alone net plan) steps) x) (primary_stays past member up was still idle)
        (in_force (λ p. has (map (λ (hop : Hop). hop.parent) (walk net p p.backup_root)) x ≡ true) above))
        (in_force (λ p. not (is_root p x) ≡ true) (not_from_false (is_root plan x) other)))
        (old_of x member_x up_x)))

    begins_ : is_member plan plan.backup_root ≡ true → plan.backup_root < length net.devices → was_made (seen_of steps) plan.backup_root ≡ false
        → has_ever_failed (seen_of steps) plan.backup_root ≡ false → (x : ℕ) → moved steps x ≡ false
    begins_ member within unmade sound x =
        let b = plan.backup_root in
        let untouched : is_untouched (seen_of steps) b ≡ true =
        and_from (not (was_made (seen_of steps) b)) (not (has_ever_failed (seen_of steps) b)) (not_from_false (was_made (seen_of steps) b) unmade)
        (not_from_false (has_ever_failed (seen_of steps) b) sound) in
        let belongs_ : belongs net (plan_now (alone net plan) steps) b ≡ true =
        in_force (λ p. belongs net p b ≡ true)
        (and_from (nat_lt b (length net.devices)) (is_member plan b) (lt-ltb b (length net.devices) within) member) in
        not-true (moved steps x)
        (implied (is_beginning (alone net plan) steps) (not (moved steps x)) ((core history t).calm.still x)
        (true_from_ne_false (is_beginning (alone net plan) steps) (λ over.
        both_ways (not (is_untouched (seen_of steps) b)) (not_from_true (is_untouched (seen_of steps) b) untouched)
        (implied (not (is_beginning (alone net plan) steps) && belongs net (plan_now (alone net plan) steps) b) (not (is_untouched (seen_of steps) b))
        ((core history t).calm.touched b)
        (and_from (not (is_beginning (alone net plan) steps)) (belongs net (plan_now (alone net plan) steps) b)
        (not_from_false (is_beginning (alone net plan) steps) over) belongs_)))))

    module _ (inv : Invariant (alone net plan) steps) (member : is_member plan plan.backup_root ≡ true) (up : is_up (seen_of steps) plan.backup_root ≡ true)
        (moved_ : moved steps plan.backup_root ≡ true)
        (idle : acts_in steps plan.backup_root ≡ false) (x : ℕ) (member_x : is_member plan x ≡ true) (within : x < length net.devices)
        (falls : has (fallback_devices net plan) x ≡ true) where
      away : backup_root_moved (alone net plan) steps ≡ true
      away =
          in_force (λ p. (is_old steps p.backup_root && moved steps p.backup_root) ≡ true)
          (and_from (is_old steps plan.backup_root) (moved steps plan.backup_root) (old_of plan.backup_root member up) moved_)

      falls_now : has (fallback_devices net (plan_now (alone net plan) steps)) x ≡ true
      falls_now = in_force (λ p. has (fallback_devices net p) x ≡ true) falls

      over : is_beginning (alone net plan) steps ≡ false
      over =
          false_from_ne_true (is_beginning (alone net plan) steps) (λ begins.
          both_ways (not (moved steps plan.backup_root)) (not_from_true (moved steps plan.backup_root) moved_)
          (implied (is_beginning (alone net plan) steps) (not (moved steps plan.backup_root)) ((core history t).calm.still plan.backup_root) begins))

      spared : not (device_failed_now steps x) ≡ true
      spared =
          implied (backup_root_moved (alone net plan) steps && has (fallback_devices net (plan_now (alone net plan) steps)) x) (not (device_failed_now steps x))
          (inv.fallback.devices x)
          (and_from (backup_root_moved (alone net plan) steps) (has (fallback_devices net (plan_now (alone net plan) steps)) x) away falls_now)

      up_there : is_up (seen_of steps) x ≡ true
      up_there =
          implied (not (is_beginning (alone net plan) steps) && belongs net (plan_now (alone net plan) steps) x && not (device_failed_now steps x))
          (is_up (seen_of steps) x) ((core history t).census.members_up x)
          (and_from (not (is_beginning (alone net plan) steps) && belongs net (plan_now (alone net plan) steps) x) (not (device_failed_now steps x))
          (and_from (not (is_beginning (alone net plan) steps)) (belongs net (plan_now (alone net plan) steps) x)
          (not_from_false (is_beginning (alone net plan) steps) over)
          (in_force (λ p. belongs net p x ≡ true)
          (and_from (nat_lt x (length net.devices)) (is_member plan x) (lt-ltb x (length net.devices) within) member_x)))
          spared)

      stays_there : moved steps x ≡ false
      stays_there =
          not-true (moved steps x)
          (implied (backup_root_moved (alone net plan) steps && not (backup_root_acts (alone net plan) steps)
          && has (fallback_devices net (plan_now (alone net plan) steps)) x && is_old steps x) (not (moved steps x)) (inv.fallback.stay x)
          (and_from (backup_root_moved (alone net plan) steps && not (backup_root_acts (alone net plan) steps)
          && has (fallback_devices net (plan_now (alone net plan) steps)) x) (is_old steps x)
          (and_from (backup_root_moved (alone net plan) steps && not (backup_root_acts (alone net plan) steps))
          (has (fallback_devices net (plan_now (alone net plan) steps)) x)
          (and_from (backup_root_moved (alone net plan) steps) (not (backup_root_acts (alone net plan) steps)) away
          (in_force (λ p. not (acts_in steps p.backup_root) ≡ true) (not_from_false (acts_in steps plan.backup_root) idle))) falls_now)
          (old_of x member_x up_there)))

  -- a history after which the backup root is up has an event
  invariant : (history : List Event) (t : Tail history whole_) → (d : ℕ) → is_up (seen_of (steps_under net plan history)) d ≡ true
      → Invariant (alone net plan) (steps_under net plan history)
  invariant [] t d up = cc
  invariant (e ∷ history) t d up = (stays (e ∷ history) fair (clean (e ∷ history) t)).1

  pub stands : (history : List Event) → Tail history whole_ → Stands net plan f history
  stands history t =
      record {
        live = live_of history t;
        sound = never history t;
        root = root_acts_ history t;
        ordinary = follows history t;
        hit = hit_when_moved history t;
        idle = idle_of history t;
        unmoved = unmoved_of history t;
        path = path_keeps history t;
        beginning = begins_ history t;
        fallback = λ member up moved_ idle x member_x within falls.
            (let inv = invariant history t plan.backup_root up in
            (up_there history t inv member up moved_ idle x member_x within falls, stays_there history t inv member up moved_ idle x member_x within falls));
      }
