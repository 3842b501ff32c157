-- How devices stand before an event of a settled run that is later than its reference: from the invariant of the state before it, in which no member may
-- start any more and no commit came.
use Rattle.std.specs.Prelude.{◌≡◌, ℕ, ◌+◌, ◌-◌, ◌<◌, ◌≤◌, Bool, true, false, ◌&&◌, ◌||◌, not, List, ◌∷◌, map, Option, Some, None, is_some, refl, if◌then◌else◌}
use Rattle.std.proofs.Common.{arith, ap, sym, ◌∙◌, subst}
use Rattle.std.proofs.lemmas.Bool.{and_parts, and_from, not-true, eqb-true, false_from_ne_true}
use Rattle.sd_num.specs.Lists.{has}
use Rattle.sd_plan.specs.declared.topo.Thing.TheVariants as thing
use Rattle.sd_plan.specs.declared.Hop.{Hop}
use Rattle.sd_plan.specs.declared.Plan.{Plan}
use Rattle.sd_plan.specs.Duties.{duty_of}
use Rattle.sd_plan.specs.Plans.{is_member, is_present, is_root, is_backup_root, has_backup}
use Rattle.sd_plan.specs.Walks.{walk, path, epath}
use Rattle.sd_checker.specs.check_root.Roots.{fallback_devices, fallback_links}
use Rattle.sd_device.specs.Calls.{Past}
use Rattle.sd_device.specs.Words.{duty_now}
use Rattle.sd_sched.specs.declared.Event.{Event}
use Rattle.sd_sched.specs.Events.{reference_of}
use Rattle.sd_history.specs.World.{Setting, is_up, link_has_failed, window, has_commit, joined_in_window, plan_numbered}
use Rattle.sd_history.specs.Steps.{Step, seen_of, acts_in}
use Rattle.sd_history.specs.Chronicle.{past_in, chronicle}
use Rattle.sd_safety.specs.invariant.Bounds.{tick_gap, first_up, wait_up}
use Rattle.sd_safety.specs.invariant.Eras.{era, plan_now, all_started, is_among, touches, failed_now, device_failed_now, link_failed_now, heard_at, is_old, is_new, is_blank, live_past, moved, on_primary, is_ordinary, hit, hit_otherwise, path_hit, root_failed, root_lives}
use Rattle.sd_safety.specs.invariant.Clauses.{backup_root_acts, backup_root_stays, above_backup_root, backup_root_moved}
use Rattle.sd_safety.specs.invariant.Invariant.{Core, Invariant}
use Rattle.sd_safety.proofs.invariant.Facts.{IsSound}
use Rattle.sd_safety.proofs.invariant.Sides.{implied, not_both}
use Rattle.sd_safety.specs.messages.Moments.{Moment, when, IsIn}
use Rattle.sd_safety.proofs.waits.Standing.{now, sound, Early, is_up_then}
use Rattle.sd_safety.proofs.waits.Waits.{Stands, old_stands}
use Rattle.sd_safety.proofs.moves.Ends.{backup_root_ends, ordinary_ends}
use Rattle.sd_safety.proofs.silences.NoMaking.{not_made}
use Rattle.sd_safety.proofs.silences.SoundWays.{top_of}
use Rattle.sd_safety.proofs.moves.Tickings.{first_only}
use Rattle.sd_safety.proofs.waits.LookingBack.{all_three}
use Rattle.sd_bound.specs.timeouts.Settled.{IsUnderWay, IsSettled, IsSoundMember, IsOrdinary, Place, above, Scene}
use Rattle.sd_bound.proofs.timeouts.Unstaged.{uncommitted, unjoined, none_among}
use Rattle.sd_bound.proofs.timeouts.Settled.{StageAt, stage_at}

joined_by : (joined more : Bool) → (joined && more) ≡ true → joined ≡ true
joined_by true more is = refl
joined_by false more is = cc

pub by_silence : (r h b : ℕ) → r - h ≤ b → r ≤ h + b
by_silence r h b le = omega (arith, le)

-- outside a window, a member that is up did not fail in the era
pub up_unfailed : (setting : Setting) (history : List Event) → Core setting (chronicle setting history)
    → window (seen_of (chronicle setting history)) ≡ None → (y : ℕ) → is_up (seen_of (chronicle setting history)) y ≡ true
    → is_member (plan_now setting (chronicle setting history)) y ≡ true → device_failed_now (chronicle setting history) y ≡ false
up_unfailed setting history core shut y up member =
    let steps : List Step = chronicle setting history in
    false_from_ne_true (device_failed_now steps y)
    (λ failed.
    not_both (joined_in_window (seen_of steps) y)
    (joined_by (joined_in_window (seen_of steps) y) (is_blank steps y || is_new steps y)
    (implied (is_member (plan_now setting steps) y && device_failed_now steps y && is_up (seen_of steps) y) _ (core.census.returned y)
    (and_from (is_member (plan_now setting steps) y && device_failed_now steps y) (is_up (seen_of steps) y)
    (and_from (is_member (plan_now setting steps) y) (device_failed_now steps y) member failed) up)))
    (unjoined (seen_of steps) y shut))

module _ (setting : Setting) (epoch : ℕ) (x : Event) (h : List Event) (e : Event) (calm : ℕ) (way : IsUnderWay setting epoch (x ∷ h) e calm) (late : calm < reference_of e) where
  abbrev steps : List Step
  steps = chronicle setting (x ∷ h)

  abbrev top : Moment
  top = top_of setting (x ∷ h) e

  abbrev plan : Plan
  plan = plan_numbered setting epoch

  first : era (chronicle setting (x ∷ h)) ≡ epoch
  first = way.now

  none_committed : has_commit (seen_of (chronicle setting (x ∷ h))) ≡ false
  none_committed = uncommitted (seen_of steps) way.shut

  pub not_early : Early setting x h e way.comes → ⊥
  not_early both =
      let by = both.1 in
      let started : all_started setting (chronicle setting (x ∷ h)) ≤ calm = way.started (sym first ∙ eqb-true (era (chronicle setting (x ∷ h))) 1 both.0) in
      absurd (omega (arith, by, started, late))

  inv : Invariant setting (chronicle setting (x ∷ h))
  inv = now setting x h e way.comes

  to_now : (P : Plan → Type 0) → P (plan_numbered setting epoch) → P (plan_now setting (chronicle setting (x ∷ h)))
  to_now P is = subst (λ n. P (plan_numbered setting n)) (sym first) is

  to_first : (P : Plan → Type 0) → P (plan_now setting (chronicle setting (x ∷ h))) → P (plan_numbered setting epoch)
  to_first P is = subst (λ n. P (plan_numbered setting n)) first is

  -- who did not fail is up and old
  module _ (y : ℕ) (well : IsSoundMember setting epoch (failed_now (chronicle setting (x ∷ h))) y) where
    member_now : is_member (plan_now setting (chronicle setting (x ∷ h))) y ≡ true
    member_now = to_now (λ p. is_member p y ≡ true) well.member

    up_now : is_up (seen_of (chronicle setting (x ∷ h))) y ≡ true
    up_now = is_up_then setting x h e way.comes y well.known member_now well.self not_early

    not_new : is_new (chronicle setting (x ∷ h)) y ≡ false
    not_new = not-true (is_new steps y)
        (implied (not (has_commit (seen_of steps))) (not (is_new steps y)) (inv.core.uncommitted.devices y) (ap not none_committed))

    pub old_now : is_old (chronicle setting (x ∷ h)) y ≡ true
    old_now =
        first_only (is_old steps y) (is_new steps y)
        (implied (is_member (plan_now setting steps) y && not (device_failed_now steps y) && is_up (seen_of steps) y) (is_old steps y || is_new steps y)
        (inv.core.census.members_follow y)
        (and_from (is_member (plan_now setting steps) y && not (device_failed_now steps y)) (is_up (seen_of steps) y)
        (and_from (is_member (plan_now setting steps) y) (not (device_failed_now steps y)) member_now (ap not well.self)) up_now)) not_new

    pub place_now : Place setting epoch (top_of setting (x ∷ h) e) y
    place_now =
        let s : Stands setting steps y = old_stands setting (x ∷ h) y old_now in
        record {
          past = s.past;
          up = s.live;
          there = s.there;
          duty = subst (λ n. duty_now s.past ≡ Some (duty_of setting.net (plan_numbered setting n) n y)) first s.duty;
          moved_is = s.moved_is;
          acts_is = s.acts_is;
        }

    pub primary_now : moved (chronicle setting (x ∷ h)) y ≡ false → acts_in (chronicle setting (x ∷ h)) y ≡ false
        → on_primary (chronicle setting (x ∷ h)) y ≡ true
    primary_now unmoved still =
        let s : Stands setting steps y = old_stands setting (x ∷ h) y old_now in
        all_three (is_some (live_past steps y)) (moved steps y) (acts_in steps y)
        (ap (λ b. is_some (if b then past_in steps y else None)) s.live ∙ ap (λ (o : Option Past). is_some o) s.there) unmoved still

    -- neither root nor backup root
    module _ (ordinary : IsOrdinary setting epoch y) where
      ordinary_now : is_ordinary (plan_now setting (chronicle setting (x ∷ h))) y ≡ true
      ordinary_now =
          to_now (λ p. is_ordinary p y ≡ true)
          (and_from (is_member plan y && not (is_root plan y)) (not (is_backup_root plan y))
          (and_from (is_member plan y) (not (is_root plan y)) well.member (ap not ordinary.0)) (ap not ordinary.1))

      pub idle_now : acts_in (chronicle setting (x ∷ h)) y ≡ false
      idle_now =
          not-true (acts_in steps y)
          (implied (is_old steps y && is_ordinary (plan_now setting steps) y) (not (acts_in steps y)) (inv.core.roles.ordinary y)
          (and_from (is_old steps y) (is_ordinary (plan_now setting steps) y) old_now ordinary_now))

      hit_now : moved (chronicle setting (x ∷ h)) y ≡ true
          → touches (failed_now (chronicle setting (x ∷ h))) (epath setting.net (plan_numbered setting epoch) y) ≡ true
      hit_now put =
          to_first (λ p. touches (failed_now (chronicle setting (x ∷ h))) (epath setting.net p y) ≡ true)
          (and_parts (hit setting steps y) (hit_otherwise setting steps y || backup_root_acts setting steps)
          (implied (is_old steps y && is_ordinary (plan_now setting steps) y && moved steps y) _ (inv.core.causes.backups y)
          (and_from (is_old steps y && is_ordinary (plan_now setting steps) y) (moved steps y)
          (and_from (is_old steps y) (is_ordinary (plan_now setting steps) y) old_now ordinary_now) put))).0

      timeout_now : has_backup (plan_numbered setting epoch) y ≡ true → moved (chronicle setting (x ∷ h)) y ≡ false
          → reference_of e ≤ heard_at (chronicle setting (x ∷ h)) y + (wait_up setting.net (plan_numbered setting epoch) + tick_gap setting.net)
      timeout_now backed unmoved =
          to_first (λ p. reference_of e ≤ heard_at (chronicle setting (x ∷ h)) y + (wait_up setting.net p + tick_gap setting.net))
          (by_silence (reference_of e) (heard_at steps y) (wait_up setting.net (plan_now setting steps) + tick_gap setting.net)
          (ordinary_ends setting (x ∷ h) e way.comes y old_now ordinary_now (to_now (λ p. has_backup p y ≡ true) backed) (primary_now unmoved idle_now)))

  -- the root acts where it did not fail
  root_now : is_among (failed_now (chronicle setting (x ∷ h))) (thing.Device (plan_numbered setting epoch).root) ≡ false
      → acts_in (chronicle setting (x ∷ h)) (plan_numbered setting epoch).root ≡ true
  root_now kept =
      let s : IsSound setting.net (plan_now setting steps) = sound setting x h e way.comes in
      let kept_ : root_failed setting steps ≡ false = to_now (λ p. is_among (failed_now (chronicle setting (x ∷ h))) (thing.Device p.root) ≡ false) kept in
      let up : is_up (seen_of steps) (plan_now setting steps).root ≡ true =
      is_up_then setting x h e way.comes (plan_now setting steps).root s.fits.root s.rules.root kept_ not_early in
      to_first (λ p. acts_in (chronicle setting (x ∷ h)) p.root ≡ true)
      (implied (root_lives setting steps) (acts_in steps (plan_now setting steps).root) inv.core.roles.root
      (and_from (is_up (seen_of steps) (plan_now setting steps).root) (not (root_failed setting steps)) up (ap not kept_)))

  takeover_now : acts_in (chronicle setting (x ∷ h)) (plan_numbered setting epoch).backup_root ≡ true
      → is_among (failed_now (chronicle setting (x ∷ h))) (thing.Device (plan_numbered setting epoch).root) ≡ true
  takeover_now acts =
      to_first (λ p. is_among (failed_now (chronicle setting (x ∷ h))) (thing.Device p.root) ≡ true)
      (implied (backup_root_acts setting steps) (root_failed setting steps) inv.core.causes.takeover
      (to_now (λ p. acts_in (chronicle setting (x ∷ h)) p.backup_root ≡ true) acts))

  -- who is up did not fail
  well_now : (y : ℕ) → is_up (seen_of (chronicle setting (x ∷ h))) y ≡ true → is_member (plan_numbered setting epoch) y ≡ true
      → is_among (failed_now (chronicle setting (x ∷ h))) (thing.Device y) ≡ false
  well_now y up member = up_unfailed setting (x ∷ h) inv.core way.shut y up (to_now (λ p. is_member p y ≡ true) member)

  link_now : (l : ℕ) → is_present (plan_numbered setting epoch) l ≡ true → is_among (failed_now (chronicle setting (x ∷ h))) (thing.Link l) ≡ false
      → link_has_failed (seen_of (chronicle setting (x ∷ h))) l ≡ false
  link_now l present kept =
      not-true (link_has_failed (seen_of steps) l)
      (implied (is_present (plan_now setting steps) l && not (link_failed_now steps l)) (not (link_has_failed (seen_of steps) l)) (inv.core.census.links l)
      (and_from (is_present (plan_now setting steps) l) (not (link_failed_now steps l)) (to_now (λ p. is_present p l ≡ true) present) (ap not kept)))

  sound_now : (l : ℕ) → link_has_failed (seen_of (chronicle setting (x ∷ h))) l ≡ false
      → is_among (failed_now (chronicle setting (x ∷ h))) (thing.Link l) ≡ false
  sound_now l whole = none_among setting (x ∷ h) way.comes.clean.is.0 way.shut (thing.Link l) whole

  -- the backup root
  module _ (well : IsSoundMember setting epoch (failed_now (chronicle setting (x ∷ h))) (plan_numbered setting epoch).backup_root) where
    old_b : is_old (chronicle setting (x ∷ h)) (plan_now setting (chronicle setting (x ∷ h))).backup_root ≡ true
    old_b = to_now (λ p. is_old (chronicle setting (x ∷ h)) p.backup_root ≡ true) (old_now (plan_numbered setting epoch).backup_root well)

    stays_now : moved (chronicle setting (x ∷ h)) (plan_numbered setting epoch).backup_root ≡ false
        → acts_in (chronicle setting (x ∷ h)) (plan_numbered setting epoch).backup_root ≡ false → backup_root_stays setting (chronicle setting (x ∷ h)) ≡ true
    stays_now unmoved still =
        and_from (is_old steps (plan_now setting steps).backup_root) (on_primary steps (plan_now setting steps).backup_root) old_b
        (to_now (λ p. on_primary (chronicle setting (x ∷ h)) p.backup_root ≡ true) (primary_now (plan_numbered setting epoch).backup_root well unmoved still))

    moved_b : moved (chronicle setting (x ∷ h)) (plan_numbered setting epoch).backup_root ≡ true → backup_root_moved setting (chronicle setting (x ∷ h)) ≡ true
    moved_b put =
        and_from (is_old steps (plan_now setting steps).backup_root) (moved steps (plan_now setting steps).backup_root) old_b
        (to_now (λ p. moved (chronicle setting (x ∷ h)) p.backup_root ≡ true) put)

    move_now : moved (chronicle setting (x ∷ h)) (plan_numbered setting epoch).backup_root ≡ true
        → touches (failed_now (chronicle setting (x ∷ h))) (path setting.net (plan_numbered setting epoch) (plan_numbered setting epoch).backup_root) ≡ true
    move_now put =
        to_first (λ p. touches (failed_now (chronicle setting (x ∷ h))) (path setting.net p p.backup_root) ≡ true)
        (implied (backup_root_moved setting steps) (path_hit setting steps (plan_now setting steps).backup_root) inv.core.causes.move (moved_b put))

    path_now : moved (chronicle setting (x ∷ h)) (plan_numbered setting epoch).backup_root ≡ false
        → acts_in (chronicle setting (x ∷ h)) (plan_numbered setting epoch).backup_root ≡ false
        → (z : ℕ) → has (above setting epoch) z ≡ true → is_root (plan_numbered setting epoch) z ≡ false → IsSoundMember setting epoch (failed_now (chronicle setting (x ∷ h))) z
        → moved (chronicle setting (x ∷ h)) z ≡ false
    path_now unmoved still z on other well_z =
        let plan_ : Plan = plan_now setting steps in
        not-true (moved steps z)
        (implied (backup_root_stays setting steps && has (above_backup_root setting steps) z && not (is_root plan_ z) && is_old steps z) (not (moved steps z))
        (inv.core.causes.path z)
        (and_from (backup_root_stays setting steps && has (above_backup_root setting steps) z && not (is_root plan_ z)) (is_old steps z)
        (and_from (backup_root_stays setting steps && has (above_backup_root setting steps) z) (not (is_root plan_ z))
        (and_from (backup_root_stays setting steps) (has (above_backup_root setting steps) z) (stays_now unmoved still)
        (to_now (λ p. has (map (λ (hop : Hop). hop.parent) (walk setting.net p p.backup_root)) z ≡ true) on))
        (to_now (λ p. not (is_root p z) ≡ true) (ap not other)))
        (old_now z well_z)))

    fallback_now : moved (chronicle setting (x ∷ h)) (plan_numbered setting epoch).backup_root ≡ true
        → ((z : ℕ) → has (fallback_devices setting.net (plan_numbered setting epoch)) z ≡ true
        → is_among (failed_now (chronicle setting (x ∷ h))) (thing.Device z) ≡ false)
        × ((l : ℕ) → has (fallback_links setting.net (plan_numbered setting epoch)) l ≡ true
        → is_among (failed_now (chronicle setting (x ∷ h))) (thing.Link l) ≡ false)
    fallback_now put = (
      λ z on.
          not-true (device_failed_now steps z)
          (implied (backup_root_moved setting steps && has (fallback_devices setting.net (plan_now setting steps)) z) (not (device_failed_now steps z))
          (inv.fallback.devices z)
          (and_from (backup_root_moved setting steps) (has (fallback_devices setting.net (plan_now setting steps)) z) (moved_b put)
          (to_now (λ p. has (fallback_devices setting.net p) z ≡ true) on))),
      λ l on.
          not-true (link_failed_now steps l)
          (implied (backup_root_moved setting steps && has (fallback_links setting.net (plan_now setting steps)) l) (not (link_failed_now steps l))
          (inv.fallback.links l)
          (and_from (backup_root_moved setting steps) (has (fallback_links setting.net (plan_now setting steps)) l) (moved_b put)
          (to_now (λ p. has (fallback_links setting.net p) l ≡ true) on))),
    )

    fallback_stays_now : moved (chronicle setting (x ∷ h)) (plan_numbered setting epoch).backup_root ≡ true
        → acts_in (chronicle setting (x ∷ h)) (plan_numbered setting epoch).backup_root ≡ false
        → (z : ℕ) → has (fallback_devices setting.net (plan_numbered setting epoch)) z ≡ true → IsSoundMember setting epoch (failed_now (chronicle setting (x ∷ h))) z
        → moved (chronicle setting (x ∷ h)) z ≡ false
    fallback_stays_now put still z on well_z =
        not-true (moved steps z)
        (implied (backup_root_moved setting steps && not (backup_root_acts setting steps) && has (fallback_devices setting.net (plan_now setting steps)) z
        && is_old steps z) (not (moved steps z)) (inv.fallback.stay z)
        (and_from (backup_root_moved setting steps && not (backup_root_acts setting steps) && has (fallback_devices setting.net (plan_now setting steps)) z)
        (is_old steps z)
        (and_from (backup_root_moved setting steps && not (backup_root_acts setting steps)) (has (fallback_devices setting.net (plan_now setting steps)) z)
        (and_from (backup_root_moved setting steps) (not (backup_root_acts setting steps)) (moved_b put)
        (to_now (λ p. not (acts_in (chronicle setting (x ∷ h)) p.backup_root) ≡ true) (ap not still)))
        (to_now (λ p. has (fallback_devices setting.net p) z ≡ true) on))
        (old_now z well_z)))

    timeout_b : moved (chronicle setting (x ∷ h)) (plan_numbered setting epoch).backup_root ≡ false
        → acts_in (chronicle setting (x ∷ h)) (plan_numbered setting epoch).backup_root ≡ false
        → reference_of e ≤ heard_at (chronicle setting (x ∷ h))
        (plan_numbered setting epoch).backup_root + (first_up setting.net (plan_numbered setting epoch) + tick_gap setting.net)
    timeout_b unmoved still =
        to_first (λ p. reference_of e ≤ heard_at (chronicle setting (x ∷ h)) p.backup_root + (first_up setting.net p + tick_gap setting.net))
        (by_silence (reference_of e) (heard_at steps (plan_now setting steps).backup_root)
        (first_up setting.net (plan_now setting steps) + tick_gap setting.net)
        (backup_root_ends setting (x ∷ h) e way.comes (stays_now unmoved still)))

  pub scene : Scene setting epoch (failed_now (chronicle setting (x ∷ h))) (top_of setting (x ∷ h) e)
  scene =
      record {
        place = place_now;
        unmade = λ y well. not_made setting steps e y way.comes.clean.is.1 (up_now y well) (member_now y well);
        well = well_now;
        link = link_now;
        sound = sound_now;
        root = root_now;
        takeover = takeover_now;
        ordinary = λ y well ordinary. idle_now y well ordinary;
        hit = λ y well ordinary put. hit_now y well ordinary put;
        move = move_now;
        path = path_now;
        fallback = fallback_now;
        stays = fallback_stays_now;
        timeout = λ y well ordinary backed unmoved. timeout_now y well ordinary backed unmoved;
        timeout_first = timeout_b;
      }

-- at each event that is later than the reference
pub scene_at : (setting : Setting) (epoch : ℕ) (history : List Event) (e : Event) (calm : ℕ) → IsSettled setting epoch history e calm → (q : Moment)
    → IsIn q (chronicle setting (e ∷ history)) → calm < when q → Scene setting epoch (failed_now (chronicle setting history)) q
scene_at setting epoch history e calm settled q here late =
    let st : StageAt setting epoch calm (chronicle setting history) q = stage_at setting epoch history e calm settled q here late in
    subst (λ p. Scene setting epoch (failed_now (chronicle setting history)) p) (sym st.is)
    (subst (λ failed. Scene setting epoch failed (top_of setting (st.x ∷ st.h) st.e)) st.failed (scene setting epoch st.x st.h st.e calm st.settled.way st.late))
