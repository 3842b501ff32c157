-- While nothing has failed since a closing nobody is hit: so who is a member follows the plan on its primary, and hears as 13 says.
use Rattle.std.specs.Prelude.{◌≡◌, ℕ, ◌+◌, ◌-◌, ◌<◌, ◌≤◌, Bool, true, false, ◌&&◌, ◌||◌, not, List, ◌∷◌, length, nat_eq, nat_lt, is_some, refl, ◌⊎◌, []}
use Rattle.std.proofs.Common.{arith, sym, ap, subst, inl, inr}
use Rattle.std.proofs.lemmas.Bool.{and_parts, and_from, or_left, or_cases, eqb-true, lt-ltb, not-true, not_from_false, false_from_ne_true, both_ways}
use Rattle.sd_plan.specs.declared.topo.Thing.{Thing}
use Rattle.sd_plan.specs.declared.topo.Thing.TheVariants as thing
use Rattle.sd_plan.specs.Plans.{is_member, is_root, is_backup_root}
use Rattle.sd_plan.specs.Walks.{path, epath}
use Rattle.sd_plan.specs.topo.Network.{rates_of}
use Rattle.sd_sched.specs.declared.Event.{Event}
use Rattle.sd_sched.specs.declared.Event.TheVariants as event
use Rattle.sd_history.proofs.Owned.{rates_are_own}
use Rattle.sd_history.proofs.Owning.{own_pasts}
use Rattle.sd_sched.specs.Events.{reference_of}
use Rattle.sd_history.specs.World.{Setting, is_up, has_commit}
use Rattle.sd_history.specs.Steps.{Step, seen_of, acts_in}
use Rattle.sd_history.specs.Chronicle.{chronicle}
use Rattle.sd_safety.specs.invariant.Eras.{era, plan_now, failed_now, is_among, device_failed_now, touches, is_old, is_new, live_past, moved, on_primary, belongs, is_ordinary, hit, path_hit, root_failed, root_lives, heard_at}
use Rattle.sd_safety.specs.invariant.Clauses.{is_beginning, backup_root_acts}
use Rattle.sd_safety.specs.invariant.Silences.{root_leads}
use Rattle.sd_safety.specs.invariant.Invariant.{Core}
use Rattle.sd_safety.specs.invariant.Guarded.{AreGuarded, IsSteady}
use Rattle.sd_safety.specs.invariant.Coming.{IsNextEvent}
use Rattle.sd_safety.proofs.invariant.Parents.{IsOld, old_is}
use Rattle.sd_safety.proofs.invariant.Sides.{implied}
use Rattle.sd_safety.proofs.receipts.Stood.{core_of}
use Rattle.sd_safety.proofs.entering.SoundWays.{nothing_touches}
use Rattle.sd_safety.proofs.windows.NoneBeforeCommit.{uncommitted}
use Rattle.sd_safety.proofs.invariant.Facts.{IsSound, sound_now}
use Rattle.sd_safety.proofs.whole.Kept.{comes}
use Rattle.sd_safety.proofs.whole.Silent.{are_silent}
use Rattle.sd_bound.specs.ages.Sums.{lag}
use Rattle.sd_bound.specs.Renewed.{IsRenewed, IsSettledIn, StaysSettled, ReportsAgeLittle}
use Rattle.sd_bound.proofs.Composing.{aged}
use Rattle.sd_bound.proofs.ages.Ages.{age_within}

module _ (setting : Setting) (e : Event) (history : List Event) (fair : AreGuarded setting) (clean : IsSteady setting (e ∷ history))
    (renewed : IsRenewed (chronicle setting history)) where
  abbrev steps : List Step
  steps = chronicle setting history

  next : IsNextEvent setting history e
  next = comes setting history e fair clean

  core : Core setting (chronicle setting history)
  core = core_of setting history next.before

  -- nothing that the era asks for has failed
  none_touched : (things : List Thing) → touches (failed_now (chronicle setting history)) things ≡ false
  none_touched things = subst (λ failed. touches failed things ≡ false) (sym renewed.unfailed) (nothing_touches things)

  unfailed : (x : Thing) → is_among (failed_now (chronicle setting history)) x ≡ false
  unfailed x = subst (λ failed. is_among failed x ≡ false) (sym renewed.unfailed) refl

  later_era : is_beginning setting (chronicle setting history) ≡ false
  later_era =
      false_from_ne_true (is_beginning setting (chronicle setting history))
      (λ begins.
      let first : era (chronicle setting history) ≡ 1 = eqb-true (era (chronicle setting history)) 1 (and_parts (nat_eq (era (chronicle setting history)) 1) _ begins).0 in
      one_only (era (chronicle setting history)) renewed.renewed first)
    where
      one_only : (n : ℕ) → 1 < n → n ≡ 1 → ⊥
      one_only n more same = omega (arith, more, same)

  module _ (d : ℕ) (member : belongs setting.net (plan_now setting (chronicle setting history)) d ≡ true) where
    is_in : is_member (plan_now setting (chronicle setting history)) d ≡ true
    is_in = (and_parts (nat_lt d (length setting.net.devices)) (is_member (plan_now setting (chronicle setting history)) d) member).1

    up : is_up (seen_of (chronicle setting history)) d ≡ true
    up =
        implied
        (not (is_beginning setting (chronicle setting history)) && belongs setting.net (plan_now setting (chronicle setting history)) d
        && not (device_failed_now (chronicle setting history) d))
        (is_up (seen_of (chronicle setting history)) d) (core.census.members_up d)
        (and_from (not (is_beginning setting (chronicle setting history)) && belongs setting.net (plan_now setting (chronicle setting history)) d) _
        (and_from (not (is_beginning setting (chronicle setting history))) _ (not_from_false _ later_era) member)
        (not_from_false (device_failed_now (chronicle setting history) d) (unfailed (thing.Device d))))

    old : is_old (chronicle setting history) d ≡ true
    old =
        by
        (or_cases (is_old (chronicle setting history) d) (is_new (chronicle setting history) d)
        (implied
        (is_member (plan_now setting (chronicle setting history)) d && not (device_failed_now (chronicle setting history) d)
        && is_up (seen_of (chronicle setting history)) d)
        (is_old (chronicle setting history) d || is_new (chronicle setting history) d) (core.census.members_follow d)
        (and_from (is_member (plan_now setting (chronicle setting history)) d && not (device_failed_now (chronicle setting history) d)) _
        (and_from (is_member (plan_now setting (chronicle setting history)) d) _ is_in
        (not_from_false (device_failed_now (chronicle setting history) d) (unfailed (thing.Device d)))) up)))
      where
        by : (is_old (chronicle setting history) d ≡ true) ⊎ (is_new (chronicle setting history) d ≡ true) → is_old (chronicle setting history) d ≡ true
        by (inl is) = is
        by (inr new) =
            absurd
            (both_ways (is_new (chronicle setting history) d)
            (not-true (is_new (chronicle setting history) d)
            (implied (not (has_commit (seen_of (chronicle setting history)))) (not (is_new (chronicle setting history) d))
            ((uncommitted setting history clean.is.0).devices d) (not_from_false _ renewed.uncommitted)))
            new)

    there : is_some (live_past (chronicle setting history) d) ≡ true
    there = let of : IsOld setting (chronicle setting history) d = old_is setting history d old in ap is_some of.live

    unmoved_by : (b : Bool) → is_backup_root (plan_now setting (chronicle setting history)) d ≡ b
        → is_root (plan_now setting (chronicle setting history)) d ≡ false
        → (moved (chronicle setting history) d ≡ false) × (acts_in (chronicle setting history) d ≡ false)
    unmoved_by false is other =
        let ordinary : is_ordinary (plan_now setting (chronicle setting history)) d ≡ true =
        and_from
        (is_member (plan_now setting (chronicle setting history)) d && not (is_root (plan_now setting (chronicle setting history)) d)) _
        (and_from (is_member (plan_now setting (chronicle setting history)) d) _ is_in (not_from_false _ other)) (not_from_false _ is) in (
          false_from_ne_true (moved (chronicle setting history) d)
              (λ put.
              both_ways (hit setting (chronicle setting history) d) (none_touched (epath setting.net (plan_now setting (chronicle setting history)) d))
              (and_parts (hit setting (chronicle setting history) d) _
              (implied
              (is_old (chronicle setting history) d && is_ordinary (plan_now setting (chronicle setting history)) d && moved (chronicle setting history) d) _
              (core.causes.backups d)
              (and_from (is_old (chronicle setting history) d && is_ordinary (plan_now setting (chronicle setting history)) d) _
              (and_from (is_old (chronicle setting history) d) _ old ordinary) put))).0),
          not-true (acts_in (chronicle setting history) d)
              (implied (is_old (chronicle setting history) d && is_ordinary (plan_now setting (chronicle setting history)) d)
              (not (acts_in (chronicle setting history) d)) (core.roles.ordinary d)
              (and_from (is_old (chronicle setting history) d) _ old ordinary)),
        )
    unmoved_by true is other =
        let same : (plan_now setting (chronicle setting history)).backup_root ≡ d = eqb-true (plan_now setting (chronicle setting history)).backup_root d is in (
          false_from_ne_true (moved (chronicle setting history) d)
              (λ put.
              both_ways (path_hit setting (chronicle setting history) (plan_now setting (chronicle setting history)).backup_root)
              (none_touched (path setting.net (plan_now setting (chronicle setting history)) (plan_now setting (chronicle setting history)).backup_root))
              (implied
              (is_old (chronicle setting history) (plan_now setting (chronicle setting history)).backup_root
              && moved (chronicle setting history) (plan_now setting (chronicle setting history)).backup_root)
              (path_hit setting (chronicle setting history) (plan_now setting (chronicle setting history)).backup_root) core.causes.move
              (subst (λ x. (is_old (chronicle setting history) x && moved (chronicle setting history) x) ≡ true) (sym same)
              (and_from (is_old (chronicle setting history) d) (moved (chronicle setting history) d) old put)))),
          false_from_ne_true (acts_in (chronicle setting history) d)
              (λ acts.
              both_ways (root_failed setting (chronicle setting history))
              (unfailed (thing.Device (plan_now setting (chronicle setting history)).root))
              (implied (backup_root_acts setting (chronicle setting history)) (root_failed setting (chronicle setting history)) core.causes.takeover
              (subst (λ x. acts_in (chronicle setting history) x ≡ true) (sym same) acts))),
        )

    primary : is_root (plan_now setting (chronicle setting history)) d ≡ false → on_primary (chronicle setting history) d ≡ true
    primary other =
        let rests = unmoved_by (is_backup_root (plan_now setting (chronicle setting history)) d) refl other in
        and_from (is_some (live_past (chronicle setting history) d) && not (moved (chronicle setting history) d)) _
        (and_from (is_some (live_past (chronicle setting history) d)) _ there (not_from_false _ rests.0)) (not_from_false _ rests.1)

  -- the root is one of them
  sound : IsSound setting.net (plan_now setting (chronicle setting history))
  sound = sound_now setting history fair clean.is.0

  root_belongs : belongs setting.net (plan_now setting (chronicle setting history)) (plan_now setting (chronicle setting history)).root ≡ true
  root_belongs =
      and_from (nat_lt (plan_now setting (chronicle setting history)).root (length setting.net.devices)) _ (lt-ltb _ _ sound.fits.root) sound.rules.root

  lives : root_lives setting (chronicle setting history) ≡ true
  lives =
      and_from (is_up (seen_of (chronicle setting history)) (plan_now setting (chronicle setting history)).root) _
      (up (plan_now setting (chronicle setting history)).root root_belongs)
      (not_from_false (root_failed setting (chronicle setting history)) (unfailed (thing.Device (plan_now setting (chronicle setting history)).root)))

  leads : root_leads setting (chronicle setting history) ≡ true
  leads = or_left (not (has_commit (seen_of (chronicle setting history)))) _ (not_from_false _ renewed.uncommitted)

  settled : (d : ℕ) → belongs setting.net (plan_now setting (chronicle setting history)) d ≡ true
      → IsSettledIn setting (chronicle setting history) (reference_of e) d
  settled d member =
      record {
        up = up d member;
        follows = old d member;
        root_acts = λ is.
            subst (λ x. acts_in (chronicle setting history) x ≡ true) (eqb-true (plan_now setting (chronicle setting history)).root d is)
            (implied (root_lives setting (chronicle setting history))
            (acts_in (chronicle setting history) (plan_now setting (chronicle setting history)).root) core.roles.root lives);
        stays = primary d member;
        hears = λ other.
            late (reference_of e) (heard_at (chronicle setting history) d)
            (lag setting.net)
            ((are_silent setting).whole history e next d lives leads (old d member) (primary d member other)
            (none_touched (path setting.net (plan_now setting (chronicle setting history)) d))).0;
      }
    where
      late : (r h n : ℕ) → r - h ≤ n → r ≤ h + n
      late r h n le = omega (arith, le)

pub stays_settled : (setting : Setting) → StaysSettled setting
stays_settled setting e history fair clean renewed d member = settled setting e history fair clean renewed d member

pub reports_age_little : (setting : Setting) → ReportsAgeLittle setting
reports_age_little setting reference d counter [] past fair clean renewed member other here oldest is = cc
reports_age_little setting reference d counter (x ∷ h) past fair clean renewed member other here oldest is =
    aged past (rates_of setting.net d) counter oldest (rates_are_own setting.net d past (own_pasts setting (x ∷ h) d past here))
    (age_within setting x h reference d counter fair.network (comes setting (x ∷ h) (event.Ask reference d counter) fair clean) past here (lag setting.net)
    oldest ((stays_settled setting (event.Ask reference d counter) (x ∷ h) fair clean renewed d member).hears other) is.greatest)
