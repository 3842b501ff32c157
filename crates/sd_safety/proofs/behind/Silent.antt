-- 16, 17 and 14 with what is proved here put in: 16 from what the backup root hears after the root failed; 17 from 13 and that; 14 from these, from what the
-- backup
-- root hears after its path broke and what comes to the devices behind it, and from itself in eras with a mend and where the backup root is new.
use Rattle.std.specs.Prelude.{◌≡◌, ℕ, ◌<◌, Bool, true, false, ◌&&◌, ◌||◌, not, List, [], ◌∷◌, nat_eq, nat_le, refl}
use Rattle.std.proofs.Common.{arith}
use Rattle.std.proofs.lemmas.Bool.{leb-true, leb-false, false_from_ne_true, false≢true}
use Rattle.sd_plan.specs.declared.topo.Thing.TheVariants as thing
use Rattle.sd_plan.specs.declared.Plan.{Plan}
use Rattle.sd_plan.specs.Plans.{is_member, is_backup_root}
use Rattle.sd_plan.specs.Walks.{epath, on_walk}
use Rattle.sd_sched.specs.declared.Event.{Event}
use Rattle.sd_sched.specs.Events.{reference_of}
use Rattle.sd_history.specs.World.{Setting, is_up}
use Rattle.sd_history.specs.Steps.{Step, seen_of}
use Rattle.sd_history.specs.Chronicle.{chronicle}
use Rattle.sd_history.proofs.Among.{any_passing}
use Rattle.sd_safety.specs.invariant.Bounds.{losses, depth, delay, tick_gap, wait_low}
use Rattle.sd_checker.specs.check_root.Timing.{round_gap}
use Rattle.sd_safety.specs.invariant.Eras.{era, plan_now, failed_now, device_failed_now, is_among, all_started, is_old, is_new, hit, heard_at, silent_for}
use Rattle.sd_safety.specs.invariant.Silences.{WholePathHears, BehindWaits, TakesOverSoon, BesideWaits}
use Rattle.sd_safety.specs.invariant.Coming.{IsNextEvent, AtNext}
use Rattle.sd_safety.proofs.invariant.Sides.{not_both}
use Rattle.sd_safety.proofs.waits.Waits.{Stands, old_stands}
use Rattle.sd_safety.specs.behind.Pieces.{HearsNoMore}
use Rattle.sd_safety.specs.behind.Feeding.{mended_now, PathHearsNoMore, StandsBehind, FallbackFeeds, TakeoverFeeds, MendedHears, MendedMoves, BehindWaitsUnmended, BehindWaitsMended, BehindWaitsCommitted}
use Rattle.sd_safety.proofs.waits.Standing as standing
use Rattle.sd_safety.proofs.waits.Standing.{now, sound, is_up_then, heard_late}
use Rattle.sd_safety.proofs.behind.Beside.{early_sum, beside_waits}
use Rattle.sd_safety.proofs.behind.Takeover.{takes_over_soon}
use Rattle.sd_safety.proofs.behind.Sealing.{seals_soon}
use Rattle.sd_safety.proofs.behind.BackupRootTookOver.{took_over_soon}
use Rattle.sd_safety.proofs.behind.Behind.{behind_waits_unmended, behind_waits_mended}
use Rattle.sd_safety.proofs.behind.Paths.{backup_root_on_cut}

-- 16
pub takeover : (setting : Setting) → AtNext HearsNoMore setting → AtNext TakesOverSoon setting
takeover setting no_more = takes_over_soon setting (seals_soon setting) no_more

-- 17
pub beside : (setting : Setting) → AtNext WholePathHears setting → AtNext HearsNoMore setting → AtNext BesideWaits setting
beside setting hears no_more = beside_waits setting hears (takeover setting no_more)

-- 14 in an era without a mend so far
pub unmended : (setting : Setting) → AtNext WholePathHears setting → AtNext HearsNoMore setting → AtNext PathHearsNoMore setting → AtNext FallbackFeeds setting
    → AtNext TakeoverFeeds setting
    → AtNext BehindWaitsUnmended setting
unmended setting hears no_more path_no_more fallback takes =
    behind_waits_unmended setting hears (seals_soon setting) no_more fallback takes (took_over_soon setting no_more) path_no_more

-- 14 in an era with a mend
pub mended : (setting : Setting) → AtNext WholePathHears setting → AtNext HearsNoMore setting → AtNext MendedHears setting → AtNext MendedMoves setting
    → AtNext FallbackFeeds setting → AtNext TakeoverFeeds setting
    → AtNext BehindWaitsMended setting
mended setting hears no_more mended_hears mended_moves fallback takes =
    behind_waits_mended setting hears (seals_soon setting) no_more fallback takes (took_over_soon setting no_more) mended_hears mended_moves

pub behind_parts : (member backup on : Bool) → (member && not backup && on) ≡ true → (backup ≡ false) × (on ≡ true)
behind_parts true false true all = (refl, refl)
behind_parts true false false all = cc
behind_parts true true on all = cc
behind_parts false backup on all = cc

old_or_new : (member failed up_ old new : Bool) → (not (member && not failed && up_) || (old || new)) ≡ true → member ≡ true → failed ≡ false → up_ ≡ true
    → (old || new) ≡ true
old_or_new true false true old new c m f u = c
old_or_new true false false old new c m f u = cc
old_or_new true true up_ old new c m f u = cc
old_or_new false failed up_ old new c m f u = cc

module _ (setting : Setting) (unmended_ : AtNext BehindWaitsUnmended setting) (mended_ : AtNext BehindWaitsMended setting)
    (committed : AtNext BehindWaitsCommitted setting) where
  module _ (x : Event) (h : List Event) (e : Event) (comes : IsNextEvent setting (x ∷ h) e) (d : ℕ) (st : StandsBehind setting (chronicle setting (x ∷ h)) d) where
    abbrev steps : List Step
    steps = chronicle setting (x ∷ h)

    abbrev plan : Plan
    plan = plan_now setting (chronicle setting (x ∷ h))

    abbrev b : ℕ
    b = (plan_now setting (chronicle setting (x ∷ h))).backup_root

    abbrev Short : Type 0
    Short = silent_for (chronicle setting (x ∷ h)) d (reference_of e) < wait_low setting.net (plan_now setting (chronicle setting (x ∷ h)))

    -- the backup root did not fail, since the device is not hit
    kept : device_failed_now steps b ≡ false
    kept =
        let parts = behind_parts (is_member plan d) (is_backup_root plan d) (on_walk setting.net plan d b) st.behind in
        false_from_ne_true (device_failed_now steps b)
        (λ failed. not_both (hit setting steps d)
        (any_passing (is_among (failed_now steps)) (thing.Device b) (epath setting.net plan d)
        (backup_root_on_cut plan setting.net d parts.0 parts.1) failed) st.missed)

    by_mend : (m : Bool) → mended_now steps ≡ m → is_old steps b ≡ true → Short
    by_mend true is old = mended_ (x ∷ h) e comes d st is old
    by_mend false is old = unmended_ (x ∷ h) e comes d st is old

    by_kind : (o n : Bool) → is_old steps b ≡ o → is_new steps b ≡ n → (o || n) ≡ true → Short
    by_kind true n old new either = by_mend (mended_now steps) refl old
    by_kind false true old new either = committed (x ∷ h) e comes d st new
    by_kind false false old new either = cc

    when_late : (standing.Early setting x h e comes → ⊥) → Short
    when_late late_ =
        let facts = sound setting x h e comes in
        let up = is_up_then setting x h e comes b facts.fits.backup_root facts.backup_member kept late_ in
        by_kind (is_old steps b) (is_new steps b) refl refl
        (old_or_new (is_member plan b) (device_failed_now steps b) (is_up (seen_of steps) b) (is_old steps b) (is_new steps b)
        ((now setting x h e comes).core.census.members_follow b) facts.backup_member kept up)

    by_age : (c1 c2 : Bool) → nat_eq (era steps) 1 ≡ c1 → nat_le (reference_of e) (all_started setting steps) ≡ c2 → Short
    by_age true true era_ le_ =
        let s : Stands setting steps d = old_stands setting (x ∷ h) d st.old in
        early_sum (losses setting.net) (depth setting.net) (delay setting.net) (round_gap setting.net) (tick_gap setting.net) _ _ _ _ _ _ (reference_of e)
        (heard_at steps d) (sound setting x h e comes).timed
        (leb-true (reference_of e) (all_started setting steps) le_) (heard_late setting x h e comes d s.past s.there)
    by_age true false era_ le_ =
        let lt : all_started setting steps < reference_of e = leb-false (reference_of e) (all_started setting steps) le_ in
        when_late (λ early. let le = early.1 in omega (arith, le, lt))
    by_age false c2 era_ le_ = when_late (λ early. not_both (nat_eq (era steps) 1) early.0 era_)

    waits : Short
    waits = by_age (nat_eq (era steps) 1) (nat_le (reference_of e) (all_started setting steps)) refl refl

  -- 14
  pub behind : AtNext BehindWaits setting
  behind [] e comes d old behind_ primary missed = absurd (false≢true old)
  behind (x ∷ h) e comes d old behind_ primary missed = waits x h e comes d (record { old = old; behind = behind_; primary = primary; missed = missed })
