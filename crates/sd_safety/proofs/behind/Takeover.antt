-- 16, the takeover after the root's failure: from the deadlines of the backup root, where it hears nothing long after the root failed.
use Rattle.std.specs.Prelude.{◌≡◌, ℕ, ◌+◌, ◌*◌, ◌≤◌, Bool, true, false, List, [], ◌∷◌, None, is_some, refl, if◌then◌else◌}
use Rattle.std.proofs.Common.{arith, ◌∙◌, ap}
use Rattle.sd_sched.specs.declared.Event.{Event}
use Rattle.sd_sched.specs.Events.{reference_of}
use Rattle.sd_history.specs.World.{Setting}
use Rattle.sd_history.specs.Steps.{Step, acts_in}
use Rattle.sd_history.specs.Chronicle.{past_in, chronicle}
use Rattle.sd_safety.specs.invariant.Bounds.{depth, delay, tick_gap, first_up, second_up}
use Rattle.sd_safety.specs.invariant.Eras.{plan_now, is_old, live_past, moved, on_primary, on_backup, root_failed}
use Rattle.sd_safety.specs.invariant.Silences.{TakesOverSoon, root_failed_at}
use Rattle.sd_safety.specs.invariant.Coming.{IsNextEvent, AtNext}
use Rattle.sd_safety.proofs.invariant.Prefix.{clean_before}
use Rattle.sd_safety.specs.behind.Pieces.{SealsSoon, HearsNoMore}
use Rattle.sd_safety.proofs.behind.Moved.{silence_now, rest_now, moved_soon}
use Rattle.sd_safety.proofs.waits.Waits.{Stands, old_stands}
use Rattle.sd_safety.proofs.waits.LookingBack.{all_three, both_two}

-- an old device is live
pub old_is_live : (setting : Setting) (history : List Event) (d : ℕ) → is_old (chronicle setting history) d ≡ true
    → is_some (live_past (chronicle setting history) d) ≡ true
old_is_live setting history d old =
    let s : Stands setting (chronicle setting history) d = old_stands setting history d old in
    ap (λ b. is_some (if b then past_in (chronicle setting history) d else None)) s.live ∙ ap is_some s.there

-- where it does not act it is on its primary, or on its backup
pub primary_where : (setting : Setting) (history : List Event) (d : ℕ) → is_old (chronicle setting history) d ≡ true
    → moved (chronicle setting history) d ≡ false → acts_in (chronicle setting history) d ≡ false
    → on_primary (chronicle setting history) d ≡ true
primary_where setting history d old put still =
    all_three (is_some (live_past (chronicle setting history) d)) (moved (chronicle setting history) d) (acts_in (chronicle setting history) d)
    (old_is_live setting history d old) put still

pub backup_where : (steps : List Step) (d : ℕ) → moved steps d ≡ true → acts_in steps d ≡ false → on_backup steps d ≡ true
backup_where steps d put still = both_two (moved steps d) (acts_in steps d) put still

module _ (setting : Setting) (seals : AtNext SealsSoon setting) (no_more : AtNext HearsNoMore setting) where
  module _ (x : Event) (h : List Event) (e : Event) (comes : IsNextEvent setting (x ∷ h) e) (failed : root_failed setting (chronicle setting (x ∷ h)) ≡ true)
      (old : is_old (chronicle setting (x ∷ h)) (plan_now setting (chronicle setting (x ∷ h))).backup_root ≡ true)
      (still : acts_in (chronicle setting (x ∷ h)) (plan_now setting (chronicle setting (x ∷ h))).backup_root ≡ false) where
    by_place : (m : Bool) → moved (chronicle setting (x ∷ h)) (plan_now setting (chronicle setting (x ∷ h))).backup_root ≡ m
        → reference_of e
        ≤ root_failed_at setting (chronicle setting (x ∷ h)) + (depth setting.net + 1) * delay setting.net
        + first_up setting.net (plan_now setting (chronicle setting (x ∷ h))) + second_up setting.net
        (plan_now setting (chronicle setting (x ∷ h))) + 2 * tick_gap setting.net
    by_place false put =
        let b : ℕ = (plan_now setting (chronicle setting (x ∷ h))).backup_root in
        let short = silence_now setting (x ∷ h) e comes (seals (x ∷ h) e comes) old (primary_where setting (x ∷ h) b old put still) in
        let last = no_more (x ∷ h) e comes failed old still in
        omega (arith, short, last)
    by_place true put =
        let b : ℕ = (plan_now setting (chronicle setting (x ∷ h))).backup_root in
        let short = rest_now setting (x ∷ h) e comes old (backup_where (chronicle setting (x ∷ h)) b put still) in
        let soon = moved_soon setting comes.fair seals (x ∷ h) (clean_before setting e (x ∷ h) comes.clean) comes.before old put in
        let last = no_more (x ∷ h) e comes failed old still in
        omega (arith, short, soon, last)

  pub takes_over_soon : AtNext TakesOverSoon setting
  takes_over_soon [] e comes failed old still = cc
  takes_over_soon (x ∷ h) e comes failed old still =
      by_place x h e comes failed old still (moved (chronicle setting (x ∷ h)) (plan_now setting (chronicle setting (x ∷ h))).backup_root) refl
