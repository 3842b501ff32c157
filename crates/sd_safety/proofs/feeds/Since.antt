-- While the root did not fail, an old backup root on its backup has been so, in the same plan, at each event later than its move.
use Rattle.std.specs.Prelude.{◌≡◌, ℕ, ◌<◌, ◌≤◌, Bool, true, false, ◌&&◌, not, List, [], ◌∷◌, length, nat_lt, is_some, refl}
use Rattle.std.proofs.Common.{arith, ◌∙◌, ap, sym, subst}
use Rattle.std.proofs.lemmas.Bool.{and_from, lt-ltb, false_from_ne_true}
use Rattle.std.proofs.Math.Nat.{lt_of_lt_of_le}
use Rattle.sd_plan.specs.Plans.{is_member, is_root}
use Rattle.sd_sched.specs.declared.Event.{Event}
use Rattle.sd_sched.specs.Events.{reference_of}
use Rattle.sd_history.specs.World.{Setting, is_up, plan_numbered}
use Rattle.sd_history.specs.Steps.{Step, seen_of, acts_in, has_settled}
use Rattle.sd_history.specs.Chronicle.{chronicle, next_step}
use Rattle.sd_safety.specs.invariant.Eras.{era, plan_now, is_old, live_past, moved, moved_at, on_primary, on_backup, root_failed, belongs}
use Rattle.sd_safety.specs.invariant.Clauses.{backup_root_acts}
use Rattle.sd_safety.specs.invariant.Guarded.{IsSteady}
use Rattle.sd_safety.specs.invariant.Coming.{IsNextEvent}
use Rattle.sd_safety.proofs.invariant.Facts.{IsSound, sound_now}
use Rattle.sd_safety.proofs.invariant.Prefix.{clean_before}
use Rattle.sd_safety.proofs.invariant.Sides.{implied, not_both}
use Rattle.sd_safety.specs.messages.Moments.{whole, behind, Moment, when, IsIn}
use Rattle.sd_safety.proofs.messages.Tails.{history_chronicle, no_later}
use Rattle.sd_safety.proofs.waits.Standing.{steps_timed}
use Rattle.sd_safety.proofs.waits.LookingBack.{two_parts}
use Rattle.sd_safety.proofs.waits.Waits.{Stands, old_stands}
use Rattle.sd_safety.proofs.behind.Moved.{begins, unmoved, not_root}
use Rattle.sd_safety.proofs.behind.EventBack.{WasMoved, kept, goes, step_back}
use Rattle.sd_safety.proofs.spans.SilenceStarts.{comes_before, old_then}
use Rattle.sd_safety.proofs.spans.PathHearsAtEvents.{same_era, kept_before}

-- so it was before an event
abbrev pub IsOnBackup : List Step → Moment → ℕ → Type 0
IsOnBackup steps q b = (era q.earlier ≡ era steps) × (is_old q.earlier b ≡ true) × (on_backup q.earlier b ≡ true) × (is_up (seen_of q.earlier) b ≡ true)

-- right after a closing it is on its primary
pub none_closed : (setting : Setting) (x : Event) (h : List Event) (e : Event) → IsNextEvent setting (x ∷ h) e
    → moved (chronicle setting (x ∷ h)) (plan_now setting (chronicle setting (x ∷ h))).backup_root ≡ true
    → (next_step setting (chronicle setting h) x).seen.closed ≡ true → ⊥
none_closed setting x h e comes put closed =
    let steps : List Step = chronicle setting (x ∷ h) in
    let b : ℕ = (plan_now setting steps).backup_root in
    let clean : IsSteady setting (x ∷ h) = clean_before setting e (x ∷ h) comes.clean in
    let fine : IsSound setting.net (plan_now setting steps) = sound_now setting (x ∷ h) comes.fair clean.is in
    let primary = begins (has_settled steps (era steps) b) (is_root (plan_now setting steps) b) (acts_in steps b) (on_primary steps b) _
    (implied ((next_step setting (chronicle setting h) x).seen.closed && belongs setting.net (plan_now setting steps) b) _
    (comes.before.1.core.closed.members b)
    (and_from (next_step setting (chronicle setting h) x).seen.closed (belongs setting.net (plan_now setting steps) b) closed
    (and_from (nat_lt b (length setting.net.devices)) (is_member (plan_now setting steps) b)
    (lt-ltb b (length setting.net.devices) fine.fits.backup_root) fine.backup_member))) (not_root setting.net (plan_now setting steps) fine) in
    not_both (moved steps b) put (unmoved (is_some (live_past steps b)) (moved steps b) (acts_in steps b) primary)

-- with the first event it did not move before
none_first : (setting : Setting) (x e : Event) → IsNextEvent setting (x ∷ []) e → (s0 b : ℕ) → b ≡ (plan_now setting (chronicle setting (x ∷ []))).backup_root
    → moved (chronicle setting (x ∷ [])) b ≡ true → moved_at (chronicle setting (x ∷ [])) b ≤ s0
    → s0 < reference_of x → ⊥
none_first setting x e comes s0 b is was put less = by_closed (next_step setting (chronicle setting []) x).seen.closed refl
  where
    nothing : moved (chronicle setting []) b ≡ true → ⊥
    nothing moved_ = cc

    by : WasMoved setting x [] b → ⊥
    by (kept moved_ epoch at) = nothing moved_
    by (goes primary epoch at) = omega (arith, at, put, less)

    by_closed : (c : Bool) → (next_step setting (chronicle setting []) x).seen.closed ≡ c → ⊥
    by_closed true closed = none_closed setting x [] e comes (subst (λ z. moved (chronicle setting (x ∷ [])) z ≡ true) is was) closed
    by_closed false open_ = by (step_back setting x [] b (steps_timed setting x [] e comes) was)

pub backup_since : (setting : Setting) (history : List Event) (e : Event) → IsNextEvent setting history e → (s0 b : ℕ)
    → b ≡ (plan_now setting (chronicle setting history)).backup_root → is_old (chronicle setting history) b ≡ true
    → on_backup (chronicle setting history) b ≡ true → moved_at (chronicle setting history) b ≤ s0 → root_failed setting (chronicle setting history) ≡ false
    → (q : Moment) → IsIn q (chronicle setting (e ∷ history)) → s0 < when q → IsOnBackup (chronicle setting history) q b
backup_since setting [] e comes s0 b is old on put alive q here late = cc
backup_since setting (x ∷ h) e comes s0 b is old on put alive q whole late =
    let s : Stands setting (chronicle setting (x ∷ h)) b = old_stands setting (x ∷ h) b old in
    (refl, old, on, s.live)
backup_since setting (x ∷ []) e comes s0 b is old on put alive q (behind t) late =
    absurd
    (none_first setting x e comes s0 b is (two_parts (moved (chronicle setting (x ∷ [])) b) (acts_in (chronicle setting (x ∷ [])) b) on).0 put
    (lt_of_lt_of_le late (no_later setting q (chronicle setting (x ∷ [])) (history_chronicle setting (x ∷ []) comes.clean.is.0) t)))
backup_since setting (x ∷ y ∷ hs) e comes s0 b is old on put alive q (behind t) late =
    by_closed (λ before_ is' old' on' put' alive'. backup_since setting (y ∷ hs) x before_ s0 b is' old' on' put' alive' q t late)
    (next_step setting (chronicle setting (y ∷ hs)) x).seen.closed refl
  where
    steps : List Step
    steps = chronicle setting (x ∷ y ∷ hs)

    parts : (moved (chronicle setting (x ∷ y ∷ hs)) b ≡ true) × (acts_in (chronicle setting (x ∷ y ∷ hs)) b ≡ false)
    parts = two_parts (moved (chronicle setting (x ∷ y ∷ hs)) b) (acts_in (chronicle setting (x ∷ y ∷ hs)) b) on

    last : when q ≤ reference_of x
    last = no_later setting q (chronicle setting (x ∷ y ∷ hs)) (history_chronicle setting (x ∷ y ∷ hs) comes.clean.is.0) t

    less : s0 < reference_of x
    less = lt_of_lt_of_le late last

    open_by : (IsNextEvent setting (y ∷ hs) x → b ≡ (plan_now setting (chronicle setting (y ∷ hs))).backup_root → is_old (chronicle setting (y ∷ hs)) b ≡ true
        → on_backup (chronicle setting (y ∷ hs)) b ≡ true → moved_at (chronicle setting (y ∷ hs)) b ≤ s0
        → root_failed setting (chronicle setting (y ∷ hs)) ≡ false → IsOnBackup (chronicle setting (y ∷ hs)) q b)
        → (next_step setting (chronicle setting (y ∷ hs)) x).seen.closed ≡ false → WasMoved setting x (y ∷ hs) b
        → IsOnBackup (chronicle setting (x ∷ y ∷ hs)) q b
    open_by again open_ (goes primary epoch at) = absurd (omega (arith, at, put, less))
    open_by again open_ (kept was epoch at) =
        let same : era (chronicle setting (x ∷ y ∷ hs)) ≡ era (chronicle setting (y ∷ hs)) = same_era setting x (y ∷ hs) open_ in
        let is_then : b ≡ (plan_now setting (chronicle setting (y ∷ hs))).backup_root = is ∙ ap (λ n. (plan_numbered setting n).backup_root) same in
        let alive_then : root_failed setting (chronicle setting (y ∷ hs)) ≡ false = kept_before setting x (y ∷ hs) open_ alive in
        let still : acts_in (chronicle setting (y ∷ hs)) b ≡ false =
        false_from_ne_true (acts_in (chronicle setting (y ∷ hs)) b)
        (λ acts. not_both (root_failed setting (chronicle setting (y ∷ hs)))
        (implied (backup_root_acts setting (chronicle setting (y ∷ hs)))
        (root_failed setting (chronicle setting (y ∷ hs))) comes.before.0.1.core.causes.takeover
        (subst (λ z. acts_in (chronicle setting (y ∷ hs)) z ≡ true) is_then acts)) alive_then) in
        let told =
        again (comes_before setting x (y ∷ hs) e comes) is_then (old_then setting x (y ∷ hs) e comes b epoch open_ old)
        (and_from (moved (chronicle setting (y ∷ hs)) b) (not (acts_in (chronicle setting (y ∷ hs)) b)) was (ap not still))
        (subst (λ a. a ≤ s0) at put) alive_then in
        (told.0 ∙ sym same, told.1, told.2, told.3)

    by_closed : (IsNextEvent setting (y ∷ hs) x → b ≡ (plan_now setting (chronicle setting (y ∷ hs))).backup_root → is_old (chronicle setting (y ∷ hs)) b ≡ true
        → on_backup (chronicle setting (y ∷ hs)) b ≡ true → moved_at (chronicle setting (y ∷ hs)) b ≤ s0
        → root_failed setting (chronicle setting (y ∷ hs)) ≡ false → IsOnBackup (chronicle setting (y ∷ hs)) q b) → (c : Bool)
        → (next_step setting (chronicle setting (y ∷ hs)) x).seen.closed ≡ c → IsOnBackup (chronicle setting (x ∷ y ∷ hs)) q b
    by_closed again true closed =
        absurd (none_closed setting x (y ∷ hs) e comes (subst (λ z. moved (chronicle setting (x ∷ y ∷ hs)) z ≡ true) is parts.0) closed)
    by_closed again false open_ = open_by again open_ (step_back setting x (y ∷ hs) b (steps_timed setting x (y ∷ hs) e comes) parts.0)
