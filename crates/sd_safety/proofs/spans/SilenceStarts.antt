-- How far back the silence of an old device goes: while it stands on its primary, no further than the commit of the window with whose closing the era began;
-- and while the backup root is on its backup, not beyond the closing.
use Rattle.std.specs.Prelude.{◌≡◌, ℕ, ◌+◌, ◌<◌, ◌≤◌, Bool, true, false, ◌&&◌, ◌||◌, not, List, [], ◌∷◌, nat_eq, is_some, refl, if◌then◌else◌}
use Rattle.std.proofs.Common.{arith, sym, ◌∙◌, ap, subst}
use Rattle.std.proofs.lemmas.Bool.{and_parts, and_from, eqb-true, false_from_ne_true}
use Rattle.std.proofs.Math.Nat.{lt_of_lt_of_le}
use Rattle.sd_num.specs.Lists.{map_or, same_number}
use Rattle.sd_sched.specs.declared.Event.{Event}
use Rattle.sd_sched.specs.Events.{reference_of}
use Rattle.sd_history.specs.World.{Setting, makes, is_up, has_commit, staged_epoch}
use Rattle.sd_history.specs.Steps.{Step, seen_of, acts_in, epoch_in, parent_in}
use Rattle.sd_history.specs.Chronicle.{chronicle, next_step}
use Rattle.sd_safety.specs.invariant.Eras.{era, does, hears, moves, latest_such, heard_at, moved_at, is_old, is_new, live_past, moved, on_primary, on_backup}
use Rattle.sd_safety.specs.invariant.Clauses.{staged_root, commit_at}
use Rattle.sd_safety.specs.invariant.Invariant.{Core}
use Rattle.sd_safety.specs.invariant.Guarded.{IsSteady}
use Rattle.sd_safety.specs.invariant.Coming.{IsNextEvent}
use Rattle.sd_safety.proofs.invariant.Prefix.{clean_before}
use Rattle.sd_safety.proofs.invariant.Sides.{implied, not_both}
use Rattle.sd_safety.specs.messages.Moments.{whole, behind, Moment, when, IsIn}
use Rattle.sd_safety.proofs.messages.Tails.{history_chronicle, no_later}
use Rattle.sd_safety.proofs.waits.Standing.{steps_timed}
use Rattle.sd_safety.proofs.waits.LookingBack.{Was, was_on_primary, was_on_backup, two_parts}
use Rattle.sd_safety.proofs.windows.Eras as eras
use Rattle.sd_safety.proofs.windows.Closing.{epoch_up}
use Rattle.sd_safety.proofs.windows.NoneBeforeCommit.{epoch_within}
use Rattle.sd_safety.proofs.windows.StaysNew.{reached}
use Rattle.sd_safety.proofs.receipts.Stood.{core_of}
use Rattle.sd_safety.proofs.terms.Actors.{IsActor, committed_actor, actor_acts}
use Rattle.sd_safety.proofs.entering.AfterCommit.{IsSince, since}
use Rattle.sd_safety.proofs.entering.Hears.{idle_by, heard_late}
use Rattle.sd_safety.specs.rounds.Spans.{IsWithin, in_era, in_window}
use Rattle.sd_safety.proofs.behind.Moved.{unmoved}

-- what came before an event is what it was, where it is not later than the reference
pub kept_by : (s0 r : ℕ) (m y : Bool) (before : ℕ) → s0 < r → (if m || y then r else before) ≤ s0 → before ≤ s0
kept_by s0 r true y before late le = absurd (omega (arith, le, late))
kept_by s0 r false true before late le = absurd (omega (arith, le, late))
kept_by s0 r false false before late le = le

module _ (setting : Setting) (x : Event) (h : List Event) (e : Event) (comes : IsNextEvent setting (x ∷ h) e) where
  pub comes_before : IsNextEvent setting h x
  comes_before = record { fair = comes.fair; clean = clean_before setting e (x ∷ h) comes.clean; before = comes.before.0 }

  abbrev older : List Step
  older = chronicle setting h

  abbrev s : Step
  s = next_step setting (chronicle setting h) x

  abbrev steps : List Step
  steps = chronicle setting (x ∷ h)

  pub heard_then : (d s0 : ℕ) → s0 < reference_of x → heard_at (chronicle setting (x ∷ h)) d ≤ s0 → heard_at (chronicle setting h) d ≤ s0
  heard_then d s0 late le = kept_by s0 (reference_of x) (makes d x) (does hears older s d) (latest_such hears older d) late le

  pub moved_then : (d s0 : ℕ) → s0 < reference_of x → moved_at (chronicle setting (x ∷ h)) d ≤ s0 → moved_at (chronicle setting h) d ≤ s0
  moved_then d s0 late le = kept_by s0 (reference_of x) (makes d x) (does moves older s d) (latest_such moves older d) late le

  -- where the event closed no window, who is old was old
  pub old_then : (d : ℕ) → epoch_in (chronicle setting h) d ≡ epoch_in (chronicle setting (x ∷ h)) d
      → (next_step setting (chronicle setting h) x).seen.closed ≡ false → is_old (chronicle setting (x ∷ h)) d ≡ true → is_old (chronicle setting h) d ≡ true
  old_then d epoch open_ old = ap (λ o. same_number o (era older)) epoch ∙ ap (same_number (epoch_in steps d)) (sym (eras.era_kept s older open_)) ∙ old

  -- where it closed one, who is old was new
  pub new_then : (d : ℕ) → epoch_in (chronicle setting h) d ≡ epoch_in (chronicle setting (x ∷ h)) d
      → (next_step setting (chronicle setting h) x).seen.closed ≡ true → is_old (chronicle setting (x ∷ h)) d ≡ true → is_new (chronicle setting h) d ≡ true
  new_then d epoch closed old = ap (λ o. same_number o (era older + 1)) epoch ∙ ap (same_number (epoch_in steps d)) (sym (eras.era_grows s older closed)) ∙ old

  -- who was new and did not act was not the staged root
  pub not_staged_root : (d : ℕ) → is_new (chronicle setting h) d ≡ true → acts_in (chronicle setting h) d ≡ false
      → nat_eq d (staged_root setting (chronicle setting h)) ≡ false
  not_staged_root d new idle =
      false_from_ne_true (nat_eq d (staged_root setting older))
      (λ same.
      let commit : has_commit (seen_of older) ≡ true =
      reached (has_commit (seen_of older)) (era older) (epoch_within setting h comes_before.clean.is.0 d (staged_epoch (seen_of older)) new) in
      let clean : IsSteady setting h = clean_before setting x h comes_before.clean in
      let actor : IsActor setting older (staged_root setting older) = committed_actor setting h comes.fair clean comes_before.before commit in
      not_both (acts_in older d)
      (subst (λ z. acts_in older z ≡ true) (sym (eqb-true d (staged_root setting older) same))
      (actor_acts setting h comes.fair clean comes_before.before (staged_root setting older) actor)) idle)

  pub was_primary : (d s0 : ℕ) → s0 < reference_of x → heard_at (chronicle setting (x ∷ h)) d ≤ s0 → on_primary (chronicle setting (x ∷ h)) d ≡ true
      → Was setting (chronicle setting h) (chronicle setting (x ∷ h)) d on_primary
  was_primary d s0 late heard on = was_on_primary setting (x ∷ h) s older d whole (steps_timed setting x h e comes) (omega (arith, heard, late)) on

  pub was_backup : (d s0 : ℕ) → s0 < reference_of x → heard_at (chronicle setting (x ∷ h)) d ≤ s0 → moved_at (chronicle setting (x ∷ h)) d ≤ s0
      → on_backup (chronicle setting (x ∷ h)) d ≡ true → Was setting (chronicle setting h) (chronicle setting (x ∷ h)) d on_backup
  was_backup d s0 late heard put on =
      was_on_backup setting (x ∷ h) s older d whole (steps_timed setting x h e comes) (omega (arith, heard, late)) (omega (arith, put, late)) on

  -- the closing, where the device was new
  pub closing_within : (d s0 : ℕ) → (q : Moment) → IsIn q (chronicle setting (x ∷ h)) → s0 < when q → heard_at (chronicle setting h) d ≤ s0
      → (next_step setting (chronicle setting h) x).seen.closed ≡ true → is_new (chronicle setting h) d ≡ true
      → acts_in (chronicle setting h) d ≡ false → IsWithin (chronicle setting (x ∷ h)) q
  closing_within d s0 q here late heard closed new idle =
      let commit : has_commit (seen_of older) ≡ true =
      reached (has_commit (seen_of older)) (era older) (epoch_within setting h comes_before.clean.is.0 d (staged_epoch (seen_of older)) new) in
      let at : commit_at older ≤ heard_at older d = heard_late setting h x comes_before d new (not_staged_root d new idle) in
      let told : IsSince older q = since setting q s older (history_chronicle setting h comes_before.clean.is.0) commit (omega (arith, at, heard, late)) here in
      in_window (ap (λ n. n + 1) told.same ∙ sym (eras.era_grows s older closed)) told.commit

-- a moment within the era before is within the era now, where no window closed
same_within : (older steps : List Step) (q : Moment) → era steps ≡ era older → IsWithin older q → IsWithin steps q
same_within older steps q same (in_era is) = in_era (is ∙ sym same)
same_within older steps q same (in_window is commit) = in_window (is ∙ sym same) commit

pub idle_of : (steps : List Step) (d : ℕ) → on_primary steps d ≡ true → acts_in steps d ≡ false
idle_of steps d on = idle_by (is_some (live_past steps d)) (moved steps d) (acts_in steps d) on

-- on its primary
pub primary_within : (setting : Setting) (history : List Event) (e : Event) → IsNextEvent setting history e → (d s0 : ℕ)
    → is_old (chronicle setting history) d ≡ true
    → on_primary (chronicle setting history) d ≡ true
    → heard_at (chronicle setting history) d ≤ s0 → (q : Moment) → IsIn q (chronicle setting (e ∷ history)) → s0 < when q
    → IsWithin (chronicle setting history) q
primary_within setting [] e comes d s0 old on heard q here late = cc
primary_within setting (x ∷ h) e comes d s0 old on heard q whole late = in_era refl
primary_within setting (x ∷ h) e comes d s0 old on heard q (behind t) late =
    let last : when q ≤ reference_of x = no_later setting q (chronicle setting (x ∷ h)) (history_chronicle setting (x ∷ h) comes.clean.is.0) t in
    let less : s0 < reference_of x = lt_of_lt_of_le late last in
    let w : Was setting (chronicle setting h) (chronicle setting (x ∷ h)) d on_primary = was_primary setting x h e comes d s0 less heard on in
    let heard' : heard_at (chronicle setting h) d ≤ s0 = heard_then setting x h e comes d s0 less heard in
    by (next_step setting (chronicle setting h) x).seen.closed refl w heard'
    (λ old'. primary_within setting h x (comes_before setting x h e comes) d s0 old' w.on heard' q t late)
  where
    by : (c : Bool) → (next_step setting (chronicle setting h) x).seen.closed ≡ c → Was setting (chronicle setting h) (chronicle setting (x ∷ h)) d on_primary
        → heard_at (chronicle setting h) d ≤ s0
        → (is_old (chronicle setting h) d ≡ true → IsWithin (chronicle setting h) q) → IsWithin (chronicle setting (x ∷ h)) q
    by true closed w heard' rest =
        closing_within setting x h e comes d s0 q t late heard' closed (new_then setting x h e comes d w.epoch closed old)
        (idle_of (chronicle setting h) d w.on)
    by false open_ w heard' rest =
        same_within (chronicle setting h) (chronicle setting (x ∷ h)) q (eras.era_kept (next_step setting (chronicle setting h) x) (chronicle setting h) open_)
        (rest (old_then setting x h e comes d w.epoch open_ old))

-- a device that is on its backup was so in the era alone: a new one is on its primary
pub no_closing : (setting : Setting) (x : Event) (h : List Event) (e : Event) → IsNextEvent setting (x ∷ h) e → (d : ℕ) → is_new (chronicle setting h) d ≡ true
    → on_backup (chronicle setting h) d ≡ true → ⊥
no_closing setting x h e comes d new on =
    let steps : List Step = chronicle setting h in
    let parts = two_parts (moved steps d) (acts_in steps d) on in
    let core : Core setting steps = core_of setting h comes.before.0 in
    let other : nat_eq d (staged_root setting steps) ≡ false = not_staged_root setting x h e comes d new parts.1 in
    let linked =
    implied (is_new steps d && not (nat_eq d (staged_root setting steps))) _ (core.committed.linked d)
    (and_from (is_new steps d) (not (nat_eq d (staged_root setting steps))) new (ap not other)) in
    let primary = (and_parts (on_primary steps d) _ (and_parts (on_primary steps d && map_or (parent_in steps d) false (is_new steps)) _ linked).0).0 in
    not_both (moved steps d) parts.0 (unmoved (is_some (live_past steps d)) (moved steps d) (acts_in steps d) primary)

pub backup_within : (setting : Setting) (history : List Event) (e : Event) → IsNextEvent setting history e → (d s0 : ℕ)
    → is_old (chronicle setting history) d ≡ true
    → on_backup (chronicle setting history) d ≡ true
    → heard_at (chronicle setting history) d ≤ s0 → moved_at (chronicle setting history) d ≤ s0 → (q : Moment) → IsIn q (chronicle setting (e ∷ history))
    → s0 < when q
    → (era q.earlier ≡ era (chronicle setting history)) × (is_old q.earlier d ≡ true) × (on_backup q.earlier d ≡ true) × (is_up (seen_of q.earlier) d ≡ true)
backup_within setting [] e comes d s0 old on heard put q here late = cc
backup_within setting (x ∷ h) e comes d s0 old on heard put q whole late = (refl, old, on, old_up (chronicle setting (x ∷ h)) d old)
  where
    old_up : (steps : List Step) (d : ℕ) → is_old steps d ≡ true → is_up (seen_of steps) d ≡ true
    old_up steps d is = epoch_up steps d (era steps) is
backup_within setting (x ∷ h) e comes d s0 old on heard put q (behind t) late =
    let last : when q ≤ reference_of x = no_later setting q (chronicle setting (x ∷ h)) (history_chronicle setting (x ∷ h) comes.clean.is.0) t in
    let less : s0 < reference_of x = lt_of_lt_of_le late last in
    let w : Was setting (chronicle setting h) (chronicle setting (x ∷ h)) d on_backup = was_backup setting x h e comes d s0 less heard put on in
    by (next_step setting (chronicle setting h) x).seen.closed refl w
    (λ old'. backup_within setting h x (comes_before setting x h e comes) d s0 old' w.on (heard_then setting x h e comes d s0 less heard)
    (moved_then setting x h e comes d s0 less put) q t late)
  where
    by : (c : Bool) → (next_step setting (chronicle setting h) x).seen.closed ≡ c → Was setting (chronicle setting h) (chronicle setting (x ∷ h)) d on_backup
        → (is_old (chronicle setting h) d ≡ true → (era q.earlier ≡ era (chronicle setting h)) × (is_old q.earlier d ≡ true) × (on_backup q.earlier d ≡ true)
        × (is_up (seen_of q.earlier) d ≡ true))
        → (era q.earlier ≡ era (chronicle setting (x ∷ h))) × (is_old q.earlier d ≡ true) × (on_backup q.earlier d ≡ true)
        × (is_up (seen_of q.earlier) d ≡ true)
    by true closed w rest = absurd (no_closing setting x h e comes d (new_then setting x h e comes d w.epoch closed old) w.on)
    by false open_ w rest =
        let told = rest (old_then setting x h e comes d w.epoch open_ old) in
        (told.0 ∙ sym (eras.era_kept (next_step setting (chronicle setting h) x) (chronicle setting h) open_), told.1, told.2, told.3)
