-- Whether an event keeps the order of renewals, kind by kind.
use Rattle.std.proofs.Common.{◌≡◌, ℕ, ◌<◌, Bool, true, false, not, ◌&&◌, ◌||◌, List, ◌∷◌, length, refl, sym, ap, ◌∙◌, subst}
use Rattle.std.specs.List.{list_all}
use Rattle.std.proofs.lemmas.Bool.{and_parts, not-true}
use Rattle.sd_plan.specs.Plans.{is_member, members}
use Rattle.sd_history.specs.World.{Setting, Seen, window_is_open, is_up, has_entered, joined_in_window, in_force}
use Rattle.sd_history.specs.Premises.{was_given, is_prepared, leaves_out_failed}
use Rattle.sd_history.specs.Open.{may_be_seen}
use Rattle.sd_monitors.specs.renewal.Moments.{staged_plan, IsReady}
use Rattle.sd_monitors.specs.renewal.Progressing.{ProgressKept, HasDevices, progress_after, ProgressStands}
use Rattle.sd_monitors.specs.renewal.Renewals.{RenewalKept, IsPlanned, RenewalStands}
use Rattle.sd_monitors.specs.renewal.Judging.{is_orderly, lacks, lags, is_ready}
use Rattle.sd_monitors.proofs.renewal.Belows.{members_pass, member_passes, member_fails}
use Rattle.sd_monitors.proofs.renewal.Progressing.{progress_stands, devices_after}
use Rattle.sd_monitors.proofs.renewal.Allowed.{planned_next}

-- a staged plan whose members are prepared, and which leaves out what failed
pub ready_so : (setting : Setting) (seen : List Seen) → window_is_open seen ≡ true → IsPlanned setting seen → is_ready setting seen ≡ true
    → IsReady setting seen
ready_so setting seen opened planned ready = record {
  planned = planned opened;
  up = λ d within member.
      (let all = member_passes setting.net (staged_plan setting seen) (is_prepared setting seen) parts.0 d within member in
      let two = and_parts (is_up seen d && was_given seen d) (is_member (in_force setting seen) d || joined_in_window seen d) all in
      (and_parts (is_up seen d) (was_given seen d) two.0).0);
  links = parts.1;
}
  where
    parts : (list_all (is_prepared setting seen) (members setting.net (staged_plan setting seen)) ≡ true)
        × (leaves_out_failed setting seen (staged_plan setting seen) ≡ true)
    parts = and_parts (list_all (is_prepared setting seen) (members setting.net (staged_plan setting seen)))
        (leaves_out_failed setting seen (staged_plan setting seen)) ready

-- Members, one by one

pub none_lacks : (setting : Setting) (seen : List Seen) → ((d : ℕ) → d < length setting.net.devices → lacks setting seen d ≡ false)
    → list_all (is_prepared setting seen) (members setting.net (staged_plan setting seen)) ≡ true
none_lacks setting seen none =
    members_pass setting.net (staged_plan setting seen) (is_prepared setting seen)
    (λ d within member. by (is_member (staged_plan setting seen) d) (is_prepared setting seen d) member (none d within))
  where
    by : (m p : Bool) → m ≡ true → (m && not p) ≡ false → p ≡ true
    by true true is lacks' = refl
    by true false is lacks' = cc
    by false p is lacks' = cc

pub some_lacks : (setting : Setting) (seen : List Seen) (d : ℕ) → d < length setting.net.devices → lacks setting seen d ≡ true
    → list_all (is_prepared setting seen) (members setting.net (staged_plan setting seen)) ≡ false
some_lacks setting seen d within lack =
    let parts : (is_member (staged_plan setting seen) d ≡ true) × (not (is_prepared setting seen d) ≡ true) =
    and_parts (is_member (staged_plan setting seen) d) (not (is_prepared setting seen d)) lack in
    member_fails setting.net (staged_plan setting seen) (is_prepared setting seen) d within parts.0 (not-true (is_prepared setting seen d) parts.1)

pub none_lags : (setting : Setting) (seen : List Seen) → ((d : ℕ) → d < length setting.net.devices → lags setting seen d ≡ false)
    → list_all (λ d. not (is_up seen d) || has_entered seen d) (members setting.net (staged_plan setting seen)) ≡ true
none_lags setting seen none =
    members_pass setting.net (staged_plan setting seen) (λ d. not (is_up seen d) || has_entered seen d)
    (λ d within member. by (is_member (staged_plan setting seen) d) (is_up seen d) (has_entered seen d) member (none d within))
  where
    by : (m u e : Bool) → m ≡ true → (m && u && not e) ≡ false → (not u || e) ≡ true
    by true true true is lags' = refl
    by true true false is lags' = cc
    by true false e is lags' = refl
    by false u e is lags' = cc

pub some_lags : (setting : Setting) (seen : List Seen) (d : ℕ) → d < length setting.net.devices → lags setting seen d ≡ true
    → list_all (λ d. not (is_up seen d) || has_entered seen d) (members setting.net (staged_plan setting seen)) ≡ false
some_lags setting seen d within lag =
    member_fails setting.net (staged_plan setting seen) (λ d. not (is_up seen d) || has_entered seen d) d within
    (and_parts (is_member (staged_plan setting seen) d) (is_up seen d)
    (and_parts (is_member (staged_plan setting seen) d && is_up seen d) (not (has_entered seen d)) lag).0).0
    (by (is_member (staged_plan setting seen) d) (is_up seen d) (has_entered seen d) lag)
  where
    by : (m u e : Bool) → (m && u && not e) ≡ true → (not u || e) ≡ false
    by true true true is = cc
    by true true false is = refl
    by true false e is = cc
    by false u e is = cc

-- what is kept stands for what was seen and one event more
pub renewal_stands : (setting : Setting) (kept : RenewalKept) (s : Seen) (earlier : List Seen) (orderly : Bool) (after : RenewalKept)
    → may_be_seen setting earlier s.event ≡ true → RenewalStands setting kept earlier
    → after.holds ≡ (kept.holds && orderly) → (kept.holds ≡ true → orderly ≡ is_orderly setting s earlier) → after.progress ≡ progress_after s kept.progress
    → RenewalStands setting after (s ∷ earlier)
renewal_stands setting kept s earlier orderly after may stands holds judged progress = record {
  holds = holds ∙ by kept.holds refl ∙ ap (λ b. b && is_orderly setting s earlier) stands.holds;
  devices = subst (λ (p : ProgressKept). HasDevices (length setting.net.devices) p) (sym progress)
      (devices_after (length setting.net.devices) s kept.progress stands.devices);
  progress = subst (λ (p : ProgressKept). ProgressStands p (s ∷ earlier)) (sym progress) (progress_stands kept.progress s earlier stands.progress);
  planned = planned_next setting s earlier may stands.planned;
}
  where
    by : (b : Bool) → kept.holds ≡ b → (b && orderly) ≡ (b && is_orderly setting s earlier)
    by true held = judged held
    by false broken = refl
