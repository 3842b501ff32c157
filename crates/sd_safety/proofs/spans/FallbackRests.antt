-- 15 at each event of each era: the rest is counted up to the event before, and the next one comes at most a tick gap later.
use Rattle.std.specs.Prelude.{◌≡◌, ℕ, ◌+◌, ◌*◌, ◌<◌, ◌≤◌, Bool, true, false, ◌&&◌, not, max, List, [], ◌∷◌, refl, ◌⊎◌}
use Rattle.std.proofs.Common.{arith, ap, subst, inl, inr}
use Rattle.std.proofs.lemmas.Bool.{and_parts, and_from, cases_lt, not-true}
use Rattle.std.proofs.Math.Nat.{le-max_right}
use Rattle.sd_num.specs.Lists.{has}
use Rattle.sd_plan.specs.declared.topo.Thing.TheVariants as thing
use Rattle.sd_plan.specs.topo.Network.{greatest_delay, greatest_up, least_low}
use Rattle.sd_checker.specs.check_root.Timing.{round_gap}
use Rattle.sd_checker.specs.check_root.Roots.{fallback_devices, fallback_links}
use Rattle.sd_sched.specs.declared.Event.{Event}
use Rattle.sd_sched.specs.Events.{reference_of}
use Rattle.sd_history.specs.World.{Setting, is_up, plan_numbered}
use Rattle.sd_history.specs.Steps.{Step, seen_of, acts_in}
use Rattle.sd_history.specs.Chronicle.{chronicle, next_step}
use Rattle.sd_safety.specs.invariant.Bounds.{depth, delay, rounds_gap, tick_gap}
use Rattle.sd_safety.specs.invariant.Eras.{era, plan_now, all_started, beginning, heard_at, moved_at, is_among, failed_now, device_failed_now, link_failed_now, is_old, moved, on_backup, root_failed}
use Rattle.sd_safety.specs.invariant.Invariant.{Invariant}
use Rattle.sd_safety.specs.invariant.Coming.{IsNextEvent, AtNext}
use Rattle.sd_safety.specs.invariant.Silences.{FallbackHears}
use Rattle.sd_safety.proofs.invariant.Sides.{implied}
use Rattle.sd_safety.proofs.invariant.Timed.{least_below_greatest}
use Rattle.sd_safety.proofs.messages.Overlap.{IsApart, apart_by_rule}
use Rattle.sd_safety.proofs.waits.Waits.{Stands, old_stands}
use Rattle.sd_safety.proofs.waits.LookingBack.{Was, two_parts}
use Rattle.sd_safety.proofs.waits.Standing.{now, sound, heard_late}
use Rattle.sd_safety.proofs.silences.Gaps.{next_event, always_sum, apart_low}
use Rattle.sd_safety.specs.rounds.Spans.{in_era, IsSpan}
use Rattle.sd_safety.proofs.spans.SilenceStarts.{comes_before, heard_then, moved_then, old_then, new_then, was_backup, no_closing, backup_within}
use Rattle.sd_safety.proofs.spans.PathHears.{IsSpared, spared}
use Rattle.sd_safety.proofs.spans.PathHearsAtEvents.{same_era, more_then, spares_now, kept_before, within}
use Rattle.sd_safety.proofs.spans.FallbackHears.{fallback_silent}
use Rattle.sd_safety.proofs.feeds.Feeds.{heard_of, moved_of}

module _ (setting : Setting) (x : Event) (h : List Event) (e : Event) (comes : IsNextEvent setting (x ∷ h) e) (s0 : ℕ)
    (started : all_started setting (chronicle setting (x ∷ h)) ≤ s0) (kept : root_failed setting (chronicle setting (x ∷ h)) ≡ false)
    (old : is_old (chronicle setting (x ∷ h)) (plan_now setting (chronicle setting (x ∷ h))).backup_root ≡ true)
    (on : on_backup (chronicle setting (x ∷ h)) (plan_now setting (chronicle setting (x ∷ h))).backup_root ≡ true)
    (heard : heard_at (chronicle setting (x ∷ h)) (plan_now setting (chronicle setting (x ∷ h))).backup_root ≤ s0)
    (put : moved_at (chronicle setting (x ∷ h)) (plan_now setting (chronicle setting (x ∷ h))).backup_root ≤ s0) where
  abbrev steps : List Step
  steps = chronicle setting (x ∷ h)

  abbrev b : ℕ
  b = (plan_now setting (chronicle setting (x ∷ h))).backup_root

  inv : Invariant setting (chronicle setting (x ∷ h))
  inv = now setting x h e comes

  has_moved_ : (is_old (chronicle setting (x ∷ h)) b && moved (chronicle setting (x ∷ h)) b) ≡ true
  has_moved_ = and_from (is_old steps b) (moved steps b) old (two_parts (moved steps b) (acts_in steps b) on).0

  devices : (d : ℕ) → has (fallback_devices setting.net (plan_now setting (chronicle setting (x ∷ h)))) d ≡ true
      → is_among (failed_now (chronicle setting (x ∷ h))) (thing.Device d) ≡ false
  devices d is =
      not-true (device_failed_now steps d)
      (implied (is_old steps b && moved steps b && has (fallback_devices setting.net (plan_now setting steps)) d) (not (device_failed_now steps d))
      (inv.fallback.devices d)
      (and_from (is_old steps b && moved steps b) (has (fallback_devices setting.net (plan_now setting steps)) d) has_moved_ is))

  links : (l : ℕ) → has (fallback_links setting.net (plan_now setting (chronicle setting (x ∷ h)))) l ≡ true
      → is_among (failed_now (chronicle setting (x ∷ h))) (thing.Link l) ≡ false
  links l is =
      not-true (link_failed_now steps l)
      (implied (is_old steps b && moved steps b && has (fallback_links setting.net (plan_now setting steps)) l) (not (link_failed_now steps l))
      (inv.fallback.links l)
      (and_from (is_old steps b && moved steps b) (has (fallback_links setting.net (plan_now setting steps)) l) has_moved_ is))

  self : is_among (failed_now (chronicle setting (x ∷ h))) (thing.Device b) ≡ false
  self = (spared setting x h e comes b old).self

  -- with the backup root of the same plan before the event
  module _ (late : s0 < reference_of x) (open_ : (next_step setting (chronicle setting h) x).seen.closed ≡ false)
      (was : Was setting (chronicle setting h) (chronicle setting (x ∷ h)) b on_backup) where
    same : era (chronicle setting (x ∷ h)) ≡ era (chronicle setting h)
    same = same_era setting x h open_

    abbrev Devices : ℕ → Type 0
    Devices n = (d : ℕ) → has (fallback_devices setting.net (plan_numbered setting n)) d ≡ true
        → is_among (failed_now (chronicle setting (x ∷ h))) (thing.Device d) ≡ false

    abbrev Links : ℕ → Type 0
    Links n = (l : ℕ) → has (fallback_links setting.net (plan_numbered setting n)) l ≡ true
        → is_among (failed_now (chronicle setting (x ∷ h))) (thing.Link l) ≡ false

    same_b : b ≡ (plan_now setting (chronicle setting h)).backup_root
    same_b = ap (λ n. (plan_numbered setting n).backup_root) same

    old_x : is_old (chronicle setting h) b ≡ true
    old_x = old_then setting x h e comes b was.epoch open_ old

rests_open : (setting : Setting) (x : Event) (h : List Event) (e : Event) (comes : IsNextEvent setting (x ∷ h) e) (s0 b : ℕ)
    → all_started setting (chronicle setting (x ∷ h)) ≤ s0 → root_failed setting (chronicle setting (x ∷ h)) ≡ false → s0 < reference_of x
    → (next_step setting (chronicle setting h) x).seen.closed ≡ false → b ≡ (plan_now setting (chronicle setting h)).backup_root
    → is_old (chronicle setting h) b ≡ true → on_backup (chronicle setting h) b ≡ true → heard_at (chronicle setting h) b ≤ s0
    → moved_at (chronicle setting h) b ≤ s0
    → ((d : ℕ) → has (fallback_devices setting.net (plan_now setting (chronicle setting h))) d ≡ true
    → is_among (failed_now (chronicle setting (x ∷ h))) (thing.Device d) ≡ false)
    → ((l : ℕ) → has (fallback_links setting.net (plan_now setting (chronicle setting h))) l ≡ true
    → is_among (failed_now (chronicle setting (x ∷ h))) (thing.Link l) ≡ false) → is_among (failed_now (chronicle setting (x ∷ h))) (thing.Device b) ≡ false
    → reference_of x ≤ s0 + rounds_gap setting.net + (depth setting.net + 1) * delay setting.net
rests_open setting x [] e comes s0 b started kept late open_ is old on heard put devices links self = cc
rests_open setting x (y ∷ hs) e comes s0 b started kept late open_ is old on heard put devices links self =
    let older : List Step = chronicle setting (y ∷ hs) in
    let steps : List Step = chronicle setting (x ∷ y ∷ hs) in
    let b' : ℕ = (plan_now setting older).backup_root in
    let before_ : IsNextEvent setting (y ∷ hs) x = comes_before setting x (y ∷ hs) e comes in
    let old' : is_old older b' ≡ true = subst (λ z. is_old older z ≡ true) is old in
    let on' : on_backup older b' ≡ true = subst (λ z. on_backup older z ≡ true) is on in
    let heard' : heard_at older b' ≤ s0 = subst (λ z. heard_at older z ≤ s0) is heard in
    let put' : moved_at older b' ≤ s0 = subst (λ z. moved_at older z ≤ s0) is put in
    let span : IsSpan setting y hs x s0 =
    record {
      comes = before_;
      started = λ first. started;
      within =
          λ q here after. in_era (backup_within setting (y ∷ hs) x before_ b' s0 old' on' heard' put' q here after).0;
    } in
    fallback_silent setting y hs x s0 span (kept_before setting x (y ∷ hs) open_ kept) (omega (arith, started, late)) (failed_now steps)
    (more_then setting x (y ∷ hs) open_) (spares_now setting x (y ∷ hs) open_) devices links
    (subst (λ n. is_among (failed_now steps) (thing.Device (plan_numbered setting n).root) ≡ false) (same_era setting x (y ∷ hs) open_) kept)
    (subst (λ z. is_among (failed_now steps) (thing.Device z) ≡ false) is self) old' on' heard' put'

-- up to the event before
rests_lately : (setting : Setting) (x : Event) (h : List Event) (e : Event) (comes : IsNextEvent setting (x ∷ h) e) (s0 : ℕ)
    → all_started setting (chronicle setting (x ∷ h)) ≤ s0 → root_failed setting (chronicle setting (x ∷ h)) ≡ false
    → is_old (chronicle setting (x ∷ h)) (plan_now setting (chronicle setting (x ∷ h))).backup_root ≡ true
    → on_backup (chronicle setting (x ∷ h)) (plan_now setting (chronicle setting (x ∷ h))).backup_root ≡ true
    → heard_at (chronicle setting (x ∷ h)) (plan_now setting (chronicle setting (x ∷ h))).backup_root ≤ s0
    → moved_at (chronicle setting (x ∷ h)) (plan_now setting (chronicle setting (x ∷ h))).backup_root ≤ s0
    → reference_of x ≤ s0 + rounds_gap setting.net + (depth setting.net + 1) * delay setting.net
rests_lately setting x h e comes s0 started kept old on heard put = go (cases_lt s0 (reference_of x))
  where
    b : ℕ
    b = (plan_now setting (chronicle setting (x ∷ h))).backup_root

    by_closed : s0 < reference_of x → (c : Bool) → (next_step setting (chronicle setting h) x).seen.closed ≡ c
        → Was setting (chronicle setting h) (chronicle setting (x ∷ h)) (plan_now setting (chronicle setting (x ∷ h))).backup_root on_backup
        → reference_of x ≤ s0 + rounds_gap setting.net + (depth setting.net + 1) * delay setting.net
    by_closed late true closed w = absurd (no_closing setting x h e comes b (new_then setting x h e comes b w.epoch closed old) w.on)
    by_closed late false open_ w =
        rests_open setting x h e comes s0 b started kept late open_ (same_b setting x h e comes s0 started kept old on heard put late open_ w)
        (old_x setting x h e comes s0 started kept old on heard put late open_ w) w.on
        (heard_then setting x h e comes b s0 late heard) (moved_then setting x h e comes b s0 late put)
        (subst (Devices setting x h e comes s0 started kept old on heard put late open_ w)
        (same setting x h e comes s0 started kept old on heard put late open_ w) (devices setting x h e comes s0 started kept old on heard put))
        (subst (Links setting x h e comes s0 started kept old on heard put late open_ w)
        (same setting x h e comes s0 started kept old on heard put late open_ w) (links setting x h e comes s0 started kept old on heard put))
        (self setting x h e comes s0 started kept old on heard put)

    go : (s0 < reference_of x) ⊎ (reference_of x ≤ s0) → reference_of x ≤ s0 + rounds_gap setting.net + (depth setting.net + 1) * delay setting.net
    go (inr le) = within (reference_of x) s0 (rounds_gap setting.net) ((depth setting.net + 1) * delay setting.net) le
    go (inl late) = by_closed late (next_step setting (chronicle setting h) x).seen.closed refl (was_backup setting x h e comes b s0 late heard put on)

pub first_of : (r h m : ℕ) → r ≤ h → r ≤ max h m
first_of r h m le = omega (arith, le)

-- 15
pub fallback_hears : (setting : Setting) → AtNext FallbackHears setting
fallback_hears setting [] e comes lives leads old on = cc
fallback_hears setting (x ∷ h) e comes lives leads old on =
    let steps : List Step = chronicle setting (x ∷ h) in
    let net = setting.net in
    let b : ℕ = (plan_now setting steps).backup_root in
    let hb : ℕ = heard_at steps b in
    let mb : ℕ = moved_at steps b in
    let rs : ℕ = all_started setting steps in
    let kept : root_failed setting steps ≡ false =
    not-true (root_failed setting steps) (and_parts (is_up (seen_of steps) (plan_now setting steps).root) (not (root_failed setting steps)) lives).1 in
    let own : IsSpared setting steps b = spared setting x h e comes b old in
    let s : Stands setting steps b = old_stands setting (x ∷ h) b old in
    let gap : reference_of e ≤ reference_of x + tick_gap net = next_event setting x h e comes b own.up own.member in
    let by : reference_of x ≤ max (max hb mb) rs + rounds_gap net + (depth net + 1) * delay net =
    rests_lately setting x h e comes (max (max hb mb) rs) (le-max_right (max hb mb) rs) kept old on (heard_of hb mb rs) (moved_of hb mb rs) in
    let began : beginning (seen_of steps) ≤ max hb mb = first_of (beginning (seen_of steps)) hb mb (heard_late setting x h e comes b s.past s.there) in
    let rule : IsApart net = apart_by_rule net (plan_now setting steps) (sound setting x h e comes).guarded.timing in
    always_sum (reference_of e) (reference_of x) (max hb mb) (beginning (seen_of steps)) (tick_gap net) (greatest_up net net.params.period) (round_gap net)
    (rounds_gap net) ((depth net + 1) * delay net) (least_low net net.params.period)
    gap by began refl (least_below_greatest net net.params.period)
    (apart_low (2 * (net.params.depth + 1) * greatest_delay net) net.params.tick (least_low net net.params.period) rule)
