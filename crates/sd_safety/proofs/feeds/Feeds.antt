-- At each event: counted up to the event before, which fails nothing of the way that is not failed now; the next one comes at most a tick gap later.
use Rattle.std.specs.Prelude.{◌≡◌, ℕ, ◌+◌, ◌*◌, ◌<◌, ◌≤◌, Bool, true, false, ◌&&◌, not, max, List, [], ◌∷◌, refl, ◌⊎◌}
use Rattle.std.proofs.Common.{arith, ap, subst, inl, inr}
use Rattle.std.proofs.lemmas.Bool.{and_parts, and_from, cases_lt, not-true}
use Rattle.std.proofs.Math.Nat.{le-max_right}
use Rattle.sd_num.specs.Lists.{has}
use Rattle.sd_plan.specs.declared.topo.Thing.{Thing}
use Rattle.sd_plan.specs.declared.topo.Thing.TheVariants as thing
use Rattle.sd_plan.specs.Walks.{epath}
use Rattle.sd_checker.specs.check_root.Roots.{fallback_devices, fallback_links}
use Rattle.sd_sched.specs.declared.Event.{Event}
use Rattle.sd_sched.specs.Events.{reference_of}
use Rattle.sd_history.specs.World.{Setting, is_up, plan_numbered}
use Rattle.sd_history.specs.Steps.{Step, seen_of, acts_in}
use Rattle.sd_history.specs.Chronicle.{chronicle, next_step}
use Rattle.sd_safety.specs.invariant.Bounds.{depth, delay, rounds_gap, tick_gap}
use Rattle.sd_safety.specs.invariant.Eras.{era, plan_now, all_started, beginning, is_among, touches, failed_now, device_failed_now, link_failed_now, heard_at, moved_at, is_old, is_behind, moved, on_primary, on_backup, root_failed}
use Rattle.sd_safety.specs.invariant.Invariant.{Invariant}
use Rattle.sd_safety.specs.invariant.Coming.{IsNextEvent, AtNext}
use Rattle.sd_safety.proofs.invariant.Sides.{implied}
use Rattle.sd_safety.specs.messages.Moments.{whole, behind, Moment, when, IsIn}
use Rattle.sd_safety.proofs.waits.Waits.{Stands, old_stands}
use Rattle.sd_safety.proofs.waits.LookingBack.{Was, two_parts}
use Rattle.sd_safety.proofs.waits.Standing.{now, heard_late}
use Rattle.sd_safety.proofs.silences.Gaps.{next_event}
use Rattle.sd_safety.proofs.silences.SoundWays.{top_of}
use Rattle.sd_safety.specs.rounds.Spans.{in_era, IsSpan}
use Rattle.sd_safety.specs.behind.Feeding.{StandsBehind, FallbackFeeds}
use Rattle.sd_safety.proofs.spans.SilenceStarts.{comes_before, heard_then, moved_then, old_then, was_primary}
use Rattle.sd_safety.proofs.spans.PathHearsAtEvents.{same_era, more_then, spares_now, kept_before}
use Rattle.sd_safety.proofs.spans.PathHears.{IsSpared, spared}
use Rattle.sd_safety.proofs.feeds.Since.{IsOnBackup, none_closed, backup_since}
use Rattle.sd_safety.proofs.feeds.Fed.{fed_silent}

-- what is said of the fallback and of the way to the device, of the plan of a number
record IsWhole (setting : Setting) (failed : List Thing) (d n : ℕ) : Type 0 where
  devices : (y : ℕ) → has (fallback_devices setting.net (plan_numbered setting n)) y ≡ true → is_among failed (thing.Device y) ≡ false
  links : (l : ℕ) → has (fallback_links setting.net (plan_numbered setting n)) l ≡ true → is_among failed (thing.Link l) ≡ false
  root : is_among failed (thing.Device (plan_numbered setting n).root) ≡ false
  self : is_among failed (thing.Device (plan_numbered setting n).backup_root) ≡ false
  behind_ : is_behind setting.net (plan_numbered setting n) d ≡ true
  missed : touches failed (epath setting.net (plan_numbered setting n) d) ≡ false

module _ (setting : Setting) (x : Event) (h : List Event) (e : Event) (comes : IsNextEvent setting (x ∷ h) e) (s0 : ℕ)
    (started : all_started setting (chronicle setting (x ∷ h)) ≤ s0) (kept : root_failed setting (chronicle setting (x ∷ h)) ≡ false)
    (old : is_old (chronicle setting (x ∷ h)) (plan_now setting (chronicle setting (x ∷ h))).backup_root ≡ true)
    (on : on_backup (chronicle setting (x ∷ h)) (plan_now setting (chronicle setting (x ∷ h))).backup_root ≡ true)
    (put : moved_at (chronicle setting (x ∷ h)) (plan_now setting (chronicle setting (x ∷ h))).backup_root ≤ s0) (d : ℕ)
    (st : StandsBehind setting (chronicle setting (x ∷ h)) d) (heard : heard_at (chronicle setting (x ∷ h)) d ≤ s0) where
  abbrev steps : List Step
  steps = chronicle setting (x ∷ h)

  abbrev b : ℕ
  b = (plan_now setting (chronicle setting (x ∷ h))).backup_root

  parts : (moved (chronicle setting (x ∷ h)) b ≡ true) × (acts_in (chronicle setting (x ∷ h)) b ≡ false)
  parts = two_parts (moved steps b) (acts_in steps b) on

  has_moved_ : (is_old (chronicle setting (x ∷ h)) b && moved (chronicle setting (x ∷ h)) b) ≡ true
  has_moved_ = and_from (is_old steps b) (moved steps b) old parts.0

  whole_now : IsWhole setting (failed_now (chronicle setting (x ∷ h))) d (era (chronicle setting (x ∷ h)))
  whole_now =
      let inv : Invariant setting steps = now setting x h e comes in
      record {
        devices = λ y is.
            not-true (device_failed_now steps y)
            (implied (is_old steps b && moved steps b && has (fallback_devices setting.net (plan_now setting steps)) y) (not (device_failed_now steps y))
            (inv.fallback.devices y)
            (and_from (is_old steps b && moved steps b) (has (fallback_devices setting.net (plan_now setting steps)) y) has_moved_ is));
        links = λ l is.
            not-true (link_failed_now steps l)
            (implied (is_old steps b && moved steps b && has (fallback_links setting.net (plan_now setting steps)) l) (not (link_failed_now steps l))
            (inv.fallback.links l)
            (and_from (is_old steps b && moved steps b) (has (fallback_links setting.net (plan_now setting steps)) l) has_moved_ is));
        root = kept;
        self = (spared setting x h e comes b old).self;
        behind_ = st.behind;
        missed = st.missed;
      }

open_before : (setting : Setting) (x : Event) (h : List Event) (e : Event) (comes : IsNextEvent setting (x ∷ h) e) (s0 b d : ℕ)
    → all_started setting (chronicle setting (x ∷ h)) ≤ s0 → root_failed setting (chronicle setting (x ∷ h)) ≡ false → s0 < reference_of x
    → (next_step setting (chronicle setting h) x).seen.closed ≡ false → b ≡ (plan_now setting (chronicle setting h)).backup_root
    → is_old (chronicle setting h) b ≡ true → on_backup (chronicle setting h) b ≡ true → moved_at (chronicle setting h) b ≤ s0
    → IsWhole setting (failed_now (chronicle setting (x ∷ h))) d (era (chronicle setting h))
    → is_among (failed_now (chronicle setting (x ∷ h))) (thing.Device d) ≡ false
    → is_old (chronicle setting h) d ≡ true → on_primary (chronicle setting h) d ≡ true → heard_at (chronicle setting h) d ≤ s0
    → reference_of x ≤ s0 + rounds_gap setting.net + 2 * depth setting.net * delay setting.net
open_before setting x [] e comes s0 b d started kept late open_ is old on put whole_ self old_d primary heard = cc
open_before setting x (y ∷ hs) e comes s0 b d started kept late open_ is old on put whole_ self old_d primary heard =
    let older : List Step = chronicle setting (y ∷ hs) in
    let steps : List Step = chronicle setting (x ∷ y ∷ hs) in
    let before_ : IsNextEvent setting (y ∷ hs) x = comes_before setting x (y ∷ hs) e comes in
    let kept' : root_failed setting older ≡ false = kept_before setting x (y ∷ hs) open_ kept in
    let then_ : (q : Moment) → IsIn q (chronicle setting (x ∷ y ∷ hs)) → s0 < when q
    → IsOnBackup older q b = λ q here after. backup_since setting (y ∷ hs) x before_ s0 b is old on put kept' q here after in
    let span : IsSpan setting y hs x s0 = record { comes = before_; started = λ first. started; within = λ q here after. in_era (then_ q here after).0 } in
    fed_silent setting y hs x s0 span kept' (omega (arith, started, late)) (failed_now steps) (more_then setting x (y ∷ hs) open_)
    (spares_now setting x (y ∷ hs) open_) whole_.devices whole_.links whole_.root whole_.self
    (subst (λ z. (q : Moment) → IsIn q (chronicle setting (x ∷ y ∷ hs)) → s0 < when q → IsOnBackup older q z) is then_) d whole_.behind_ old_d primary self
    whole_.missed heard

-- up to the event before
lately : (setting : Setting) (x : Event) (h : List Event) (e : Event) (comes : IsNextEvent setting (x ∷ h) e) (s0 : ℕ)
    → all_started setting (chronicle setting (x ∷ h)) ≤ s0 → root_failed setting (chronicle setting (x ∷ h)) ≡ false
    → is_old (chronicle setting (x ∷ h)) (plan_now setting (chronicle setting (x ∷ h))).backup_root ≡ true
    → on_backup (chronicle setting (x ∷ h)) (plan_now setting (chronicle setting (x ∷ h))).backup_root ≡ true
    → moved_at (chronicle setting (x ∷ h)) (plan_now setting (chronicle setting (x ∷ h))).backup_root ≤ s0 → (d : ℕ)
    → StandsBehind setting (chronicle setting (x ∷ h)) d → heard_at (chronicle setting (x ∷ h)) d ≤ s0
    → reference_of x ≤ s0 + rounds_gap setting.net + 2 * depth setting.net * delay setting.net
lately setting x h e comes s0 started kept old on put d st heard = go (cases_lt s0 (reference_of x))
  where
    b : ℕ
    b = (plan_now setting (chronicle setting (x ∷ h))).backup_root

    by_closed : s0 < reference_of x → (c : Bool) → (next_step setting (chronicle setting h) x).seen.closed ≡ c
        → reference_of x ≤ s0 + rounds_gap setting.net + 2 * depth setting.net * delay setting.net
    by_closed late true closed = absurd (none_closed setting x h e comes (parts setting x h e comes s0 started kept old on put d st heard).0 closed)
    by_closed late false open_ =
        let same : era (chronicle setting (x ∷ h)) ≡ era (chronicle setting h) = same_era setting x h open_ in
        let was_b : IsOnBackup (chronicle setting (x ∷ h)) (top_of setting h x) b =
        backup_since setting (x ∷ h) e comes s0 b refl old on put kept (top_of setting h x) (behind whole) late in
        let was_d : Was setting (chronicle setting h) (chronicle setting (x ∷ h)) d on_primary = was_primary setting x h e comes d s0 late heard st.primary in
        open_before setting x h e comes s0 b d started kept late open_ (ap (λ n. (plan_numbered setting n).backup_root) same) was_b.1 was_b.2
        (moved_then setting x h e comes b s0 late put)
        (subst (IsWhole setting (failed_now (chronicle setting (x ∷ h))) d) same (whole_now setting x h e comes s0 started kept old on put d st heard))
        (spared setting x h e comes d st.old).self
        (old_then setting x h e comes d was_d.epoch open_ st.old) was_d.on (heard_then setting x h e comes d s0 late heard)

    within_by : (r s a c : ℕ) → r ≤ s → r ≤ s + a + c
    within_by r s a c le = omega (arith, le)

    go : (s0 < reference_of x) ⊎ (reference_of x ≤ s0) → reference_of x ≤ s0 + rounds_gap setting.net + 2 * depth setting.net * delay setting.net
    go (inr le) = within_by (reference_of x) s0 (rounds_gap setting.net) (2 * depth setting.net * delay setting.net) le
    go (inl late) = by_closed late (next_step setting (chronicle setting h) x).seen.closed refl

pub heard_of : (a m s : ℕ) → a ≤ max (max a m) s
heard_of a m s = omega arith

pub moved_of : (a m s : ℕ) → m ≤ max (max a m) s
moved_of a m s = omega arith

sum : (r l hd m r0 q a c : ℕ) → r ≤ l + q → l ≤ max (max hd m) (r0 + q) + a + c → r0 ≤ hd → r ≤ max hd m + (a + c) + 2 * q
sum r l hd m r0 q a c gap by began = omega (arith, gap, by, began)

-- 14 (ii), while the root lives
pub fallback_feeds : (setting : Setting) → AtNext FallbackFeeds setting
fallback_feeds setting [] e comes d st lives leads old on = cc
fallback_feeds setting (x ∷ h) e comes d st lives leads old on =
    let steps : List Step = chronicle setting (x ∷ h) in
    let net = setting.net in
    let b : ℕ = (plan_now setting steps).backup_root in
    let hd : ℕ = heard_at steps d in
    let mb : ℕ = moved_at steps b in
    let rs : ℕ = all_started setting steps in
    let kept : root_failed setting steps ≡ false =
    not-true (root_failed setting steps) (and_parts (is_up (seen_of steps) (plan_now setting steps).root) (not (root_failed setting steps)) lives).1 in
    let own : IsSpared setting steps d = spared setting x h e comes d st.old in
    let s : Stands setting steps d = old_stands setting (x ∷ h) d st.old in
    let gap : reference_of e ≤ reference_of x + tick_gap net = next_event setting x h e comes d own.up own.member in
    let by : reference_of x ≤ max (max hd mb) rs + rounds_gap net + 2 * depth net * delay net =
    lately setting x h e comes (max (max hd mb) rs) (le-max_right (max hd mb) rs) kept old on (moved_of hd mb rs) d st (heard_of hd mb rs) in
    let began : beginning (seen_of steps) ≤ hd = heard_late setting x h e comes d s.past s.there in
    sum (reference_of e) (reference_of x) hd mb (beginning (seen_of steps)) (tick_gap net) (rounds_gap net) (2 * depth net * delay net) gap by began
