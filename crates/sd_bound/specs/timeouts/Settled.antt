-- A run under one plan from a reference on, in which no window is open: the first plan of a history in which nothing was staged, or a later one since its
-- closing. Where nothing fails later than the reference, how devices stand before an event that comes later than that; and what such an event leaves of
-- their places.
use Rattle.std.specs.Prelude.{◌≡◌, ℕ, ◌+◌, ◌<◌, ◌≤◌, Bool, true, false, List, ◌∷◌, length, map, Option, Some, None, if◌then◌else◌}
use Rattle.sd_num.specs.Lists.{has}
use Rattle.sd_plan.specs.declared.topo.Thing.{Thing}
use Rattle.sd_plan.specs.declared.topo.Thing.TheVariants as thing
use Rattle.sd_plan.specs.declared.Hop.{Hop}
use Rattle.sd_plan.specs.declared.Plan.{Plan}
use Rattle.sd_plan.specs.Duties.{duty_of}
use Rattle.sd_plan.specs.Plans.{is_member, is_present, is_root, is_backup_root, has_backup, primary_of, backup_of}
use Rattle.sd_plan.specs.Walks.{walk, path, epath}
use Rattle.sd_checker.specs.check_root.Roots.{fallback_devices, fallback_links}
use Rattle.sd_checker.specs.check_root.Timing.{silence}
use Rattle.sd_device.specs.declared.msg.Message.{Message}
use Rattle.sd_device.specs.Calls.{Receive, Past}
use Rattle.sd_device.specs.Words.{duty_now, has_moved, is_acting}
use Rattle.sd_sched.specs.declared.Event.{Event}
use Rattle.sd_history.specs.Things.{failure_of}
use Rattle.sd_history.specs.World.{Setting, makes, is_up, link_has_failed, window, plan_numbered}
use Rattle.sd_history.specs.Steps.{Calls, seen_of, acts_in}
use Rattle.sd_history.specs.Chronicle.{past_in, chronicle}
use Rattle.sd_safety.specs.invariant.Bounds.{tick_gap, first_up, wait_up}
use Rattle.sd_safety.specs.invariant.Eras.{era, beginning, all_started, is_among, touches, heard_at, moved}
use Rattle.sd_safety.specs.invariant.Coming.{IsNextEvent}
use Rattle.sd_safety.specs.messages.Moments.{Moment, upto, when, IsIn}

-- the plan of such a run, by its number
abbrev pub the_plan : Setting → ℕ → Plan
the_plan setting epoch = plan_numbered setting epoch

-- The event comes after the history, and no window is open. Later than the reference it is the plan of this number that is in force. The history has begun by
-- the reference, and where the plan is the first one all members have started.
pub record IsUnderWay (setting : Setting) (epoch : ℕ) (history : List Event) (e : Event) (calm : ℕ) : Type 0 where
  pub comes : IsNextEvent setting history e
  pub shut : window (seen_of (chronicle setting history)) ≡ None
  pub now : era (chronicle setting history) ≡ epoch
  pub same : (q : Moment) → IsIn q (chronicle setting (e ∷ history)) → calm < when q → era q.earlier ≡ epoch
  pub begun : beginning (seen_of (chronicle setting (e ∷ history))) ≤ calm
  pub started : epoch ≡ 1 → all_started setting (chronicle setting (e ∷ history)) ≤ calm

-- and what failed failed by it
pub record IsSettled (setting : Setting) (epoch : ℕ) (history : List Event) (e : Event) (calm : ℕ) : Type 0 where
  pub comes : IsNextEvent setting history e
  pub way : IsUnderWay setting epoch history e calm
  pub unfailed : (q : Moment) → IsIn q (chronicle setting (e ∷ history)) → calm < when q → failure_of q.step.seen.event ≡ None

-- a member of the plan that did not fail
pub record IsSoundMember (setting : Setting) (epoch : ℕ) (failed : List Thing) (y : ℕ) : Type 0 where
  pub known : y < length setting.net.devices
  pub member : is_member (the_plan setting epoch) y ≡ true
  pub self : is_among failed (thing.Device y) ≡ false

-- neither root nor backup root
abbrev pub IsOrdinary : Setting → ℕ → ℕ → Type 0
IsOrdinary setting epoch y = (is_root (the_plan setting epoch) y ≡ false) × (is_backup_root (the_plan setting epoch) y ≡ false)

-- how such a device stands before an event
pub record Place (setting : Setting) (epoch : ℕ) (q : Moment) (y : ℕ) : Type 0 where
  pub past : Past
  pub up : is_up (seen_of q.earlier) y ≡ true
  pub there : past_in q.earlier y ≡ Some past
  pub duty : duty_now past ≡ Some (duty_of setting.net (the_plan setting epoch) epoch y)
  pub moved_is : moved q.earlier y ≡ has_moved past
  pub acts_is : acts_in q.earlier y ≡ is_acting past

-- the devices above the backup root
abbrev pub above : Setting → ℕ → List ℕ
above setting epoch = map (λ (hop : Hop). hop.parent) (walk setting.net (the_plan setting epoch) (the_plan setting epoch).backup_root)

-- What is taken of the invariant before an event, where these things failed by then. B is the backup root.
pub record Scene (setting : Setting) (epoch : ℕ) (failed : List Thing) (q : Moment) : Type 0 where
  -- who did not fail is up and follows the plan, and is not made anew; and who is up did not fail
  pub place : (y : ℕ) → IsSoundMember setting epoch failed y → Place setting epoch q y
  pub unmade : (y : ℕ) → IsSoundMember setting epoch failed y → makes y q.step.seen.event ≡ false
  pub well : (y : ℕ) → is_up (seen_of q.earlier) y ≡ true → is_member (the_plan setting epoch) y ≡ true → is_among failed (thing.Device y) ≡ false
  -- links of the plan too
  pub link : (l : ℕ) → is_present (the_plan setting epoch) l ≡ true → is_among failed (thing.Link l) ≡ false → link_has_failed (seen_of q.earlier) l ≡ false
  pub sound : (l : ℕ) → link_has_failed (seen_of q.earlier) l ≡ false → is_among failed (thing.Link l) ≡ false
  -- the root acts, B only where the root failed, others never
  pub root : is_among failed (thing.Device (the_plan setting epoch).root) ≡ false → acts_in q.earlier (the_plan setting epoch).root ≡ true
  pub takeover : acts_in q.earlier (the_plan setting epoch).backup_root ≡ true → is_among failed (thing.Device (the_plan setting epoch).root) ≡ true
  pub ordinary : (y : ℕ) → IsSoundMember setting epoch failed y → IsOrdinary setting epoch y → acts_in q.earlier y ≡ false
  -- who is on its backup is hit, and where B has moved its path is
  pub hit : (y : ℕ) → IsSoundMember setting epoch failed y → IsOrdinary setting epoch y → moved q.earlier y ≡ true → touches failed (epath setting.net (the_plan setting epoch) y) ≡ true
  pub move : IsSoundMember setting epoch failed (the_plan setting epoch).backup_root → moved q.earlier (the_plan setting epoch).backup_root ≡ true
      → touches failed (path setting.net (the_plan setting epoch) (the_plan setting epoch).backup_root) ≡ true
  -- while B is on its primary so are the devices above it; while it is on its backup those of the fallback are sound, and on their primaries
  pub path : IsSoundMember setting epoch failed (the_plan setting epoch).backup_root → moved q.earlier (the_plan setting epoch).backup_root ≡ false
      → acts_in q.earlier (the_plan setting epoch).backup_root ≡ false
      → (x : ℕ) → has (above setting epoch) x ≡ true → is_root (the_plan setting epoch) x ≡ false → IsSoundMember setting epoch failed x → moved q.earlier x ≡ false
  pub fallback : IsSoundMember setting epoch failed (the_plan setting epoch).backup_root → moved q.earlier (the_plan setting epoch).backup_root ≡ true
      → ((x : ℕ) → has (fallback_devices setting.net (the_plan setting epoch)) x ≡ true → is_among failed (thing.Device x) ≡ false)
      × ((l : ℕ) → has (fallback_links setting.net (the_plan setting epoch)) l ≡ true → is_among failed (thing.Link l) ≡ false)
  pub stays : IsSoundMember setting epoch failed (the_plan setting epoch).backup_root → moved q.earlier (the_plan setting epoch).backup_root ≡ true
      → acts_in q.earlier (the_plan setting epoch).backup_root ≡ false
      → (x : ℕ) → has (fallback_devices setting.net (the_plan setting epoch)) x ≡ true → IsSoundMember setting epoch failed x → moved q.earlier x ≡ false
  -- who could move was not silent for longer than its wait
  pub timeout : (y : ℕ) → IsSoundMember setting epoch failed y → IsOrdinary setting epoch y → has_backup (the_plan setting epoch) y ≡ true → moved q.earlier y ≡ false
      → when q ≤ heard_at q.earlier y + (wait_up setting.net (the_plan setting epoch) + tick_gap setting.net)
  pub timeout_first : IsSoundMember setting epoch failed (the_plan setting epoch).backup_root → moved q.earlier (the_plan setting epoch).backup_root ≡ false
      → acts_in q.earlier (the_plan setting epoch).backup_root ≡ false
      → when q ≤ heard_at q.earlier (the_plan setting epoch).backup_root + (first_up setting.net (the_plan setting epoch) + tick_gap setting.net)

-- What an event leaves of the place of a device that did not fail.
pub record IsOnward (setting : Setting) (epoch : ℕ) (q : Moment) (y : ℕ) : Type 0 where
  -- who moved or acts does so for good
  pub moved_on : moved q.earlier y ≡ true → moved (upto q) y ≡ true
  pub acts_on : acts_in q.earlier y ≡ true → acts_in (upto q) y ≡ true
  -- who heard lately stays where it is
  pub stays : when q ≤ heard_at q.earlier y + silence setting.net → (moved (upto q) y ≡ moved q.earlier y) × (acts_in (upto q) y ≡ acts_in q.earlier y)
  -- and so does who hears now
  pub hears : (l : ℕ) (m : Message) (c : ℕ) → q.step.act ≡ Calls y (Receive l m c)
      → (moved (upto q) y ≡ moved q.earlier y) × (acts_in (upto q) y ≡ acts_in q.earlier y)
  -- and an ordinary device without a backup
  pub primary : IsOrdinary setting epoch y → has_backup (the_plan setting epoch) y ≡ false → moved (upto q) y ≡ moved q.earlier y

-- the hop on which a device is that moved, or did not
abbrev pub hop_on : Plan → Bool → ℕ → Option Hop
hop_on plan put y = if put then backup_of plan y else primary_of plan y
