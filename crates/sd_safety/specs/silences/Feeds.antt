-- What feeds a device: a source that acts from a reference on, and a way from it that is sound since then. The top is an event; what is said of
-- the devices is said of the states before it.
use Rattle.std.specs.Prelude.{◌≡◌, ℕ, ◌+◌, ◌*◌, ◌<◌, ◌≤◌, true, false, List, [], ◌∷◌, length, Some, ◌⊎◌}
use Rattle.sd_plan.specs.declared.topo.Thing.TheVariants as thing
use Rattle.sd_plan.specs.topo.Network.{least_low, greatest_delay}
use Rattle.sd_plan.specs.declared.End.{End}
use Rattle.sd_plan.specs.Duties.{follows_over}
use Rattle.sd_device.specs.declared.msg.Stamp.{Stamp}
use Rattle.sd_device.specs.declared.msg.Message.{Message}
use Rattle.sd_checker.specs.check_root.Timing.{round_gap}
use Rattle.sd_device.specs.Calls.{Call, Past}
use Rattle.sd_history.specs.World.{Setting, makes, fails, is_up, link_has_failed, epoch_in_force, staged_epoch, window_is_open, plan_numbered}
use Rattle.sd_history.specs.Steps.{Calls, seen_of}
use Rattle.sd_history.specs.Chronicle.{past_in}
use Rattle.sd_history.specs.Premises.{delay_holds, loss_holds, renew_holds}
use Rattle.sd_safety.specs.invariant.Eras.{sent_at}
use Rattle.sd_safety.specs.messages.Moments.{IsChronicle, Moment, upto, when, IsIn, Emits}
use Rattle.sd_safety.specs.messages.Stamping.{EntersNot, remakes}
use Rattle.sd_safety.specs.messages.Rounds.{IsReady, IsOneLife, AreApart, Hears}

-- Until the moment at the top the device acts later than the reference: at each state it sent at most P ago, and before the top it is neither
-- made nor takes up a duty by a receipt.
pub record IsSource (setting : Setting) (top : Moment) (x s0 : ℕ) : Type 0 where
  pub chronicle_ : IsChronicle setting (upto top)
  pub renew : renew_holds setting (seen_of (upto top)) ≡ true
  pub soon : (q : Moment) → IsIn q (upto top) → s0 < when q → when q ≤ sent_at q.earlier x + round_gap setting.net
  pub stays : (q : Moment) → IsIn q top.earlier → s0 < when q
      → (makes x q.step.seen.event ≡ false) × (remakes x q.step.act ≡ false)
      × ((past : Past) (call : Call) → q.step.act ≡ Calls x call → past_in q.earlier x ≡ Some past → EntersNot past call)

-- its rounds are of one epoch, which is in force or staged, and no newer term is emitted in that epoch
pub record Feeds (setting : Setting) (top : Moment) (x s0 epoch : ℕ) : Type 0 where
  pub source : IsSource setting top x s0
  pub delay : delay_holds setting (seen_of (upto top)) ≡ true
  pub loss : loss_holds setting (seen_of (upto top)) ≡ true
  pub life : IsOneLife top.earlier
  pub spacing : AreApart setting top.earlier
  pub rule : 2 * (setting.net.params.depth + 1) * greatest_delay setting.net + setting.net.params.tick < least_low setting.net setting.net.params.period
  pub epoch_is : (p : Moment) → IsIn p top.earlier → s0 < when p → (m : Message) → Emits p x m → m.epoch ≡ epoch
  pub newest : (p : Moment) → IsIn p top.earlier → s0 < when p → (m : Message) → Emits p x m → (q : Moment) → IsIn q top.earlier → (y : ℕ) (n : Message)
      → Emits q y n → n.epoch ≡ epoch → n.stamp.term ≤ m.stamp.term
  pub current : (q : Moment) → IsIn q top.earlier → s0 < when q
      → (epoch ≡ epoch_in_force (seen_of q.earlier)) ⊎ (epoch ≡ staged_epoch (seen_of q.earlier)) × (window_is_open (seen_of q.earlier) ≡ true)

-- the hop from x over this end lies in the plan of the epoch, is whole later than the reference, and its device is ready
pub record IsSound (setting : Setting) (top : Moment) (epoch s0 source x : ℕ) (e : End) : Type 0 where
  pub follows : follows_over (plan_numbered setting epoch) x e.link e.device ≡ true
  pub alone : (c : ℕ) → follows_over (plan_numbered setting epoch) x e.link c ≡ true → c ≡ e.device
  pub known : (e.link < length setting.net.links) × (e.device < length setting.net.devices)
  pub apart : e.device ≡ source → ⊥
  pub ready : (q : Moment) → IsIn q top.earlier → s0 < when q → (past : Past) → past_in q.earlier e.device ≡ Some past → IsReady past epoch e.link
  pub whole : (q : Moment) → IsIn q top.earlier → s0 < when q
      → (link_has_failed (seen_of q.earlier) e.link ≡ false) × (is_up (seen_of q.earlier) e.device ≡ true)
  pub lasts : (q : Moment) → IsIn q (upto top) → s0 < when q
      → (fails (thing.Device x) q.step.seen.event ≡ false) × (fails (thing.Device e.device) q.step.seen.event ≡ false)
      × (fails (thing.Link e.link) q.step.seen.event ≡ false)

-- the hops of a way from x are sound
abbrev pub AreSound : Setting → Moment → ℕ → ℕ → ℕ → ℕ → List End → Type 0
AreSound setting top epoch s0 source x [] = Unit {0}
AreSound setting top epoch s0 source x (e ∷ way) = IsSound setting top epoch s0 source x e × AreSound setting top epoch s0 source e.device way

-- the device heard, before the top and later than the reference, a round of the epoch
pub record IsFed (top : Moment) (s0 epoch d : ℕ) : Type 0 where
  pub moment : Moment
  pub is_in : IsIn moment top.earlier
  pub late : s0 < when moment
  pub stamp : Stamp
  pub link : ℕ
  pub hears : Hears stamp epoch moment d link
