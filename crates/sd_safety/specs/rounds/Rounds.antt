-- One clean round on its way, up to a limit before the moment at the top; and a hop that is open to it until then.
use Rattle.std.specs.Prelude.{◌≡◌, ℕ, ◌+◌, ◌*◌, ◌<◌, ◌≤◌, true, false, List, [], ◌∷◌, length, Some, ◌⊎◌}
use Rattle.sd_plan.specs.declared.topo.Thing.TheVariants as thing
use Rattle.sd_plan.specs.topo.Network.{least_low, greatest_delay}
use Rattle.sd_plan.specs.declared.End.{End}
use Rattle.sd_plan.specs.Duties.{follows_over}
use Rattle.sd_device.specs.declared.msg.Message.{Message}
use Rattle.sd_device.specs.Calls.{Past}
use Rattle.sd_history.specs.World.{Setting, fails, is_up, link_has_failed, epoch_in_force, staged_epoch, window_is_open, plan_numbered}
use Rattle.sd_history.specs.Steps.{seen_of}
use Rattle.sd_history.specs.Chronicle.{past_in}
use Rattle.sd_history.specs.Premises.{delay_holds, renew_holds}
use Rattle.sd_history.specs.Rounds.{is_spoiled}
use Rattle.sd_safety.specs.messages.Moments.{IsChronicle, Moment, upto, when, IsIn, IsBefore, Emits}
use Rattle.sd_safety.specs.messages.Rounds.{IsReady, IsOneLife, AreApart}

-- the source emits a clean round of the epoch at the first moment, and no newer term is emitted in that epoch
pub record IsRound (setting : Setting) (top : Moment) (source epoch : ℕ) (start : Moment) (limit : ℕ) : Type 0 where
  pub chronicle_ : IsChronicle setting (upto top)
  pub delay : delay_holds setting (seen_of (upto top)) ≡ true
  pub renew : renew_holds setting (seen_of (upto top)) ≡ true
  pub life : IsOneLife top.earlier
  pub spacing : AreApart setting top.earlier
  pub rule : 2 * (setting.net.params.depth + 1) * greatest_delay setting.net + setting.net.params.tick < least_low setting.net setting.net.params.period
  pub here : IsIn start top.earlier
  pub message : Message
  pub emits : Emits start source message
  pub epoch_is : message.epoch ≡ epoch
  pub clean : is_spoiled (seen_of (upto top)) message.stamp.term message.stamp.round ≡ false
  pub before : limit < when top
  pub soon : limit ≤ when start + 2 * (setting.net.params.depth + 1) * greatest_delay setting.net
  pub newest : (q : Moment) → IsIn q top.earlier → (y : ℕ) (n : Message) → Emits q y n → n.epoch ≡ epoch → n.stamp.term ≤ message.stamp.term
  pub current : (q : Moment) → IsIn q top.earlier → IsIn start (upto q) → when q ≤ limit
      → (epoch ≡ epoch_in_force (seen_of q.earlier)) ⊎ (epoch ≡ staged_epoch (seen_of q.earlier)) × (window_is_open (seen_of q.earlier) ≡ true)

-- the hop from x over this end lies in the plan of the epoch, is whole from the first moment to the limit, and its device is ready
pub record IsOpenHop (setting : Setting) (top : Moment) (epoch : ℕ) (start : Moment) (limit source x : ℕ) (e : End) : Type 0 where
  pub follows : follows_over (plan_numbered setting epoch) x e.link e.device ≡ true
  pub alone : (c : ℕ) → follows_over (plan_numbered setting epoch) x e.link c ≡ true → c ≡ e.device
  pub known : (e.link < length setting.net.links) × (e.device < length setting.net.devices)
  pub apart : e.device ≡ source → ⊥
  pub whole : (q : Moment) → IsIn q top.earlier → IsIn start (upto q) → when q ≤ limit
      → (link_has_failed (seen_of q.earlier) e.link ≡ false) × (is_up (seen_of q.earlier) e.device ≡ true)
  pub ready : (q : Moment) → IsIn q top.earlier → IsBefore start q → when q ≤ limit → (past : Past) → past_in q.earlier e.device ≡ Some past
      → IsReady past epoch e.link
  pub lasts : (q : Moment) → IsIn q (upto top) → IsBefore start q
      → (fails (thing.Device x) q.step.seen.event ≡ false) × (fails (thing.Device e.device) q.step.seen.event ≡ false)
      × (fails (thing.Link e.link) q.step.seen.event ≡ false)

-- the hops of a way from x are such
abbrev pub AreOpenHops : Setting → Moment → ℕ → Moment → ℕ → ℕ → ℕ → List End → Type 0
AreOpenHops setting top epoch start limit source x [] = Unit {0}
AreOpenHops setting top epoch start limit source x (e ∷ way) =
    IsOpenHop setting top epoch start limit source x e × AreOpenHops setting top epoch start limit source e.device way
