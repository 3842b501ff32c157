-- Rounds that everyone hears: a way that is open to a round, and that the round went along it.
use Rattle.std.specs.Prelude.{◌≡◌, ℕ, ◌+◌, ◌<◌, ◌≤◌, true, false, List, [], ◌∷◌, length, Some, ◌⊎◌}
use Rattle.sd_plan.specs.declared.topo.Thing.TheVariants as thing
use Rattle.sd_plan.specs.topo.Network.{least_low}
use Rattle.sd_plan.specs.declared.Edge.{Edge}
use Rattle.sd_plan.specs.declared.End.{End}
use Rattle.sd_plan.specs.declared.Duty.{Duty}
use Rattle.sd_plan.specs.Duties.{follows_over}
use Rattle.sd_device.specs.declared.msg.Stamp.{Stamp}
use Rattle.sd_device.specs.declared.msg.Message.{Message}
use Rattle.sd_device.specs.Calls.{Call, Receive, Past}
use Rattle.sd_device.specs.Words.{transition_of, accepted_over, epoch_now, given_now, parent_edge}
use Rattle.sd_history.specs.World.{Setting, fails, is_up, link_has_failed, latest_reference, plan_numbered}
use Rattle.sd_history.specs.Steps.{Step, Calls, seen_of, ends_at}
use Rattle.sd_history.specs.Chronicle.{past_in}
use Rattle.sd_history.proofs.Among.{Among}
use Rattle.sd_safety.specs.messages.Moments.{Moment, upto, when, IsIn, IsBefore, Sends, Emits}
use Rattle.sd_safety.specs.messages.Stamping.{IsUpTo, EntersNot, remakes}

-- the device accepts this message over this link at the moment
pub record Takes (p : Moment) (d l : ℕ) (m : Message) (c : ℕ) : Type 0 where
  pub past : Past
  pub edge : Edge
  pub there : past_in p.earlier d ≡ Some past
  pub over : accepted_over (transition_of past (Receive l m c)) ≡ Some edge

-- the device accepts a message of this round and epoch over this link at the moment, and sends it on
pub record Hears (stamp : Stamp) (epoch : ℕ) (p : Moment) (d l : ℕ) : Type 0 where
  pub message : Message
  pub counter : ℕ
  pub carries : message.stamp ≡ stamp
  pub epoch_is : message.epoch ≡ epoch
  pub act : p.step.act ≡ Calls d (Receive l message counter)
  pub takes : Takes p d l message counter
  pub sent : Message
  pub sends : Sends p d sent
  pub sent_carries : sent.stamp ≡ stamp
  pub sent_epoch : sent.epoch ≡ epoch

-- it heard it between the first moment and this one
pub record HeardSince (stamp : Stamp) (epoch : ℕ) (start q : Moment) (d : ℕ) : Type 0 where
  pub moment : Moment
  pub since : IsBefore start moment
  pub before : IsBefore moment q
  pub link : ℕ
  pub hears : Hears stamp epoch moment d link

-- from the first moment until the first event past the limit the round can go from x over this end: where x sends it, the end is one of its
-- downstream ends, with its link not failed and its device up; neither of the three fails; and the device accepts it, or has heard it since
pub record IsOpen (setting : Setting) (steps : List Step) (stamp : Stamp) (epoch : ℕ) (start : Moment) (limit x : ℕ) (e : End) : Type 0 where
  pub follows : (q : Moment) → IsIn q steps → IsIn start (upto q) → when q ≤ limit → (m : Message) → Sends q x m → m.stamp ≡ stamp → m.epoch ≡ epoch
      → Among e (ends_at setting q.earlier epoch x) × (link_has_failed (seen_of q.earlier) e.link ≡ false) × (is_up (seen_of q.earlier) e.device ≡ true)
  pub lasts : (q : Moment) → IsIn q steps → IsBefore start q → latest_reference (seen_of q.earlier) ≤ limit
      → (fails (thing.Device x) q.step.seen.event ≡ false) × (fails (thing.Device e.device) q.step.seen.event ≡ false)
      × (fails (thing.Link e.link) q.step.seen.event ≡ false)
  pub accepts : (q : Moment) → IsIn q steps → IsBefore start q → when q ≤ limit → (m : Message) (c : ℕ) → m.stamp ≡ stamp → m.epoch ≡ epoch
      → q.step.act ≡ Calls e.device (Receive e.link m c)
      → Takes q e.device e.link m c ⊎ HeardSince stamp epoch start q e.device

-- each hop of the way is open, the first from x
abbrev pub AreOpen : Setting → List Step → Stamp → ℕ → Moment → ℕ → ℕ → List End → Type 0
AreOpen setting steps stamp epoch start limit x [] = Unit {0}
AreOpen setting steps stamp epoch start limit x (e ∷ way) =
    IsOpen setting steps stamp epoch start limit x e × AreOpen setting steps stamp epoch start limit e.device way

-- the round went along the way: its first device heard it since the first moment, by so long after a time, and each other one by so long after
-- the time of the one before
pub data Flows (steps : List Step) (stamp : Stamp) (epoch : ℕ) (start : Moment) (most : ℕ) : ℕ → List End → Type 0 where
  arrived : {time : ℕ} → Flows steps stamp epoch start most time []
  heard : {time : ℕ} {e : End} {way : List End} (q : Moment) → IsIn q steps → IsBefore start q → when q ≤ time + most → (link : ℕ)
      → Hears stamp epoch q e.device link → Flows steps stamp epoch start most (time + most) way
      → Flows steps stamp epoch start most time (e ∷ way)

-- the round is emitted at no other moment, and by no other device
abbrev pub IsOnlyEmission : List Step → Stamp → Moment → ℕ → Type 0
IsOnlyEmission steps stamp start source = (p : Moment) → IsIn p steps → (x : ℕ) (m : Message) → Emits p x m → m.stamp ≡ stamp
    → (upto p ≡ upto start) × (x ≡ source)

-- before the moment no newer round was emitted in the epoch
abbrev pub IsNewest : Stamp → ℕ → Moment → Type 0
IsNewest stamp epoch q = (p : Moment) → IsBefore p q → (x : ℕ) (m : Message) → Emits p x m → m.epoch ≡ epoch → IsUpTo m.stamp stamp

-- each emission in the epoch is of this round or an older one, or comes at least the least time of a period after the first moment
abbrev pub IsSpaced : Setting → List Step → Stamp → ℕ → Moment → Type 0
IsSpaced setting steps stamp epoch start = (p : Moment) → IsIn p steps → (x : ℕ) (m : Message) → Emits p x m → m.epoch ≡ epoch
    → IsUpTo m.stamp stamp ⊎ (when start + least_low setting.net setting.net.params.period ≤ when p)

-- no two emissions have one stamp
abbrev pub AreDistinct : List Step → Type 0
AreDistinct steps = (p q : Moment) → IsIn p steps → IsIn q steps → (x y : ℕ) (m n : Message) → Emits p x m → Emits q y n → m.stamp ≡ n.stamp
    → (upto p ≡ upto q) × (x ≡ y)

-- the device takes a message of this epoch over this link: it is of that epoch and the link leads to its parent; or its given duty is of that
-- epoch, and the link is its primary one there
pub data IsReady (past : Past) (epoch l : ℕ) : Type 0 where
  follows_parent : (edge : Edge) → epoch_now past ≡ epoch → parent_edge past ≡ Some edge → edge.link ≡ l → IsReady past epoch l
  has_given : (duty : Duty) (edge : Edge) → given_now past ≡ Some duty → duty.epoch ≡ epoch → duty.primary ≡ Some edge → edge.link ≡ l → IsReady past epoch l

-- the hop from x over this end lies in the plan of the epoch and is whole from the first moment to the limit, and its device is ready
pub record IsWhole (setting : Setting) (steps : List Step) (epoch : ℕ) (start : Moment) (limit source x : ℕ) (e : End) : Type 0 where
  pub follows : follows_over (plan_numbered setting epoch) x e.link e.device ≡ true
  pub alone : (c : ℕ) → follows_over (plan_numbered setting epoch) x e.link c ≡ true → c ≡ e.device
  pub known : (e.link < length setting.net.links) × (e.device < length setting.net.devices)
  pub apart : e.device ≡ source → ⊥
  pub link_whole : link_has_failed (seen_of start.earlier) e.link ≡ false
  pub is_up_ : is_up (seen_of start.earlier) e.device ≡ true
  pub lasts : (q : Moment) → IsIn q steps → IsBefore start q → latest_reference (seen_of q.earlier) ≤ limit
      → (fails (thing.Device x) q.step.seen.event ≡ false) × (fails (thing.Device e.device) q.step.seen.event ≡ false)
      × (fails (thing.Link e.link) q.step.seen.event ≡ false)
  pub ready : (q : Moment) → IsIn q steps → IsBefore start q → when q ≤ limit → (past : Past) → past_in q.earlier e.device ≡ Some past
      → IsReady past epoch e.link

-- between the two moments the device is not made anew, and no entering receipt of it comes
abbrev pub IsUnbroken : Moment → Moment → ℕ → Type 0
IsUnbroken p q d =
    (r : Moment) → IsIn r q.earlier → IsBefore p r → (remakes d r.step.act ≡ false)
    × ((past : Past) (call : Call) → r.step.act ≡ Calls d call → past_in r.earlier d ≡ Some past → EntersNot past call)

-- emissions of one term are of one device, with nothing in between that breaks its acting
abbrev pub IsOneLife : List Step → Type 0
IsOneLife steps = (p q : Moment) → IsIn p steps → IsIn q steps → (x y : ℕ) (m n : Message) → Emits p x m → Emits q y n → m.stamp.term ≡ n.stamp.term
    → (x ≡ y) × (IsBefore p q → IsUnbroken p q x)

-- two emissions of one acting life lie at least the least time of a period apart
abbrev pub AreApart : Setting → List Step → Type 0
AreApart setting steps =
    (p q : Moment) → IsIn p steps → IsIn q steps → IsBefore p q → (d : ℕ) (m n : Message) → Emits p d m → Emits q d n → IsUnbroken p q d
    → m.stamp.term ≡ n.stamp.term
    → when p + least_low setting.net setting.net.params.period ≤ when q
