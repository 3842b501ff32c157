-- Moments of a chronicle: an event with the steps before it. A moment lies in a list of steps where its steps are what is left of the
-- list behind its newest ones. What a device sends, emits and accepts at a moment is told from its past before it.
use Rattle.std.specs.Prelude.{◌≡◌, ℕ, Bool, true, false, List, [], ◌∷◌, Some}
use Rattle.sd_plan.specs.declared.Duty.{Duty}
use Rattle.sd_plan.specs.declared.Edge.{Edge}
use Rattle.sd_history.specs.Admitted.{Admits}
use Rattle.sd_device.specs.declared.msg.Message.{Message}
use Rattle.sd_device.specs.declared.msg.Flight.{Flight}
use Rattle.sd_device.specs.msg.Stamps.{is_newer}
use Rattle.sd_device.specs.declared.Effect.TheVariants.{Send}
use Rattle.sd_device.specs.Calls.{Call, Receive, Transition, TookOver, Emitted, Past}
use Rattle.sd_device.specs.Words.{transition_of, effect_of, accepted_over, given_now, epoch_now, stamp_now, parent_edge}
use Rattle.sd_sched.specs.Events.{reference_of}
use Rattle.sd_history.specs.World.{Setting}
use Rattle.sd_history.specs.Steps.{Step, Calls}
use Rattle.sd_history.specs.Chronicle.{past_in, next_step}

-- what is left of a list behind its newest elements
pub data Tail {A : Type 0} (older : List A) : List A → Type 0 where
  whole : Tail older older
  behind : {x : A} {xs : List A} → Tail older xs → Tail older (x ∷ xs)

-- the steps are a chronicle: each is what the words say after those before it, and was accepted
abbrev pub IsChronicle : Setting → List Step → Type 0
IsChronicle setting [] = Unit {0}
IsChronicle setting (s ∷ earlier) =
    IsChronicle setting earlier × (s ≡ next_step setting earlier s.seen.event) × (Admits setting earlier s.seen.event)

-- an event with the steps before it
pub record Moment : Type 0 where
  pub step : Step
  pub earlier : List Step

-- the steps up to and with the moment
abbrev pub upto : Moment → List Step
upto p = p.step ∷ p.earlier

-- its reference
abbrev pub when : Moment → ℕ
when p = reference_of p.step.seen.event

-- the moment is one of these steps
abbrev pub IsIn : Moment → List Step → Type 0
IsIn p steps = Tail (upto p) steps

-- one moment comes before the other
abbrev pub IsBefore : Moment → Moment → Type 0
IsBefore p q = Tail (upto p) q.earlier

-- the device sends this message at the moment
pub record Sends (p : Moment) (d : ℕ) (message : Message) : Type 0 where
  pub past : Past
  pub call : Call
  pub there : past_in p.earlier d ≡ Some past
  pub act : p.step.act ≡ Calls d call
  pub effect : effect_of past call ≡ Send message

-- the transition begins a round
abbrev pub is_emission : Transition → Bool
is_emission TookOver = true
is_emission Emitted = true
is_emission _ = false

-- it sends it as an acting root
pub record Emits (p : Moment) (d : ℕ) (message : Message) : Type 0 where
  pub sends : Sends p d message
  pub emission : is_emission (transition_of sends.past sends.call) ≡ true

-- why a device of this past accepts a message over an edge: the edge is the primary one of the duty that was given to it, of the message's
-- epoch; or it leads to its parent, and the message is of its own epoch and newer than what it has seen
pub data Accepts (past : Past) (message : Message) (edge : Edge) : Type 0 where
  entering : (duty : Duty) → given_now past ≡ Some duty → duty.epoch ≡ message.epoch → duty.primary ≡ Some edge → Accepts past message edge
  following : epoch_now past ≡ message.epoch → parent_edge past ≡ Some edge → is_newer message.stamp (stamp_now past) ≡ true → Accepts past message edge

-- the device accepts this flight at the moment
pub record Receipt (p : Moment) (d : ℕ) (f : Flight) : Type 0 where
  pub past : Past
  pub counter : ℕ
  pub edge : Edge
  pub there : past_in p.earlier d ≡ Some past
  pub act : p.step.act ≡ Calls d (Receive f.link f.message counter)
  pub taken : p.step.seen.taken ≡ Some f
  pub over : accepted_over (transition_of past (Receive f.link f.message counter)) ≡ Some edge
  pub accepts : Accepts past f.message edge
  pub link : edge.link ≡ f.link
