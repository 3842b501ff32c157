-- Traces: how a message came to a device, hop by hop, from the moment at which it was emitted.
use Rattle.std.specs.Prelude.{◌≡◌, ℕ, zero, suc, ◌+◌, true, false}
use Rattle.sd_plan.specs.declared.topo.Thing.TheVariants as thing
use Rattle.sd_device.specs.declared.msg.Stamp.{Stamp}
use Rattle.sd_device.specs.declared.msg.Message.{Message}
use Rattle.sd_device.specs.declared.msg.Flight.{Flight}
use Rattle.sd_history.specs.World.{Setting, fails, is_up, link_has_failed}
use Rattle.sd_history.specs.Steps.{seen_of}
use Rattle.sd_history.specs.Premises.{is_in_time}
use Rattle.sd_history.proofs.Among.{Among}
use Rattle.sd_safety.specs.messages.Moments.{Moment, when, IsIn, IsBefore, Emits, Receipt}

-- what sx sent at one moment d accepted at another: the flight reached, nothing cut it off, and it was as long on its way as its link allows
pub record Hop (setting : Setting) (stamp : Stamp) (epoch : ℕ) (from : Moment) (x : ℕ) (to : Moment) (d : ℕ) : Type 0 where
  pub flight : Flight
  pub sender : flight.sender ≡ x
  pub receiver : flight.receiver ≡ d
  pub carries : flight.message.stamp ≡ stamp
  pub epoch_is : flight.message.epoch ≡ epoch
  pub sent : Among flight from.step.sent
  pub sent_at : flight.sent_at ≡ when from
  pub before : IsBefore from to
  pub receipt : Receipt to d flight
  pub in_time : is_in_time setting (when to) flight ≡ true
  pub link_whole : link_has_failed (seen_of from.earlier) flight.link ≡ false
  pub receiver_up : is_up (seen_of from.earlier) d ≡ true
  pub unharmed : (q : Moment) → IsIn q to.earlier → IsBefore from q
      → (fails (thing.Link flight.link) q.step.seen.event ≡ false) × (fails (thing.Device d) q.step.seen.event ≡ false)

-- the way of a stamp in an epoch from the source, which emitted it at the first moment, over this many hops, to a device at a moment
pub data Trace (setting : Setting) (stamp : Stamp) (epoch : ℕ) (first : Moment) (source : ℕ) : ℕ → Moment → ℕ → Type 0 where
  begins : (message : Message) → Emits first source message → message.stamp ≡ stamp → message.epoch ≡ epoch
      → Trace setting stamp epoch first source zero first source
  goes_on : {m : ℕ} {from : Moment} {x : ℕ} {to : Moment} {d : ℕ} → Trace setting stamp epoch first source m from x → Hop setting stamp epoch from x to d
      → Trace setting stamp epoch first source (suc m) to d

-- a device has the stamp at a moment, and this is where it came from
pub record Traced (setting : Setting) (stamp : Stamp) (epoch : ℕ) (p : Moment) (d : ℕ) : Type 0 where
  pub hops : ℕ
  pub first : Moment
  pub source : ℕ
  pub trace : Trace setting stamp epoch first source hops p d

-- this many hops in a row, from what x sent at one moment to what d accepted at another
pub data Chain (setting : Setting) (stamp : Stamp) (epoch : ℕ) (q : Moment) (y : ℕ) : ℕ → Moment → ℕ → Type 0 where
  stands : Chain setting stamp epoch q y zero q y
  hops_on : {k : ℕ} {from : Moment} {x : ℕ} {to : Moment} {d : ℕ} → Chain setting stamp epoch q y k from x → Hop setting stamp epoch from x to d
      → Chain setting stamp epoch q y (suc k) to d

-- a place on a trace, this many hops before its end
pub record Place (setting : Setting) (stamp : Stamp) (epoch : ℕ) (first : Moment) (source m : ℕ) (p : Moment) (d k : ℕ) : Type 0 where
  pub moment : Moment
  pub device : ℕ
  pub gone : ℕ
  pub sum : gone + k ≡ m
  pub trace : Trace setting stamp epoch first source gone moment device
  pub chain : Chain setting stamp epoch moment device k p d
