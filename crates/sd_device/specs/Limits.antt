-- The limits of what a device is told, and what is true of its registers at any time.
use Rattle.std.specs.Prelude.{◌≡◌, ℕ, ◌≤◌, ◌^◌, None, IfSome}
use Rattle.sd_plan.specs.topo.Limits.{IsRates}
use Rattle.sd_plan.specs.declared.Duty.{Duty}
use Rattle.sd_plan.specs.declared.Edge.{Edge}
use Rattle.sd_device.specs.declared.msg.Message.{Message}
use Rattle.sd_device.specs.declared.Effect.{Effect}
use Rattle.sd_device.specs.declared.Effect.TheVariants.{Quiet, Send}
use Rattle.sd_device.specs.declared.registers.Registers.{Registers}
use Rattle.sd_device.specs.declared.registers.Mode.TheVariants.{Idle}

-- an edge whose delay bounds are within the limits
pub record IsEdge (edge : Edge) : Type 0 where
  pub mid : edge.bounds.mid ≤ 10 ^ 12
  pub half : edge.bounds.half ≤ 10 ^ 12

-- a duty within the limits
pub record IsDuty (duty : Duty) : Type 0 where
  pub epoch : 1 ≤ duty.epoch
  pub rates : IsRates duty.rates
  pub primary : IfSome duty.primary IsEdge
  pub backup : IfSome duty.backup IsEdge

-- what is true of a device's registers at any time
pub record IsSound (r : Registers) : Type 0 where
  pub duty : IfSome r.duty IsDuty
  pub given : IfSome r.given IsDuty
  pub rates : IsRates r.rates
  pub idle : r.duty ≡ None → r.mode ≡ Idle

-- this of the message that is sent, if one is
abbrev pub IfSent : Effect → (Message → Type 0) → Type 0
IfSent Quiet P = Unit {0}
IfSent (Send message) P = P message

-- clock and uncertainty of the message are at most so great
pub record IsUpTo (most : ℕ) (message : Message) : Type 0 where
  pub clock : message.clock ≤ most
  pub eps : message.eps ≤ most

-- term and round of the message are at most so great
pub record IsAsHighAs (most : ℕ) (message : Message) : Type 0 where
  pub term : message.stamp.term ≤ most
  pub round : message.stamp.round ≤ most
