-- What a call owes, by the fault that is answered where it does not hold.
use Rattle.std.specs.Prelude.{◌≡◌, ℕ, ◌≤◌, ◌<◌, ◌^◌, Some, option_map, IfSome}
use Rattle.sd_plan.specs.topo.Limits.{IsRates}
use Rattle.sd_plan.specs.declared.Role.TheVariants as role
use Rattle.sd_device.specs.declared.msg.Message.{Message}
use Rattle.sd_device.specs.declared.msg.Stamp.{Stamp}
use Rattle.sd_device.specs.declared.registers.Registers.{Registers}
use Rattle.sd_device.specs.Calls.{Making, Started, Joined, Call, Tick, Receive, Fix, Give, Commit}
use Rattle.sd_device.specs.Words.{counter_of}
use Rattle.sd_device.specs.Rules.{floor_in, ceiling_in}
use Rattle.sd_device.specs.Limits.{IsDuty}
use Rattle.sd_device_c.specs.declared.faults.Fault.{Fault}
use Rattle.sd_device_c.specs.declared.faults.Fault.TheVariants.{NoDuty, RatesTooGreat, CounterFell, ClockTooGreat, EstimateTooGreat, StampTooGreat, MessageTooGreat, NotRoot}

-- a message that a device may be given
pub record IsModest (message : Message) : Type 0 where
  pub clock : message.clock < 2 ^ 100
  pub eps : message.eps < 2 ^ 100
  pub term : message.stamp.term < 2 ^ 31
  pub round : message.stamp.round < 2 ^ 62

-- a stamp that can be counted on
pub record IsCountable (stamp : Stamp) : Type 0 where
  pub term : stamp.term < 2 ^ 31
  pub round : stamp.round < 2 ^ 62

-- a clock and its uncertainty, set from outside
pub record IsSetting (clock eps : ℕ) : Type 0 where
  pub clock_fits : clock < 2 ^ 100
  pub eps_fits : eps < 2 ^ 100

-- a duty that is given is within the limits
abbrev pub OwesDuty : Call → Type 0
OwesDuty (Give duty) = IsDuty duty
OwesDuty _ = Unit {0}

-- a fix sets a clock within the limits
abbrev pub OwesSetting : Call → Type 0
OwesSetting (Fix counter clock eps) = IsSetting clock eps
OwesSetting _ = Unit {0}

-- the estimate is used by a tick
abbrev pub OwesEstimate : Registers → Call → Type 0
OwesEstimate r (Tick counter) = ceiling_in r < 2 ^ 100
OwesEstimate r _ = Unit {0}

-- the stamp is counted on by a tick, and its term by a commit
abbrev pub OwesStamp : Registers → Call → Type 0
OwesStamp r (Tick counter) = IsCountable r.stamp
OwesStamp r (Commit counter) = r.stamp.term < 2 ^ 31
OwesStamp r _ = Unit {0}

-- a message that is received is within the limits
abbrev pub OwesMessage : Call → Type 0
OwesMessage (Receive link message counter) = IsModest message
OwesMessage _ = Unit {0}

-- a commit is made by the root of the given duty
abbrev pub OwesRoot : Registers → Call → Type 0
OwesRoot r (Commit counter) = option_map (λ duty. duty.role) r.given ≡ Some role.Root
OwesRoot r _ = Unit {0}

-- what a call of a device with these registers owes
abbrev pub Owes : Fault → Registers → Call → Type 0
Owes NoDuty r call = OwesDuty call
Owes CounterFell r call = IfSome (counter_of call) (λ counter. floor_in r ≤ counter)
Owes ClockTooGreat r call = OwesSetting call
Owes EstimateTooGreat r call = OwesEstimate r call
Owes StampTooGreat r call = OwesStamp r call
Owes MessageTooGreat r call = OwesMessage call
Owes NotRoot r call = OwesRoot r call
Owes _ r call = Unit {0}

-- what a report and a rebase at this counter owe
abbrev pub OwesToReport : Fault → Registers → ℕ → Type 0
OwesToReport CounterFell r counter = floor_in r ≤ counter
OwesToReport EstimateTooGreat r counter = ceiling_in r < 2 ^ 100
OwesToReport _ r counter = Unit {0}

-- the duty of a start is within the limits
abbrev pub OwesFirstDuty : Making → Type 0
OwesFirstDuty (Started duty counter clock eps) = IsDuty duty
OwesFirstDuty (Joined rates counter clock eps) = Unit {0}

-- the rates of a join are within the limits
abbrev pub OwesRates : Making → Type 0
OwesRates (Started duty counter clock eps) = Unit {0}
OwesRates (Joined rates counter clock eps) = IsRates rates

-- the clock of a start or a join is within the limits
abbrev pub OwesFirstSetting : Making → Type 0
OwesFirstSetting (Started duty counter clock eps) = IsSetting clock eps
OwesFirstSetting (Joined rates counter clock eps) = IsSetting clock eps

-- a start or a join with this clock and its uncertainty
abbrev pub SetsTo : Making → (clock eps : ℕ) → Type 0
SetsTo (Started duty counter first base) clock eps = (first ≡ clock) × (base ≡ eps)
SetsTo (Joined rates counter first base) clock eps = (first ≡ clock) × (base ≡ eps)

-- what a start or a join owes
abbrev pub OwesToMake : Fault → Making → Type 0
OwesToMake NoDuty making = OwesFirstDuty making
OwesToMake RatesTooGreat making = OwesRates making
OwesToMake ClockTooGreat making = OwesFirstSetting making
OwesToMake _ making = Unit {0}
