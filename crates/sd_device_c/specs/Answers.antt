-- What the answers of the exports say, and what a call makes of a struct.
use Rattle.std.specs.Prelude.{◌≡◌, ◌≢◌, ◌↔◌, ◌⊎◌, ℕ, Some}
use Rattle.sd_plan.specs.declared.Duty.{Duty}
use Rattle.sd_device.specs.declared.Effect.{Effect}
use Rattle.sd_device.specs.declared.registers.Registers.{Registers}
use Rattle.sd_device.specs.Calls.{Making, Started, Joined, Call, Give, Past}
use Rattle.sd_device.specs.Limits.{IsDuty}
use Rattle.sd_exports.specs.Exports as exports
use Rattle.sd_device_c.specs.declared.plain.PlainDevice.{PlainDevice}
use Rattle.sd_device_c.specs.declared.faults.Fault.{Fault}
use Rattle.sd_device_c.specs.declared.faults.Fault.TheVariants.{NoDevice, NoDuty}
use Rattle.sd_device_c.specs.declared.plain.PlainDuty.{PlainDuty}
use Rattle.sd_device_c.specs.declared.plain.PlainRates.{PlainRates}
use Rattle.sd_device_c.specs.Plain.{Holds, duty_from, rates_from}
use Rattle.sd_device_c.specs.Faults.{code_of}
use Rattle.sd_device_c.specs.Owed.{Owes, OwesToReport, OwesToMake}

-- the answer is 0 exactly where the call may be made, and else the code of a fault that is true of it
pub record IsAnswerFor (answer : ℕ) (May : Type 0) (Has : Fault → Type 0) : Type 0 where
  pub done : (answer ≡ 0) ↔ May
  pub refused : answer ≢ 0 → (fault : Fault) × (answer ≡ code_of fault) × Has fault

-- the struct holds a device
abbrev pub IsDevice : PlainDevice → Type 0
IsDevice device = (r : Registers) × Holds device r

-- the struct holds a device, and all that is owed of it holds
abbrev pub Pays : PlainDevice → (Fault → Registers → Type 0) → Type 0
Pays device Owed = (r : Registers) × Holds device r × ((fault : Fault) → Owed fault r)

-- the struct holds no device, or what the fault names is owed and does not hold
abbrev pub Fails : Fault → PlainDevice → (Fault → Registers → Type 0) → Type 0
Fails fault device Owed =
    ((fault ≡ NoDevice) × (IsDevice device → ⊥))
    ⊎ ((r : Registers) × Holds device r × (Owed fault r → ⊥))

-- the struct holds a device that may be called so
abbrev pub MayCall : PlainDevice → Call → Type 0
MayCall device call = Pays device (λ fault r. Owes fault r call)

-- the fault is one of this call
abbrev pub HasFault : PlainDevice → Call → Fault → Type 0
HasFault device call fault = Fails fault device (λ f r. Owes f r call)

-- the struct holds a device that may report or be rebased at this counter
abbrev pub MayReport : PlainDevice → ℕ → Type 0
MayReport device counter = Pays device (λ fault r. OwesToReport fault r counter)

-- the fault is one of a report or a rebase at this counter
abbrev pub HasReportFault : PlainDevice → ℕ → Fault → Type 0
HasReportFault device counter fault = Fails fault device (λ f r. OwesToReport f r counter)

-- the fault says that the struct holds no device
abbrev pub IsNoDevice : PlainDevice → Fault → Type 0
IsNoDevice device fault = (fault ≡ NoDevice) × (IsDevice device → ⊥)

-- What the calls make of a struct and tell of it is as in sd_exports, of the registers that the struct holds.

-- the call was made of the device
abbrev pub IsCalled : PlainDevice → Call → PlainDevice → Effect → Type 0
IsCalled old call new effect = exports.IsCalled Holds old call new effect

-- a device was made
abbrev pub IsMade : Making → PlainDevice → Type 0
IsMade making new = exports.IsMade Holds making new

-- the device was rebased at this counter by this much
abbrev pub IsRebased : PlainDevice → ℕ → PlainDevice → ℕ → Type 0
IsRebased old now new by = exports.IsRebased Holds old now new by

-- what is told of the device: by its registers, and by its life
abbrev pub IsToldOf : {T : Type 0} → PlainDevice → (Registers → T) → (Past → T) → T → Type 0
IsToldOf device by_rules by_words told = exports.IsToldOf Holds device by_rules by_words told

-- it is a duty, and what a start with it owes holds
abbrev pub MayStart : PlainDuty → (counter clock eps : ℕ) → Type 0
MayStart plain counter clock eps =
    (duty : Duty) × (duty_from plain ≡ Some duty) × ((fault : Fault) → OwesToMake fault (Started duty counter clock eps))

-- it is no duty within the limits
abbrev pub IsNoDuty : PlainDuty → Type 0
IsNoDuty plain = (duty : Duty) → duty_from plain ≡ Some duty → IsDuty duty → ⊥

-- the fault is one of this start
abbrev pub HasStartFault : PlainDuty → (counter clock eps : ℕ) → Fault → Type 0
HasStartFault plain counter clock eps fault =
    ((fault ≡ NoDuty) × IsNoDuty plain)
    ⊎ ((duty : Duty) × (duty_from plain ≡ Some duty) × (OwesToMake fault (Started duty counter clock eps) → ⊥))

-- what a join with these rates owes holds
abbrev pub MayJoin : PlainRates → (counter clock eps : ℕ) → Type 0
MayJoin rates counter clock eps = (fault : Fault) → OwesToMake fault (Joined (rates_from rates) counter clock eps)

-- the fault is one of this join
abbrev pub HasJoinFault : PlainRates → (counter clock eps : ℕ) → Fault → Type 0
HasJoinFault rates counter clock eps fault = OwesToMake fault (Joined (rates_from rates) counter clock eps) → ⊥

-- it is a duty, and may be given to the device
abbrev pub MayGive : PlainDevice → PlainDuty → Type 0
MayGive device plain = (duty : Duty) × (duty_from plain ≡ Some duty) × MayCall device (Give duty)

-- the fault is one of this give
abbrev pub HasGiveFault : PlainDevice → PlainDuty → Fault → Type 0
HasGiveFault device plain fault =
    ((fault ≡ NoDevice) × (IsDevice device → ⊥)) ⊎ ((fault ≡ NoDuty) × IsNoDuty plain)
