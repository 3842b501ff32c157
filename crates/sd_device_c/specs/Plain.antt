-- What the plain structs hold.
use Rattle.std.specs.Prelude.{◌≡◌, ℕ, ◌+◌, ◌*◌, ◌^◌, Bool, not, nat_eq, Option, Some, None, option_map, option_and_then, if◌then◌else◌}
use Rattle.sd_num.specs.declared.Rates.{Rates}
use Rattle.sd_num.specs.declared.clock.Estimate.{Estimate}
use Rattle.sd_num.specs.declared.clock.Report.{Report}
use Rattle.sd_plan.specs.declared.Role.{Role}
use Rattle.sd_plan.specs.declared.Role.TheVariants.{Root, BackupRoot, Ordinary}
use Rattle.sd_plan.specs.declared.Edge.{Edge}
use Rattle.sd_plan.specs.declared.Duty.{Duty}
use Rattle.sd_device.specs.declared.msg.Stamp.{Stamp}
use Rattle.sd_device.specs.declared.msg.Message.{Message}
use Rattle.sd_device.specs.declared.Effect.{Effect}
use Rattle.sd_device.specs.declared.Effect.TheVariants.{Quiet, Send}
use Rattle.sd_device.specs.declared.registers.Registers.{Registers}
use Rattle.sd_device.specs.declared.registers.Mode.{Mode}
use Rattle.sd_device.specs.declared.registers.Mode.TheVariants.{Primary, Backup, Acting, Idle}
use Rattle.sd_device.specs.Limits.{IsSound}
use Rattle.sd_device_c.specs.declared.plain.PlainWide.{PlainWide}
use Rattle.sd_device_c.specs.declared.plain.PlainRates.{PlainRates}
use Rattle.sd_device_c.specs.declared.plain.PlainEdge.{PlainEdge}
use Rattle.sd_device_c.specs.declared.plain.PlainDuty.{PlainDuty}
use Rattle.sd_device_c.specs.declared.plain.PlainStamp.{PlainStamp}
use Rattle.sd_device_c.specs.declared.plain.PlainEstimate.{PlainEstimate}
use Rattle.sd_device_c.specs.declared.plain.PlainMessage.{PlainMessage}
use Rattle.sd_device_c.specs.declared.plain.PlainEffect.{PlainEffect}
use Rattle.sd_device_c.specs.declared.plain.PlainParent.{PlainParent}
use Rattle.sd_device_c.specs.declared.plain.PlainReport.{PlainReport}
use Rattle.sd_device_c.specs.declared.plain.PlainDevice.{PlainDevice}

-- a flag is set where its byte is not 0
abbrev pub flag_from : ℕ → Bool
flag_from byte = not (nat_eq byte 0)

-- the number of two halves
abbrev pub wide_from : PlainWide → ℕ
wide_from wide = wide.high * 2 ^ 64 + wide.low

-- the rates that a struct holds
abbrev pub rates_from : PlainRates → Rates
rates_from rates = record { ppm = rates.ppm; grain = rates.grain }

-- the stamp that a struct holds
abbrev pub stamp_from : PlainStamp → Stamp
stamp_from stamp = record { term = stamp.term; round = stamp.round }

-- the estimate that a struct holds
abbrev pub estimate_from : PlainEstimate → Estimate
estimate_from estimate = record { clock = wide_from estimate.clock; base = wide_from estimate.base; at = estimate.at }

-- the report that a struct holds
abbrev pub report_from : PlainReport → Report
report_from report = record { clock = wide_from report.clock; eps = wide_from report.eps }

-- the message that a struct holds
abbrev pub message_from : PlainMessage → Message
message_from message =
    record { epoch = message.epoch; stamp = stamp_from message.stamp; clock = wide_from message.clock; eps = wide_from message.eps }

-- the effect that a struct holds
abbrev pub effect_from : PlainEffect → Effect
effect_from effect = if flag_from effect.sends then Send (message_from effect.message) else Quiet

-- the parent that a struct holds, if it has one
abbrev pub parent_from : PlainParent → Option ℕ
parent_from parent = if flag_from parent.has_parent then Some parent.parent else None

-- the role of a byte, if it is one
abbrev pub role_from : ℕ → Option Role
role_from byte =
    if nat_eq byte 0 then Some Root
    else if nat_eq byte 1 then Some BackupRoot
    else if nat_eq byte 2 then Some Ordinary
    else None

-- the mode of a byte, if it is one
abbrev pub mode_from : ℕ → Option Mode
mode_from byte =
    if nat_eq byte 0 then Some Primary
    else if nat_eq byte 1 then Some Backup
    else if nat_eq byte 2 then Some Acting
    else if nat_eq byte 3 then Some Idle
    else None

-- the edge, where its flag is set
abbrev pub edge_from : ℕ → PlainEdge → Option Edge
edge_from flag edge =
    if flag_from flag
    then Some (record { parent = edge.parent; link = edge.link; bounds = record { mid = edge.mid; half = edge.half } })
    else None

-- the duty, unless the byte of its role is none
unfoldable pub duty_from : PlainDuty → Option Duty
duty_from duty =
    option_map (λ role.
    record {
      epoch = duty.epoch;
      role = role;
      primary = edge_from duty.has_primary duty.primary;
      backup = edge_from duty.has_backup duty.backup;
      period = duty.period;
      wait_first = duty.wait_first;
      wait_second = duty.wait_second;
      wait = duty.wait;
      rates = rates_from duty.rates;
    })
    (role_from duty.role)

-- the duty, where its flag is set
abbrev pub held_from : ℕ → PlainDuty → Option (Option Duty)
held_from flag duty = if flag_from flag then option_map Some (duty_from duty) else Some None

-- the registers that the struct says, unless the byte of a role or of the mode is none
unfoldable pub kept : PlainDevice → Option Registers
kept device =
    option_and_then (λ duty.
    option_and_then (λ given.
    option_map (λ mode.
    record {
      duty = duty;
      given = given;
      mode = mode;
      sealed = flag_from device.sealed;
      stamp = stamp_from device.stamp;
      last = device.last;
      sent = device.sent;
      estimate = estimate_from device.estimate;
      rates = rates_from device.rates;
    })
    (mode_from device.mode))
    (held_from device.has_given device.given))
    (held_from device.has_duty device.duty)

-- the struct holds a device with these registers, which are within the limits
pub record Holds (device : PlainDevice) (registers : Registers) : Type 0 where
  pub says : kept device ≡ Some registers
  pub sound : IsSound registers
