-- The rules of a device over its registers: what it decides at each call, and what it then does.
use Rattle.std.specs.Prelude.{ℕ, ◌+◌, ◌-◌, Bool, true, false, ◌&&◌, nat_eq, nat_le, max, Option, Some, None, option_map, option_and_then, if◌then◌else◌}
use Rattle.sd_num.specs.Lists.{map_or}
use Rattle.sd_plan.specs.declared.Duty.{Duty}
use Rattle.sd_plan.specs.declared.Edge.{Edge}
use Rattle.sd_plan.specs.declared.Role.TheVariants as role
use Rattle.sd_num.specs.declared.clock.Report.{Report}
use Rattle.sd_num.specs.clock.Estimates.{estimate_at, corrected, report_of}
use Rattle.sd_device.specs.declared.msg.Message.{Message}
use Rattle.sd_device.specs.msg.Stamps.{stamp, is_newer, carried, message_of}
use Rattle.sd_device.specs.declared.Effect.{Effect}
use Rattle.sd_device.specs.declared.Effect.TheVariants.{Quiet, Send}
use Rattle.sd_device.specs.declared.registers.Registers.{Registers}
use Rattle.sd_device.specs.declared.registers.Mode.{Mode}
use Rattle.sd_device.specs.declared.registers.Mode.TheVariants.{Primary, Backup, Acting, Idle}
use Rattle.sd_device.specs.declared.turns.Turn.{Turn}
use Rattle.sd_device.specs.declared.turns.Turn.TheVariants.{Emit, TakeOver, Move, Stay}
use Rattle.sd_device.specs.Calls.{Making, Started, Joined, Call, Tick, Receive, Fix, Give, Commit, Seal}
use Rattle.sd_device.specs.Words.{wait_to_move, over_link}

-- the number of the plan that the device follows, 0 where it follows none
abbrev pub epoch_in : Registers → ℕ
epoch_in r = map_or r.duty 0 (λ duty. duty.epoch)

-- the edge to the present parent
abbrev pub edge_in : Registers → Option Edge
edge_in r =
    elim r.mode [
      | Primary ↦ map_or r.duty None (λ duty. duty.primary)
      | Backup ↦ map_or r.duty None (λ duty. duty.backup)
      | _ ↦ None
    ]

-- a device in this mode acts as root
abbrev pub is_acting_mode : Mode → Bool
is_acting_mode Acting = true
is_acting_mode _ = false

-- a device of epoch 0 has no parent and does not act
abbrev pub follows_a_plan : Registers → Bool
follows_a_plan r = nat_le 1 (epoch_in r)

-- the present parent
abbrev pub parent_in : Registers → Option ℕ
parent_in r = if follows_a_plan r then option_map (λ edge. edge.parent) (edge_in r) else None

-- the device acts as root
abbrev pub acts_in : Registers → Bool
acts_in r = if follows_a_plan r then is_acting_mode r.mode else false

-- the greatest of the counters that are kept
abbrev pub floor_in : Registers → ℕ
floor_in r = max (max r.last r.sent) r.estimate.at

-- the greater of the kept clock and its uncertainty
abbrev pub ceiling_in : Registers → ℕ
ceiling_in r = max r.estimate.clock r.estimate.base

-- the greater of the kept term and round
abbrev pub height_in : Registers → ℕ
height_in r = max r.stamp.term r.stamp.round

-- what the device reports at a counter
abbrev pub report_in : Registers → ℕ → Report
report_in r counter = report_of r.rates r.estimate counter

-- the mode after a start with this duty
abbrev pub first_mode : Duty → Mode
first_mode duty = elim duty.role [ role.Root ↦ Acting | _ ↦ Primary ]

-- what a start and a join make
abbrev pub made : Making → Registers
made (Started duty counter clock eps) =
    record {
      duty = Some duty;
      given = None;
      mode = first_mode duty;
      sealed = true;
      stamp = stamp 0 0;
      last = counter;
      sent = counter;
      estimate = estimate_at clock eps counter;
      rates = duty.rates;
    }
made (Joined rates counter clock eps) =
    record {
      duty = None;
      given = None;
      mode = Idle;
      sealed = true;
      stamp = stamp 0 0;
      last = counter;
      sent = counter;
      estimate = estimate_at clock eps counter;
      rates = rates;
    }

-- the duty is that of the backup root
abbrev pub is_backup_root : Duty → Bool
is_backup_root duty = elim duty.role [ role.BackupRoot ↦ true | _ ↦ false ]

-- so long nothing was heard on the primary parent that the device moves
abbrev pub silence_to_move : Registers → ℕ → Duty → Bool
silence_to_move r counter duty = map_or (wait_to_move duty) false (λ wait. nat_le wait (counter - r.last))

-- what a tick does
abbrev pub turn_with : Registers → ℕ → Duty → Turn
turn_with r counter duty =
    elim r.mode [
      | Acting ↦ if nat_le duty.period (counter - r.sent) then Emit else Stay
      | Backup ↦ if r.sealed && is_backup_root duty && nat_le duty.wait_second (counter - r.last) then TakeOver else Stay
      | Primary ↦ if r.sealed && silence_to_move r counter duty then Move else Stay
      | Idle ↦ Stay
    ]

-- what a tick at this counter is to the device: with no duty, nothing
abbrev pub turn_of : Registers → ℕ → Turn
turn_of r counter = map_or r.duty Stay (turn_with r counter)

-- the registers stay, and nothing is sent
abbrev pub quietly : Registers → Registers × Effect
quietly r = (r, Quiet)

-- it sends its report
abbrev pub reporting : Registers → ℕ → Registers × Effect
reporting r counter = (r, Send (message_of (epoch_in r) r.stamp (report_in r counter)))

-- what a tick does, by the turn that it is
abbrev pub turned : Registers → ℕ → Turn → Registers × Effect
turned r counter Emit = reporting (record r { stamp = stamp r.stamp.term (r.stamp.round + 1); sent = counter }) counter
turned r counter TakeOver = reporting (record r { mode = Acting; stamp = stamp (r.stamp.term + 1) 1; sent = counter }) counter
turned r counter Move = quietly (record r { mode = Backup; last = counter })
turned r counter Stay = quietly r

-- the given duty with its primary edge, where the message came over it and is of the duty's epoch
abbrev pub entering : Registers → ℕ → Message → Option (Duty × Edge)
entering r link message =
    option_and_then (λ duty.
    if nat_eq duty.epoch message.epoch then option_map (λ edge. (duty, edge)) (option_and_then (over_link link) duty.primary) else None)
    r.given

-- the edge to the present parent, where the message came over it, is of the device's epoch and is newer than what it has seen
abbrev pub accepting : Registers → ℕ → Message → Option Edge
accepting r link message =
    if nat_eq (epoch_in r) message.epoch && is_newer message.stamp r.stamp then option_and_then (over_link link) (edge_in r) else None

-- it accepts the message over the edge, and relays its estimate
abbrev pub accepted : Registers → Edge → Message → ℕ → Registers × Effect
accepted r edge message counter =
    let estimate = corrected (carried message) edge.bounds counter in (
      record r { stamp = message.stamp; estimate = estimate; last = counter },
      Send (message_of (epoch_in r) message.stamp (record { clock = estimate.clock; eps = estimate.base })),
    )

-- it takes up a duty, and is not sealed any more
abbrev pub with_duty : Registers → Duty → Registers
with_duty r duty = record r { duty = Some duty; given = None; sealed = false; rates = duty.rates }

-- the registers once a duty is taken up
abbrev pub entered : Registers → Duty → Registers
entered r duty = record r { duty = Some duty; given = None; mode = Primary; sealed = false; rates = duty.rates }

-- what a receipt does
abbrev pub received : Registers → ℕ → Message → ℕ → Registers × Effect
received r link message counter =
    map_or (entering r link message)
    (map_or (accepting r link message) (quietly r) (λ edge. accepted r edge message counter))
    (λ by. accepted (entered r by.0) by.1 message counter)

-- it takes up a duty as root: where it acted already, its stamp goes on
abbrev pub committed : Registers → ℕ → Duty → Registers
committed r counter duty =
    if is_acting_mode r.mode
    then with_duty r duty
    else record r { duty = Some duty; given = None; mode = Acting; sealed = false; stamp = stamp (r.stamp.term + 1) 0; sent = counter; rates = duty.rates }

-- what a call makes of the registers, and what it sends
abbrev pub called : Registers → Call → Registers × Effect
called r (Tick counter) = turned r counter (turn_of r counter)
called r (Receive link message counter) = received r link message counter
called r (Fix counter clock eps) = quietly (record r { estimate = estimate_at clock eps counter })
called r (Give duty) = quietly (record r { given = Some duty })
called r (Commit counter) = quietly (map_or r.given r (committed r counter))
called r Seal = quietly (record r { sealed = true })
