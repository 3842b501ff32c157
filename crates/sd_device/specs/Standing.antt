-- For which lives the registers of a device stand.
use Rattle.std.specs.Prelude.{◌≡◌, ℕ, ◌||◌, [], None, is_some, max, if◌then◌else◌}
use Rattle.sd_num.specs.Lists.{map_or, find_map_or}
use Rattle.sd_device.specs.declared.registers.Registers.{Registers}
use Rattle.sd_device.specs.declared.registers.Mode.{Mode}
use Rattle.sd_device.specs.declared.registers.Mode.TheVariants.{Primary, Backup, Acting, Idle}
use Rattle.sd_device.specs.Calls.{Making, Past}
use Rattle.sd_device.specs.Living.{Life}
use Rattle.sd_device.specs.Words.{duty_now, given_now, is_acting, has_moved, is_sealed, stamp_now, is_move, accepted_over, counter_of, making_counter, sent_at, estimate_now, rates_now, heard, moved_at}
use Rattle.sd_device.specs.Lives.{past_of}

-- the life of its making alone
abbrev pub alone : Making → Life
alone making = record { making = making; calls = [] }

-- the mode of a device with this past
abbrev pub mode_of : Past → Mode
mode_of past = if is_acting past then Acting else if has_moved past then Backup else map_or (duty_now past) Idle (λ duty. Primary)

-- the counter of the latest making, accepted receipt or move
abbrev pub last_of : Past → ℕ
last_of past =
    find_map_or (λ x. if is_move x.transition || is_some (accepted_over x.transition) then counter_of x.call else None) past.did (making_counter past.making)

-- the registers that the words of the past define
abbrev pub registers_of : Past → Registers
registers_of past =
    record {
      duty = duty_now past;
      given = given_now past;
      mode = mode_of past;
      sealed = is_sealed past;
      stamp = stamp_now past;
      last = last_of past;
      sent = sent_at past;
      estimate = estimate_now past;
      rates = rates_now past;
    }

-- the registers are those of the life's past, whose receipts and moves came in the order of their counters
pub record StandsFor (registers : Registers) (life : Life) : Type 0 where
  pub are : registers ≡ registers_of (past_of life)
  pub in_order : last_of (past_of life) ≡ max (heard (past_of life)) (moved_at (past_of life))
