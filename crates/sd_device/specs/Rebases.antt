-- A rebase: the counters that a device keeps are lowered, and none of its later answers changes.
use Rattle.std.specs.Prelude.{◌≡◌, ◌≢◌, ℕ, ◌+◌, ◌-◌, ◌≤◌, Bool, false, List, [], ◌∷◌, max, min, is_some, IfSome, if◌then◌else◌}
use Rattle.sd_num.specs.Lists.{map_or}
use Rattle.sd_num.specs.clock.Advances.{advanced}
use Rattle.sd_device.specs.declared.registers.Registers.{Registers}
use Rattle.sd_device.specs.declared.registers.Mode.TheVariants.{Primary, Backup}
use Rattle.sd_device.specs.Calls.{Call, Tick, Receive, Fix, Give, Commit, Seal}
use Rattle.sd_device.specs.Living.{Life}
use Rattle.sd_device.specs.Words.{wait_to_move, counter_of}
use Rattle.sd_device.specs.Rules.{is_backup_root, is_acting_mode, report_in, floor_in, called}
use Rattle.sd_device.specs.Standing.{StandsFor}

-- a silence makes the device move or take over, so that it needs its register last
abbrev pub waits_in : Registers → Bool
waits_in r =
    elim r.mode [
      | Primary ↦ map_or r.duty false (λ duty. is_some (wait_to_move duty))
      | Backup ↦ map_or r.duty false is_backup_root
      | _ ↦ false
    ]

-- the registers in their normal form at a counter: last and sent are now where nothing needs them, and the estimate is advanced
abbrev pub normal_at : Registers → ℕ → Registers
normal_at r now =
    record r {
      last = if waits_in r then r.last else now;
      sent = if is_acting_mode r.mode then r.sent else now;
      estimate = advanced r.rates r.estimate now;
    }

-- the least of the counters that are kept
abbrev pub least_in : Registers → ℕ
least_in r = min (min r.last r.sent) r.estimate.at

-- the registers with each counter lowered by this much
abbrev pub lowered : ℕ → Registers → Registers
lowered by r =
    record r {
      last = r.last - by;
      sent = r.sent - by;
      estimate = record { clock = r.estimate.clock; base = r.estimate.base; at = r.estimate.at - by };
    }

-- by how much a rebase at this counter lowers the counters
abbrev pub lowering : Registers → ℕ → ℕ
lowering r now = least_in (normal_at r now)

-- the registers after a rebase at this counter
abbrev pub rebased : Registers → ℕ → Registers
rebased r now = lowered (lowering r now) (normal_at r now)

-- the call at a counter that is lowered by this much
abbrev pub call_lowered : ℕ → Call → Call
call_lowered by (Tick counter) = Tick (counter - by)
call_lowered by (Receive link message counter) = Receive link message (counter - by)
call_lowered by (Fix counter clock eps) = Fix (counter - by) clock eps
call_lowered by (Give duty) = Give duty
call_lowered by (Commit counter) = Commit (counter - by)
call_lowered by Seal = Seal

-- a commit takes up a duty of the rate that the device has, unless its estimate was set since the rebase
abbrev pub IsSteady : (by : ℕ) (r lower : Registers) → Call → Type 0
IsSteady by r lower (Commit counter) = r.estimate.at ≢ lower.estimate.at + by → IfSome r.given (λ duty. duty.rates.ppm ≡ r.rates.ppm)
IsSteady by r lower _ = Unit {0}

-- the second device answers as the first from this counter on, at counters that are lowered by this much
pub record TellsAlike (by now : ℕ) (r lower : Registers) : Type 0 where
  pub kept : lower ≡ record r { last = lower.last; sent = lower.sent; estimate = lower.estimate }
  pub report : (counter : ℕ) → now ≤ counter → report_in lower (counter - by) ≡ report_in r counter
  pub floor : floor_in lower + by ≤ max now (floor_in r)
  pub at : r.estimate.at ≤ lower.estimate.at + by

-- The second answers as the first now, and to each of these calls, in the order in which they come. Each call has a counter from now on.
abbrev pub AnswersAlike : (by now : ℕ) → List Call → (r lower : Registers) → Type 0
AnswersAlike by now [] r lower = TellsAlike by now r lower
AnswersAlike by now (call ∷ later) r lower =
    TellsAlike by now r lower
    × (IfSome (counter_of call) (λ counter. now ≤ counter) → IsSteady by r lower call
    → ((called lower (call_lowered by call)).1 ≡ (called r call).1) × AnswersAlike by now later (called r call).0 (called lower (call_lowered by call)).0)

-- the device answers as one that stands for this life, from this counter on, at counters that are lowered by this much
pub record StandsLowered (by now : ℕ) (lower : Registers) (life : Life) : Type 0 where
  pub one : Registers
  pub stands : StandsFor one life
  pub small : by ≤ now
  pub alike : (later : List Call) → AnswersAlike by now later one lower
