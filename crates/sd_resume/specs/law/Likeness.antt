-- When two devices answer alike from a counter on, where the numbers of the second are raised to those of the first.
use Rattle.std.specs.Prelude.{◌≡◌, ℕ, ◌≤◌, Option, Some, IfSome, true}
use Rattle.sd_num.specs.declared.clock.Estimate.{Estimate}
use Rattle.sd_num.specs.clock.Estimates.{report_of}
use Rattle.sd_device.specs.declared.msg.Stamp.{Stamp}
use Rattle.sd_device.specs.Rules.{is_acting_mode}
use Rattle.sd_device.specs.Rebases.{waits_in}
use Rattle.sd_device.specs.declared.registers.Registers.{Registers}
use Rattle.sd_num.specs.declared.Rates.{Rates}
use Rattle.sd_resume.specs.law.Shifts.{Shift, raised_stamp, raised_registers}

-- two estimates report the same at each counter from this one on
abbrev pub ReportsAlike : (now : ℕ) → Rates → (one other : Estimate) → Type 0
ReportsAlike now rates one other = (counter : ℕ) → now ≤ counter → report_of rates one counter ≡ report_of rates other counter

-- The registers of the first are those of the second, raised. The counter since which a device waits is the same where it can move or take over,
-- and the counter at which it sent where it acts as root. The stamp of a device that follows no plan is never read, and of the estimate only the
-- reports are.
pub record IsAlike (shift : Shift) (now : ℕ) (one other : Registers) : Type 0 where
  pub last : ℕ
  pub sent : ℕ
  pub stamp : Stamp
  pub estimate : Estimate
  pub kept : one ≡ raised_registers shift other last sent stamp estimate
  pub waited : waits_in other ≡ true → last ≡ other.last
  pub emitted : is_acting_mode other.mode ≡ true → sent ≡ other.sent
  pub stamps : IfSome other.duty (λ duty. stamp ≡ raised_stamp shift other.stamp)
  pub reports : ReportsAlike now other.rates estimate other.estimate

-- both devices are there and are alike
abbrev pub AreAlike : Shift → ℕ → Option Registers → Option Registers → Type 0
AreAlike shift now (Some one) (Some other) = IsAlike shift now one other
AreAlike shift now _ _ = ⊥
