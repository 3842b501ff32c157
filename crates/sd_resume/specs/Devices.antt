-- When two devices agree at a counter: in normal form the registers of the first are those of the second, raised.
use Rattle.std.specs.Prelude.{◌≡◌, ◌≢◌, ℕ, ◌+◌, ◌≤◌, Option, Some, None, option_map, IfSome}
use Rattle.sd_device.specs.declared.registers.Registers.{Registers}
use Rattle.sd_device.specs.Rules.{floor_in}
use Rattle.sd_device.specs.Rebases.{normal_at}
use Rattle.sd_resume.specs.law.Shifts.{Shift, raised_duty, raised_stamp}
use Rattle.sd_resume.specs.declared.differences.Register.{Register}
use Rattle.sd_resume.specs.declared.differences.Register.TheVariants as register

-- by how much a rebase lowered the counters, they are raised again
abbrev pub raised_by : ℕ → Registers → Registers
raised_by by r =
    record r {
      last = r.last + by;
      sent = r.sent + by;
      estimate = record { clock = r.estimate.clock; base = r.estimate.base; at = r.estimate.at + by };
    }

-- the registers that bear no number of a history are the same
pub record OthersAgree (one other : Registers) : Type 0 where
  pub mode : one.mode ≡ other.mode
  pub sealed : one.sealed ≡ other.sealed
  pub rates : one.rates ≡ other.rates
  pub last : one.last ≡ other.last
  pub sent : one.sent ≡ other.sent
  pub estimate : one.estimate ≡ other.estimate

-- The registers of the first are those of the second, raised. The stamp of a device that follows no plan is never read.
pub record RegistersAgree (shift : Shift) (one other : Registers) : Type 0 where
  pub duty : one.duty ≡ option_map (raised_duty shift) other.duty
  pub given : one.given ≡ option_map (raised_duty shift) other.given
  pub stamp : IfSome other.duty (λ duty. one.stamp ≡ raised_stamp shift other.stamp)
  pub others : OthersAgree one other

-- this register is not the same
abbrev pub OtherDiffers : (one other : Registers) → Register → Type 0
OtherDiffers one other register.Mode = one.mode ≢ other.mode
OtherDiffers one other register.Sealed = one.sealed ≢ other.sealed
OtherDiffers one other register.Rates = one.rates ≢ other.rates
OtherDiffers one other register.Last = one.last ≢ other.last
OtherDiffers one other register.Sent = one.sent ≢ other.sent
OtherDiffers one other register.Estimate = one.estimate ≢ other.estimate
OtherDiffers one other _ = ⊥

-- this register of the first is not that of the second, raised
abbrev pub RegisterDiffers : Shift → (one other : Registers) → Register → Type 0
RegisterDiffers shift one other register.Duty = one.duty ≢ option_map (raised_duty shift) other.duty
RegisterDiffers shift one other register.Given = one.given ≢ option_map (raised_duty shift) other.given
RegisterDiffers shift one other register.Stamp = (other.duty ≢ None) × (one.stamp ≢ raised_stamp shift other.stamp)
RegisterDiffers shift one other x = OtherDiffers one other x

-- two devices agree at a counter that neither has passed
pub record DevicesAgree (shift : Shift) (now : ℕ) (one other : Registers) : Type 0 where
  pub registers : RegistersAgree shift (normal_at one now) (normal_at other now)
  pub floor : floor_in one ≤ now
  pub floor_other : floor_in other ≤ now

-- both are there and agree
abbrev pub NodesAgree : Shift → ℕ → Option Registers → Option Registers → Type 0
NodesAgree shift now (Some one) (Some other) = DevicesAgree shift now one other
NodesAgree shift now _ _ = ⊥

-- both are there and differ in this register
abbrev pub NodesDiffer : Shift → ℕ → Register → Option Registers → Option Registers → Type 0
NodesDiffer shift now register (Some one) (Some other) = RegisterDiffers shift (normal_at one now) (normal_at other now) register
NodesDiffer shift now register _ _ = ⊥
