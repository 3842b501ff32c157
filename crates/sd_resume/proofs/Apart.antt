-- Registers that agree differ in none of them, and duties of which one is not the other, raised.
use Rattle.std.specs.Prelude.{◌≡◌, ◌≢◌, ℕ, Option, Some, None, IfSome}
use Rattle.std.proofs.Common.{refl, ap}
use Rattle.sd_plan.specs.declared.Duty.{Duty}
use Rattle.sd_device.specs.declared.registers.Registers.{Registers}
use Rattle.sd_device.specs.Rebases.{normal_at}
use Rattle.sd_resume.specs.law.Shifts.{Shift, raised_stamp}
use Rattle.sd_resume.specs.declared.differences.Register.{Register}
use Rattle.sd_resume.specs.declared.differences.Register.TheVariants as register
use Rattle.sd_resume.specs.Duties.{SameTimes}
use Rattle.sd_resume.specs.Devices.{RegistersAgree, RegisterDiffers, NodesAgree, NodesDiffer}

-- Duties

-- duties with the same parents and times are equal but for the numbers of their plans
pub otherwise_same : (one other : Duty) → one.role ≡ other.role → one.primary ≡ other.primary → one.backup ≡ other.backup → SameTimes one other
    → one ≡ record other { epoch = one.epoch }
otherwise_same one other role primary backup times =
    rw (← role, ← primary, ← backup, ← times.period, ← times.wait, ← times.wait_first, ← times.wait_second, ← times.rates) refl

pub otherwise_times : (one other : Duty) → one ≡ record other { epoch = one.epoch } → SameTimes one other
otherwise_times one other same =
    record {
      period = ap (λ (d : Duty). d.period) same;
      wait = ap (λ (d : Duty). d.wait) same;
      wait_first = ap (λ (d : Duty). d.wait_first) same;
      wait_second = ap (λ (d : Duty). d.wait_second) same;
      rates = ap (λ (d : Duty). d.rates) same;
    }

-- Registers

-- where they agree, they differ in none
not_apart : (shift : Shift) (one other : Registers) → RegistersAgree shift one other → (x : Register) → RegisterDiffers shift one other x → ⊥
not_apart shift one other agree register.Duty h = h agree.duty
not_apart shift one other agree register.Given h = h agree.given
not_apart shift one other agree register.Stamp h = by other.duty agree.stamp h.0
  where
    by : (o : Option Duty) → IfSome o (λ duty. one.stamp ≡ raised_stamp shift other.stamp) → o ≢ None → ⊥
    by (Some duty) same there = h.1 same
    by None same there = there refl
not_apart shift one other agree register.Mode h = h agree.others.mode
not_apart shift one other agree register.Sealed h = h agree.others.sealed
not_apart shift one other agree register.Rates h = h agree.others.rates
not_apart shift one other agree register.Last h = h agree.others.last
not_apart shift one other agree register.Sent h = h agree.others.sent
not_apart shift one other agree register.Estimate h = h agree.others.estimate

pub nodes_not_apart : (shift : Shift) (now : ℕ) (x : Register) (one other : Option Registers) → NodesAgree shift now one other
    → NodesDiffer shift now x one other → ⊥
nodes_not_apart shift now x (Some one) (Some other) agree h = not_apart shift (normal_at one now) (normal_at other now) agree.registers x h
nodes_not_apart shift now x (Some one) None agree h = agree
nodes_not_apart shift now x None (Some other) agree h = agree
nodes_not_apart shift now x None None agree h = agree
