-- What two duties may have in common beside their parents.
use Rattle.std.specs.Prelude.{◌≡◌}
use Rattle.sd_plan.specs.declared.Duty.{Duty}

-- the same period, waits and rates
pub record SameTimes (one other : Duty) : Type 0 where
  pub period : one.period ≡ other.period
  pub wait : one.wait ≡ other.wait
  pub wait_first : one.wait_first ≡ other.wait_first
  pub wait_second : one.wait_second ≡ other.wait_second
  pub rates : one.rates ≡ other.rates
