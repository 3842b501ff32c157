-- When two worlds agree, in what they keep.
use Rattle.std.specs.Prelude.{◌≡◌, ℕ, ◌+◌, ◌<◌, true, false}
use Rattle.sd_plan.specs.declared.topo.Thing.TheVariants.{Device, Link}
use Rattle.sd_world.specs.world.Registers.{Registers, up_at, failed_at, reading_at, is_open}
use Rattle.sd_resume.specs.law.Shifts.{Shift}

-- both are between two windows, at one time, and the same plan is in force
pub record MomentsAgree (shift : Shift) (one other : Registers) : Type 0 where
  pub shut : is_open one.window ≡ false
  pub shut_other : is_open other.window ≡ false
  pub time : one.reference ≡ other.reference
  pub epoch : one.epoch ≡ other.epoch + shift.plans
  pub ended : one.ended ≡ other.ended

-- of one device both know the same
pub record StatesAgree (one other : Registers) (d : ℕ) : Type 0 where
  pub up : up_at one d ≡ up_at other d
  pub failed : failed_at one (Device d) ≡ failed_at other (Device d)
  pub reading : up_at other d ≡ true → reading_at one d ≡ reading_at other d

-- of the first links both know the same
abbrev pub LinksAgree : (one other : Registers) → ℕ → Type 0
LinksAgree one other count = (l : ℕ) → l < count → failed_at one (Link l) ≡ failed_at other (Link l)
