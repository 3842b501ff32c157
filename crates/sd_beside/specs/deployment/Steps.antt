-- What each step of a deployed fleet keeps: a struct, with what its host keeps beside it, stands for the life of its device. So a call of a struct that was
-- restored and rebased, however often, does what its life says.
use Rattle.std.specs.Prelude.{◌≡◌, ℕ, ◌-◌, ◌≤◌, IfSome}
use Rattle.sd_num.specs.declared.clock.Report.{Report}
use Rattle.sd_device.specs.declared.Effect.{Effect}
use Rattle.sd_device.specs.declared.registers.Registers.{Registers}
use Rattle.sd_device.specs.Calls.{Making, Call}
use Rattle.sd_device.specs.Living.{Life}
use Rattle.sd_device.specs.Words.{counter_of, effect_of, report_at}
use Rattle.sd_device.specs.Lives.{past_of, longer, IsOrderly}
use Rattle.sd_device.specs.Rules.{called, report_in}
use Rattle.sd_device.specs.Standing.{registers_of, alone}
use Rattle.sd_device.specs.Rebases.{call_lowered, IsSteady, StandsLowered}
use Rattle.sd_exports.specs.Exports as exports
use Rattle.sd_history.specs.Steps.{Answers}
use Rattle.sd_history.specs.Chronicle.{answers_by}
use Rattle.sd_beside.specs.deployment.Deployment.{Kept, IsRestored, IsRebased, IsAnswered}

module _ {S : Type 0} (Holds : S → Registers → Type 0) where
  -- the struct is that of a device with this life, at counters that are lowered by this much
  abbrev pub StandsIn : Kept S → Life → Type 0
  StandsIn kept life = (r : Registers) × Holds kept.struct r × StandsLowered kept.lowered kept.since r life

  -- a struct that is made stands for its making
  abbrev pub MakingStands : Type 0
  MakingStands =
      (making : Making) (struct : S) → exports.IsMade Holds making struct
      → StandsIn (record { struct = struct; lowered = 0; since = 0 }) (alone making)

  -- one that is restored stands for the lives for which the latest one did
  abbrev pub RestoreStands : Type 0
  RestoreStands = (old new : Kept S) (life : Life) → IsRestored Holds old new → StandsIn old life → StandsIn new life

  -- and so does one that is rebased
  abbrev pub RebaseStands : Type 0
  RebaseStands = (old new : Kept S) (life : Life) → IsRebased Holds old new → StandsIn old life → StandsIn new life

  -- A call that leaves the registers as they are, as a receipt that does not count, is a restore.
  abbrev pub UnchangedIsRestored : Type 0
  UnchangedIsRestored =
      (kept : Kept S) (struct : S) (call : Call) (effect : Effect) → exports.IsCalled Holds kept.struct call struct effect
      → ((r : Registers) → Holds kept.struct r → (called r call).0 ≡ r)
      → IsRestored Holds kept (record { struct = struct; lowered = kept.lowered; since = kept.since })

  -- A commit takes up a duty of the ppm that the device has, unless its clock was set since the latest rebase: the second registers are those that a device of
  -- this life has where it was never rebased. In a fleet this holds, since all plans are of one topology.
  abbrev pub KeepsRate : Kept S → Life → Call → Type 0
  KeepsRate kept life call = (r : Registers) → Holds kept.struct r → IsSteady kept.lowered (registers_of (past_of life)) r call

  -- a call sends what the life says, and the struct that it leaves stands for the life with this call
  abbrev pub CallStands : Type 0
  CallStands =
      (kept : Kept S) (struct : S) (life : Life) (call : Call) (effect : Effect) → IsOrderly (longer life call) → StandsIn kept life
      → IfSome (counter_of call) (λ counter. kept.since ≤ counter) → KeepsRate kept life call
      → exports.IsCalled Holds kept.struct (call_lowered kept.lowered call) struct effect
      → StandsIn (record { struct = struct; lowered = kept.lowered; since = kept.since }) (longer life call) × (effect ≡ effect_of (past_of life) call)

  -- a report is what the life says
  abbrev pub ReportStands : Type 0
  ReportStands =
      (kept : Kept S) (life : Life) (counter : ℕ) (report : Report) → StandsIn kept life → kept.since ≤ counter
      → ((r : Registers) → Holds kept.struct r → report ≡ report_in r (counter - kept.lowered))
      → report ≡ report_at (past_of life) counter

  -- and so are the answers
  abbrev pub AnswersStand : Type 0
  AnswersStand =
      (kept : Kept S) (life : Life) (answers : Answers) → IsOrderly life → StandsIn kept life → IsAnswered Holds kept.struct answers
      → answers ≡ answers_by (past_of life)
