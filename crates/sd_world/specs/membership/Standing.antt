-- For which steps of a history a membership stands.
use Rattle.std.specs.Prelude.{◌≡◌, ℕ, ◌<◌, List, length, Option, Some, None, option_map, IfSome, IfNone, IsSome}
use Rattle.sd_num.specs.Lists.{at_place}
use Rattle.sd_plan.specs.declared.Duty.{Duty}
use Rattle.sd_sched.specs.Events.{device_of}
use Rattle.sd_history.specs.World.{Setting}
use Rattle.sd_history.specs.Steps as steps
use Rattle.sd_history.specs.Steps.{Step, seen_of, answers_in, changed}
use Rattle.sd_world.specs.world.Standing as world
use Rattle.sd_world.specs.declared.membership.AnswerSummary.{AnswerSummary}
use Rattle.sd_world.specs.membership.Plans.{AreSound, numbered}
use Rattle.sd_world.specs.membership.Memberships.{Registers, IsSound}

-- what of its answers is kept: of a given duty its number alone
abbrev pub summary : steps.Answers → AnswerSummary
summary a = record { parent = a.parent; acts = a.acts; epoch = a.epoch; given = option_map (λ (duty : Duty). duty.epoch) a.given; sealed = a.sealed }

-- the membership is told what the device of the step answers, just where the step makes or calls it
pub record IsTold (s : Step) (told : Option AnswerSummary) : Type 0 where
  pub changed_named : IfSome (changed s.act) (λ d. device_of s.seen.event ≡ Some d)
  pub changed_answers : IfSome (changed s.act) (λ d. IsSome s.told.answers)
  pub changed_told : IfSome (changed s.act) (λ d. told ≡ option_map summary s.told.answers)
  pub others : IfNone (changed s.act) (told ≡ None)

-- The membership keeps what the words on histories say of these steps over this network with these plans: the world, and what each device
-- answered last.
pub record Stands (r : Registers) (setting : Setting) (steps : List Step) : Type 0 where
  pub sound : IsSound r
  pub sound_plans : AreSound setting.net setting.plans
  pub device_count : length r.answers ≡ length setting.net.devices
  pub plans : r.plans ≡ numbered setting.net setting.plans
  pub world : world.Stands r.world setting (seen_of steps)
  pub answers : (d : ℕ) → d < length setting.net.devices → at_place r.answers d None (λ a. a) ≡ option_map summary (answers_in steps d)
