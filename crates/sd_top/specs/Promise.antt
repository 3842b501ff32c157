-- What `run` promises: what each command writes and answers over the texts of its files, and what it leaves where it is stopped.
use Rattle.std.specs.Prelude.{◌≡◌, ◌+◌, ◌≤◌, ℕ, Bool, true, false, List, [], ◌∷◌, length, map, Option, None, Some, IfSome, codes}
use Rattle.sd_sched.specs.declared.Event.{Event}
use Rattle.sd_history.specs.World.{Setting}
use Rattle.sd_io.specs.outside.Pieces.{Pieces}
use Rattle.sd_files.specs.Answering.{AtOnce, InWrites, Allowed, MayWrite}
use Rattle.sd_files.specs.Inputs.{topology_of}
use Rattle.sd_files.specs.Statuses.{stop_of}
use Rattle.sd_files.specs.Texts.{Texts, texts_of}
use Rattle.sd_files.specs.declared.Status.{Status}
use Rattle.sd_files.specs.declared.Status.TheVariants.{Done, PlanRefused, Usage, InputRefused, Broken}
use Rattle.sd_gen.specs.command.Cases.{IsCase}
use Rattle.sd_top.specs.Checks.{IsCheck}
use Rattle.sd_top.specs.Drills.{DrillInSteps, IsDrill}
use Rattle.sd_top.specs.Migration.{IsMigration}
use Rattle.sd_top.specs.Plannings.{IsPlanOf, IsRenewal}
use Rattle.sd_commands.specs.replay.Loaded.{RunsInSteps}
use Rattle.sd_commands.specs.replay.Replays.{IsRun, order_work, replay_work, refused_over as refused_behind}
use Rattle.sd_files.specs.work.Leaving.{Leaves}
use Rattle.sd_files.specs.work.Works.{InSteps, Work, reading, refused_part}
use Rattle.sd_top.specs.Replays.{RunsTruly}
use Rattle.sd_top.specs.Schedules.{IsSolo, ReportsTruly, solo_work}
use Rattle.sd_top.specs.Twoways.{BoundsTruly, IsTwoway, TwowayInSteps, refused_over}
use Rattle.sd_top.specs.Words.{Command, command_of}
use Rattle.sd_top.specs.Words.Command.{Solo, Plan as PlanOf, Check, Renew, Replay, Case, Migrate, Order, Twoway, Drill}

-- what is promised of a command
pub record Task : Type 1 where
  -- what it writes, with its status, over the texts of its files
  pub Answers : Texts → Allowed
  -- by which writes: all of it by one, or each step by one, and a step without lines by none
  pub cuts : Texts → Pieces → Type 0
  -- the statuses that it answers, whatever its files are
  pub gives : List Status
  -- whether it writes step by step; else it writes once, when all of its work is done
  pub in_steps : Bool
  -- of a text that it reads line by line, where it comes to that, what stands in it from the line on at which it is refused
  pub refused_part : Texts → Option (List ℕ)
  -- what else holds of what it writes, in terms of the clocks and networks that its files speak of
  pub holds : Texts → Type 0

-- a command that writes once, when its files are read whole
abbrev pub once : List Status → (Texts → Allowed) → Task
once statuses Writes =
    record { Answers = Writes; cuts = λ texts. AtOnce; gives = statuses; in_steps = false; refused_part = λ texts. None; holds = λ texts. Unit {0} }

-- a command that reads its last file line by line, and writes as it goes
abbrev pub line_by_line : List Status → (Texts → Allowed) → (Texts → Pieces → Type 0) → (Texts → Option (List ℕ)) → (Texts → Type 0) → Task
line_by_line statuses Writes Cuts refused Holds =
    record { Answers = Writes; cuts = Cuts; gives = statuses; in_steps = true; refused_part = refused; holds = Holds }

-- a command that reads whole files, and writes as it goes
abbrev pub step_by_step : List Status → (Texts → Allowed) → (Texts → Pieces → Type 0) → Task
step_by_step statuses Writes Cuts =
    record { Answers = Writes; cuts = Cuts; gives = statuses; in_steps = true; refused_part = λ texts. None; holds = λ texts. Unit {0} }

-- a command that reads a schedule over a topology and plans: such commands differ by the work that a schedule asks for
abbrev pub over_schedule : (Setting → Work Event) → (topology : List ℕ) (plans : List (List ℕ)) (schedule : List ℕ) → Task
over_schedule work topology plans schedule =
    line_by_line (Done ∷ PlanRefused ∷ InputRefused ∷ Broken ∷ []) (λ texts. IsRun work (texts topology) (map texts plans) (texts schedule))
    (λ texts. RunsInSteps work (texts topology) (map texts plans) (texts schedule))
    (λ texts. refused_behind (topology_of (texts topology)) (map texts plans) (texts schedule))
    (λ texts. RunsTruly work (texts topology) (map texts plans) (texts schedule))

-- the usage line, with its status
abbrev pub IsUsage : Allowed
IsUsage bytes status =
    (bytes ≡ codes "usage: sundial solo SCHEDULE | plan TOPOLOGY | check TOPOLOGY PLAN | renew TOPOLOGY PLAN ABSENT | replay TOPOLOGY PLAN.. SCHEDULE | case NUMBER LEAVES SPINES | migrate TOPOLOGY | order TOPOLOGY PLAN.. SCHEDULE | twoway TOPOLOGY EXCHANGES | drill TOPOLOGY PLAN BASE HOLD\n") × (status ≡ Usage)

-- each command, and words that are none
abbrev pub task_of : Option Command → Task
task_of None = once (Usage ∷ []) (λ texts. IsUsage)
task_of (Some (Solo schedule)) =
    line_by_line (Done ∷ InputRefused ∷ []) (λ texts. IsSolo (texts schedule)) (λ texts. InSteps solo_work (texts schedule))
    (λ texts. Some (refused_part solo_work (texts schedule)))
    (λ texts. ReportsTruly (reading solo_work (texts schedule)).taken)
task_of (Some (PlanOf topology)) = once (Done ∷ PlanRefused ∷ InputRefused ∷ []) (λ texts. IsPlanOf (texts topology))
task_of (Some (Check topology plan)) = once (Done ∷ PlanRefused ∷ InputRefused ∷ []) (λ texts. IsCheck (texts topology) (texts plan))
task_of (Some (Renew topology plan absent)) = once (Done ∷ PlanRefused ∷ InputRefused ∷ []) (λ texts. IsRenewal (texts topology) (texts plan) (texts absent))
task_of (Some (Replay topology plans schedule)) = over_schedule replay_work topology plans schedule
task_of (Some (Case number fabric)) = once (Done ∷ PlanRefused ∷ Broken ∷ []) (λ texts. IsCase number fabric.leaves fabric.spines)
task_of (Some (Migrate topology)) = once (Done ∷ InputRefused ∷ []) (λ texts. IsMigration (texts topology))
task_of (Some (Order topology plans schedule)) = over_schedule order_work topology plans schedule
task_of (Some (Twoway topology exchanges)) =
    line_by_line (Done ∷ InputRefused ∷ []) (λ texts. IsTwoway (texts topology) (texts exchanges))
    (λ texts. TwowayInSteps (texts topology) (texts exchanges))
    (λ texts. refused_over (topology_of (texts topology)) (texts exchanges))
    (λ texts. BoundsTruly (texts topology) (texts exchanges))
task_of (Some (Drill topology plan budget)) =
    step_by_step (Done ∷ PlanRefused ∷ InputRefused ∷ []) (λ texts. IsDrill (texts topology) (texts plan) budget)
    (λ texts. DrillInSteps (texts topology) (texts plan) budget)

-- the command writes these bytes and answers this status over the texts
abbrev pub Answers : Option Command → Texts → Allowed
Answers command texts bytes status = (task_of command).Answers texts bytes status

-- what it may write, write by write
abbrev pub WritesOf : Task → Texts → MayWrite
WritesOf task texts = InWrites (task.cuts texts) (task.Answers texts)

-- what a run wrote, with its status, is what the task allows
abbrev pub Meets : Task → Texts → Option Pieces → Option Pieces → Status → Type 0
Meets task texts old new status = Leaves (stop_of status) task.in_steps (WritesOf task texts) old new status

-- what the words write and answer over what the shelf holds, where that is told
unfoldable pub MeetsOutcome : Option (List ℕ → Option (List ℕ)) → List (List ℕ) → Option Pieces → Option Pieces → Status → Type 0
MeetsOutcome held words old new status = IfSome held (λ h. Meets (task_of (command_of words)) (texts_of h) old new status)

-- of a text that stands from a place on, at most 8192 bytes are no longer left
abbrev pub LeavesAfter : List ℕ → Option (List ℕ) → Type 0
LeavesAfter part None = ⊥
LeavesAfter part (Some rest) = length part ≤ length rest + 8192

-- a text that is refused at a line was read no further than 8192 bytes past the start of that line
unfoldable pub IsNearRefusal : Option (List ℕ → Option (List ℕ)) → List (List ℕ) → Option (List ℕ) → Type 0
IsNearRefusal held words rest = IfSome held (λ h. IfSome ((task_of (command_of words)).refused_part (texts_of h)) (λ part. LeavesAfter part rest))

-- what is promised besides of the texts
unfoldable pub KeepsPromise : Option (List ℕ → Option (List ℕ)) → List (List ℕ) → Type 0
KeepsPromise held words = IfSome held (λ h. (task_of (command_of words)).holds (texts_of h))
