-- What `run` of the second program promises.
use Rattle.std.specs.Prelude.{◌≡◌, ℕ, Bool, true, false, List, [], ◌∷◌, map, Option, None, Some, IfSome, Result, codes}
use Rattle.sd_io.specs.outside.Pieces.{Pieces}
use Rattle.sd_files.specs.Answering.{Allowed, AtOnce, InWrites, MayWrite}
use Rattle.sd_files.specs.Statuses.{stop_of}
use Rattle.sd_files.specs.Texts.{Texts, texts_of}
use Rattle.sd_files.specs.declared.Status.{Status}
use Rattle.sd_files.specs.declared.Status.TheVariants.{Done, PlanRefused, Usage, InputRefused, Broken}
use Rattle.sd_files.specs.declared.command_error.IoError.{IoError}
use Rattle.sd_files.specs.work.Ending.{LeavesAt}
use Rattle.sd_files.specs.work.Leaving.{Leaves}
use Rattle.sd_record.specs.merge.Works.{IsMerging}
use Rattle.sd_record.specs.Recordings.{IsRecording}
use Rattle.sd_resume.specs.command.Resumes.{IsResuming}
use Rattle.sd_ctl_top.specs.Bounded.{IsBounding}
use Rattle.sd_ctl_top.specs.Findings.{IsRenewing, IsSearch}
use Rattle.sd_ctl_top.specs.Reasons.{IsReasoning}
use Rattle.sd_ctl_top.specs.Words.{Command, command_of}
use Rattle.sd_ctl_top.specs.Words.Command.{Search, Renew, Why, Bounds, Resume, Record, Merge, Version}

-- the usage line, with its status
abbrev pub IsUsageLine : Allowed
IsUsageLine bytes status =
    (bytes
    ≡ codes "usage: sundialctl search TOPOLOGY BASE HOLD SEED STEPS | renew TOPOLOGY PLAN ABSENT BASE HOLD SEED STEPS | why TOPOLOGY | bounds TOPOLOGY PLAN BASE HOLD | resume TOPOLOGY PLAN.. SCHEDULE / PLAN.. OPENING | record TOPOLOGY PLAN.. LOG | merge LOGS FEED | version\n")
    × (status ≡ Usage)

-- the version of both programs
abbrev pub IsVersionLine : Allowed
IsVersionLine bytes status = (bytes ≡ codes "version 1.0.0\n") × (status ≡ Done)

-- what is promised of a command
pub record Task : Type 1 where
  -- what it writes, write by write, with its status, over the texts of its files
  pub Writes : Texts → MayWrite
  -- the statuses that it answers, whatever its files are
  pub gives : List Status
  -- whether it writes step by step; else it writes once, when all of its work is done
  pub in_steps : Bool

-- a command that writes once, when its files are read whole
abbrev pub once : List Status → (Texts → Allowed) → Task
once statuses Answers = record { Writes = λ texts. InWrites AtOnce (Answers texts); gives = statuses; in_steps = false }

-- a command that writes as it goes: for each line of its last file, or for each domain of its plan
abbrev pub step_by_step : List Status → (Texts → MayWrite) → Task
step_by_step statuses Writes = record { Writes = Writes; gives = statuses; in_steps = true }

-- each command, and words that are none
abbrev pub task_of : Option Command → Task
task_of None = once (Usage ∷ []) (λ texts. IsUsageLine)
task_of (Some (Search topology settings)) = once (Done ∷ PlanRefused ∷ InputRefused ∷ []) (λ texts. IsSearch settings.budget (texts topology))
task_of (Some (Renew topology plan absent settings)) =
    once (Done ∷ PlanRefused ∷ InputRefused ∷ []) (λ texts. IsRenewing settings.budget (texts topology) (texts plan) (texts absent))
task_of (Some (Why topology)) = once (Done ∷ PlanRefused ∷ InputRefused ∷ []) (λ texts. IsReasoning (texts topology))
task_of (Some (Bounds topology plan budget)) =
    step_by_step (Done ∷ PlanRefused ∷ InputRefused ∷ []) (λ texts. IsBounding (texts topology) (texts plan) budget)
task_of (Some (Resume topology plans left schedule opening)) =
    once (Done ∷ PlanRefused ∷ InputRefused ∷ Broken ∷ [])
    (λ texts. IsResuming (texts topology) (map texts plans) left (texts schedule) (texts opening))
task_of (Some (Record topology plans log)) =
    step_by_step (Done ∷ PlanRefused ∷ InputRefused ∷ []) (λ texts. IsRecording (texts topology) (map texts plans) (texts log))
task_of (Some (Merge logs feed)) = step_by_step (InputRefused ∷ Done ∷ []) (λ texts. IsMerging logs (texts feed))
task_of (Some Version) = once (Done ∷ []) (λ texts. IsVersionLine)

-- what a run wrote, with its status, is what the task allows
abbrev pub Meets : Task → Texts → Option Pieces → Option Pieces → Status → Type 0
Meets task texts old new status = Leaves (stop_of status) task.in_steps (task.Writes texts) old new status

-- What a run wrote over what the shelf holds, where that is told, is what its command writes. Where it was stopped before, one that writes once has written
-- nothing, and one that writes step by step the whole lines of its first steps.
unfoldable pub MeetsOutcome : Option (List ℕ → Option (List ℕ)) → List (List ℕ) → Option Pieces → Option Pieces → Status → Type 0
MeetsOutcome held words old new status = IfSome held (λ h. Meets (task_of (command_of words)) (texts_of h) old new status)

-- the same of a run that has not yet turned what stopped it into a status
unfoldable pub MeetsResult : Option (List ℕ → Option (List ℕ)) → List (List ℕ) → Option Pieces → Option Pieces → Result Status IoError → Type 0
MeetsResult held words old new result =
    IfSome held
    (λ h. LeavesAt (task_of (command_of words)).in_steps ((task_of (command_of words)).Writes (texts_of h)) old new result)
