-- What may be written for the files of a recording: a topology, plans and a log.
use Rattle.std.specs.Prelude.{◌≡◌, ◌⊎◌, ℕ, List, Result, Ok, Err}
use Rattle.sd_io.specs.outside.Pieces.{Pieces}
use Rattle.sd_plan.specs.topo.Network.{Each, Network}
use Rattle.sd_plan.specs.declared.Plan.{Plan}
use Rattle.sd_history.specs.World.{setting_over}
use Rattle.sd_files.specs.Answering.{AtOnce, InWrites, MayWrite}
use Rattle.sd_checker.specs.Conditions.{IsAccepted}
use Rattle.sd_files.specs.Inputs.{topology_of}
use Rattle.sd_files.specs.Reasons.{refusal_line}
use Rattle.sd_files.specs.declared.Status.{Status}
use Rattle.sd_files.specs.declared.Status.TheVariants.{InputRefused}
use Rattle.sd_files.specs.declared.command_error.Refusal.{Refusal}
use Rattle.sd_files.specs.planfiles.PlanFiles.{AfterAllPlans, AreRead}
use Rattle.sd_files.specs.planfiles.Refusing.{Nothing}
use Rattle.sd_files.specs.work.Works.{InSteps, IsOutcome}
use Rattle.sd_record.specs.Works.{record_work}

-- the log is recorded over these plans: what each of its lines adds is written by one write
abbrev pub RecordsOver : Network → List Plan → (log : List ℕ) → MayWrite
RecordsOver net plans log =
    InWrites (InSteps (record_work (setting_over net plans)) log) (IsOutcome (record_work (setting_over net plans)) log)

-- the plans were read, each is accepted, and the log is recorded over them
pub record RecordsBehind (net : Network) (plans : List (List ℕ)) (log : List ℕ) (pieces : Pieces) (status : Status) : Type 0 where
  pub read : List Plan
  pub are : AreRead net 1 plans read
  pub accepted : Each (IsAccepted net) read
  pub records : RecordsOver net read log pieces status

-- a plan ends the command, by one write, or the log is recorded
abbrev pub MayRecord : Network → (plans : List (List ℕ)) → (log : List ℕ) → MayWrite
MayRecord net plans log pieces status = InWrites AtOnce (AfterAllPlans net plans Nothing) pieces status ⊎ RecordsBehind net plans log pieces status

-- after the file of a topology: where it is refused its line is written, by one write
abbrev pub RecordsAfter : Result Network Refusal → (plans : List (List ℕ)) → (log : List ℕ) → MayWrite
RecordsAfter (Ok net) plans log pieces status = MayRecord net plans log pieces status
RecordsAfter (Err why) plans log pieces status = InWrites AtOnce (λ bytes answer. (bytes ≡ refusal_line why) × (answer ≡ InputRefused)) pieces status

-- what may be written for the texts of the files, write by write
abbrev pub IsRecording : (topology : List ℕ) (plans : List (List ℕ)) (log : List ℕ) → MayWrite
IsRecording topology plans log pieces status = RecordsAfter (topology_of topology) plans log pieces status
